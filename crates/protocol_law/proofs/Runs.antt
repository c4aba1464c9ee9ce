-- The invariants over whole runs, and what follows from them.
use Rattle.std.proofs.Common.{◌≡◌, ℕ, Bool, true, false, cond, ◌&&◌, eqb, List, [], ◌∷◌, Option, Some, None, refl, sym, ap, ◌∙◌, subst, arith, ◌⊎◌, inl, inr, ⊎_elim}
use Rattle.std.proofs.lemmas.Bool.Decides.{nat_tests}
use Rattle.std.proofs.lemmas.Bool.{cases_Bool}
use Rattle.commit_protocol.specs.Rows.{Key, after, touches, holds}
use Rattle.commit_protocol.specs.Backend.{Branch, Server, Request, Effect, find, effect, is_prepared}
use Rattle.commit_protocol.specs.Backend.Stage.{Prepared}
use Rattle.commit_protocol.specs.Backend.Request.{Commit, Rollback}
use Rattle.commit_protocol.specs.Backend.Effect.{Drop, Install}
use Rattle.commit_protocol.specs.Network.{Topology, Reply, dialled_now}
use Rattle.commit_protocol.specs.Protocol.{World, Decision, Move, decided_at, has_member, is_fresh, is_live, is_undecided, may_ask, asks, delivers, refuses, faults, reads, uses_connection, with_phase, with_connection, sees_hangup, may_decide, writes, recorded, happens, run, start}
use Rattle.commit_protocol.specs.Views.{is_member_of, done_on, done_at, decided_rows, with_pending, view_from, view, First, decides_member}
use Rattle.commit_protocol.specs.Protocol.Phase.{Live, Over}
use Rattle.commit_protocol.specs.Protocol.Move.{Draws, Dials, Uses, Sends, Delivers, Refuses, Faults, Reads, Breaks, Hangup_seen, Writes, Recorded, Gives_up, Stops, Front_stops, Reopens}
use Rattle.protocol_law.proofs.Branches.{find_xid}
use Rattle.protocol_law.proofs.Logs.{untouched}
use Rattle.protocol_law.proofs.Effects as known
use Rattle.protocol_law.proofs.Effects.Did.{Kept, Showed, Begun, Grew, Closed, Readied, Dropped, Installed}
use Rattle.protocol_law.proofs.Traffic.{IsOrderly, IsAllowed, AreAllowed, Waits, guarded, unless}
use Rattle.protocol_law.proofs.Orderly.{orderly_happens, orderly_start}
use Rattle.protocol_law.proofs.Matched.{IsMatched, fresh_none, matched_happens, matched_start}
use Rattle.protocol_law.proofs.Serial.{IsSerial, counts, same_held, has_branch, serial_happens, serial_start}
use Rattle.protocol_law.proofs.Waiting.{waits_happens, waits_start}

-- all that holds of each world of a run
pub record IsSound (f : Topology) (w : World) : Type 0 where
  pub waits : Waits f w
  pub orderly : IsOrderly f w
  pub matched : IsMatched f w
  pub serial : IsSerial f w

pub sound_happens : (f : Topology) (w : World) (m : Move) → IsSound f w → IsSound f (happens f w m)
sound_happens f w m i = record {
  waits = waits_happens f w m i.waits;
  orderly = orderly_happens f w m i.waits i.orderly;
  matched = matched_happens f w m i.orderly i.matched;
  serial = serial_happens f w m i.waits i.orderly i.matched i.serial;
}

pub sound_run : (f : Topology) (ms : List Move) (w : World) → IsSound f w → IsSound f (run f ms w)
sound_run f [] w i = i
sound_run f (m ∷ ms) w i = sound_run f ms (happens f w m) (sound_happens f w m i)

pub sound : (f : Topology) (ms : List Move) → IsSound f (run f ms start)
sound f ms = sound_run f ms start (record { waits = waits_start f; orderly = orderly_start f; matched = matched_start f; serial = serial_start f })

-- what counts is the decided rows, or what is committed where no decision of the list touches the key
abbrev pub NoneTouches : Topology → ℕ → List Branch → List Decision → Key → Type 0
NoneTouches f s bs [] k = Unit {0}
NoneTouches f s bs (d ∷ ds) k = ((b : Branch) → find d.number bs ≡ Some b → (is_prepared b.stage && has_member f s d.members) ≡ true → touches b.log k ≡ false) × NoneTouches f s bs ds k

view_cases : (f : Topology) (w : World) (s : ℕ) (k : Key) → IsSerial f w → (ds : List Decision) → ((x : ℕ) → decided_at f ds x s ≡ true → decided_at f w.history x s ≡ true)
    → (view_from f s (w.server s) ds k ≡ decided_rows f s w.history k) ⊎ ((view_from f s (w.server s) ds k ≡ (w.server s).rows k) × NoneTouches f s (w.server s).branches ds k)
view_cases f w s k i [] h = inr (refl, tt)
view_cases f w s k i (d ∷ ds) h = go (find d.number (w.server s).branches) refl (view_cases f w s k i ds (λ x m. h x (grind (arith, nat_tests))))
  where
    go : (o : Option Branch) → find d.number (w.server s).branches ≡ o → (view_from f s (w.server s) ds k ≡ decided_rows f s w.history k) ⊎ ((view_from f s (w.server s) ds k ≡ (w.server s).rows k) × NoneTouches f s (w.server s).branches ds k)
        → (with_pending f s d (view_from f s (w.server s) ds) o k ≡ decided_rows f s w.history k) ⊎ ((with_pending f s d (view_from f s (w.server s) ds) o k ≡ (w.server s).rows k) × NoneTouches f s (w.server s).branches (d ∷ ds) k)
    go None e (inl p) = inl p
    go None e (inr p) = inr (p.0, ((λ b g. cc (e, g)), p.1))
    go (Some b) e p = elim (is_prepared b.stage && has_member f s d.members) as (λ v. (is_prepared b.stage && has_member f s d.members) ≡ v → (cond v (after (view_from f s (w.server s) ds) b.log) (view_from f s (w.server s) ds) k ≡ decided_rows f s w.history k) ⊎ ((cond v (after (view_from f s (w.server s) ds) b.log) (view_from f s (w.server s) ds) k ≡ (w.server s).rows k) × NoneTouches f s (w.server s).branches (d ∷ ds) k)) [
      | true ↦ λ t. ⊎_elim
          (λ (q : touches b.log k ≡ true). inl (i.pend s d.number b k e (counting t) q (view_from f s (w.server s) ds)))
          (λ (q : touches b.log k ≡ false). ⊎_elim
          (λ (z : view_from f s (w.server s) ds k ≡ decided_rows f s w.history k). inl (untouched (view_from f s (w.server s) ds) b.log k q ∙ z))
          (λ (z : (view_from f s (w.server s) ds k ≡ (w.server s).rows k) × NoneTouches f s (w.server s).branches ds k). inr (untouched (view_from f s (w.server s) ds) b.log k q ∙ z.0, ((λ a g n. same a g q), z.1)))
          p)
          (cases_Bool (touches b.log k))
      | false ↦ λ t. ⊎_elim
          (λ (z : view_from f s (w.server s) ds k ≡ decided_rows f s w.history k). inl z)
          (λ (z : (view_from f s (w.server s) ds k ≡ (w.server s).rows k) × NoneTouches f s (w.server s).branches ds k). inr (z.0, ((λ a g n. off a g n t), z.1)))
          p
    ] refl
      where
        counting : (is_prepared b.stage && has_member f s d.members) ≡ true → counts f w.history s b ≡ true
        counting t =
            let number : b.xid ≡ d.number = find_xid d.number b _ e in
            let m : decided_at f w.history b.xid s ≡ true = h b.xid (grind (arith, nat_tests)) in
            grind arith

        one : (a : Branch) → find d.number (w.server s).branches ≡ Some a → b ≡ a
        one a g = let same : ◌≡◌ {A = Option Branch} (Some b) (Some a) = sym e ∙ g in cc

        same : (a : Branch) → find d.number (w.server s).branches ≡ Some a → touches b.log k ≡ false → touches a.log k ≡ false
        same a g q = ap (λ (z : Branch). touches z.log k) (sym (one a g)) ∙ q

        off : (a : Branch) → find d.number (w.server s).branches ≡ Some a → (is_prepared a.stage && has_member f s d.members) ≡ true → (is_prepared b.stage && has_member f s d.members) ≡ false → touches a.log k ≡ false
        off a g n t = let m : (is_prepared b.stage && has_member f s d.members) ≡ true = ap (λ (z : Branch). is_prepared z.stage && has_member f s d.members) (one a g) ∙ n in cc (m, t)

none_counting : (f : Topology) (s : ℕ) (bs : List Branch) (ds : List Decision) (k : Key) → NoneTouches f s bs ds k → (x : ℕ) (b : Branch) → find x bs ≡ Some b → counts f ds s b ≡ true → touches b.log k ≡ false
none_counting f s bs [] k h x b g n = let bad : counts f [] s b ≡ false = grind arith in cc (bad, n)
none_counting f s bs (d ∷ ds) k h x b g n = ⊎_elim
    (λ (t : (eqb d.number b.xid && has_member f s d.members) ≡ true).
    let same : d.number ≡ x = grind (arith, nat_tests, find_xid x b bs g) in
    h.0 b (ap (λ z. find z bs) same ∙ g) (grind arith))
    (λ (t : (eqb d.number b.xid && has_member f s d.members) ≡ false). none_counting f s bs ds k h.1 x b g (grind arith))
    (cases_Bool (eqb d.number b.xid && has_member f s d.members))

-- what counts of a server is its decided rows
pub view_is : (f : Topology) (w : World) → IsSerial f w → (s : ℕ) (k : Key) → view f w s k ≡ decided_rows f s w.history k
view_is f w i s k = ⊎_elim
    (λ (p : view f w s k ≡ decided_rows f s w.history k). p)
    (λ (p : (view f w s k ≡ (w.server s).rows k) × NoneTouches f s (w.server s).branches w.history k). p.0 ∙ i.base s k (none_counting f s (w.server s).branches w.history k p.1))
    (view_cases f w s k i w.history (λ x m. m))

-- ---- decisions stand

pub first_allowed : (f : Topology) (w : World) (c : ℕ) (r : Request) (q : List Request) → First r q → AreAllowed f w c q → (rest : List Request) × IsAllowed f w c rest r
first_allowed f w c r [] h a = absurd h
first_allowed f w c r (p ∷ q) h a = (q, subst (λ z. IsAllowed f w c q z) h a.0)

dropped_is : (s : Server) (c : ℕ) (r : Request) (e : Effect) (b : Branch) → known.Did s c r e → e ≡ Drop b → r ≡ Rollback b.xid
dropped_is s c r e b Kept h = cc
dropped_is s c r e b Showed h = cc
dropped_is s c r e b (Begun f o) h = cc
dropped_is s c r e b (Grew f mine stage free right locks) h = cc
dropped_is s c r e b (Closed f mine stage) h = cc
dropped_is s c r e b (Readied f mine stage) h = cc
dropped_is s c r e b (Dropped {b = d} f w) h = let same : d ≡ b = cc in ap (λ (z : Branch). Rollback z.xid) same
dropped_is s c r e b (Installed f stage) h = cc

installed_is : (s : Server) (c : ℕ) (r : Request) (e : Effect) (b : Branch) → known.Did s c r e → e ≡ Install b → r ≡ Commit b.xid
installed_is s c r e b Kept h = cc
installed_is s c r e b Showed h = cc
installed_is s c r e b (Begun f o) h = cc
installed_is s c r e b (Grew f mine stage free right locks) h = cc
installed_is s c r e b (Closed f mine stage) h = cc
installed_is s c r e b (Readied f mine stage) h = cc
installed_is s c r e b (Dropped f w) h = cc
installed_is s c r e b (Installed {b = d} f stage) h = let same : d ≡ b = cc in ap (λ (z : Branch). Commit z.xid) same

pub no_rollback : (f : Topology) (w : World) (c : ℕ) (r : Request) (b : Branch) → IsOrderly f w → First r (w.connection c).queue → effect (w.server (f.home c)) c r ≡ Drop b → decided_at f w.history b.xid (f.home c) ≡ false
no_rollback f w c r b o h e =
    let a = first_allowed f w c r _ h (o.sent c) in
    (subst (λ z. IsAllowed f w c a.0 z) (dropped_is _ c r _ b (known.did _ c r (o.locked (f.home c)).distinct) e) a.1).1

pub commits : (f : Topology) (w : World) (c : ℕ) (r : Request) (b : Branch) → IsOrderly f w → First r (w.connection c).queue → effect (w.server (f.home c)) c r ≡ Install b → decided_at f w.history b.xid (f.home c) ≡ true
commits f w c r b o h e =
    let a = first_allowed f w c r _ h (o.sent c) in
    subst (λ z. IsAllowed f w c a.0 z) (installed_is _ c r _ b (known.did _ c r (o.locked (f.home c)).distinct) e) a.1

-- ---- held keys stay

-- the move may make the record in progress a decision
abbrev pub is_deciding : Move → Bool
is_deciding (Draws x) = false
is_deciding (Dials c) = false
is_deciding (Uses c x) = false
is_deciding (Sends c r) = false
is_deciding (Delivers c) = false
is_deciding (Refuses c) = false
is_deciding (Faults c found) = false
is_deciding (Reads c) = false
is_deciding (Breaks c) = false
is_deciding (Hangup_seen c) = false
is_deciding (Writes x ms) = false
is_deciding Recorded = true
is_deciding (Gives_up x) = false
is_deciding (Stops s) = false
is_deciding Front_stops = false
is_deciding (Reopens found) = true

-- each move but these leaves the history
pub same_history : (f : Topology) (w : World) (m : Move) → is_deciding m ≡ false → (happens f w m).history ≡ w.history
same_history f w (Draws x) h = guarded (λ v. v.history ≡ w.history) (is_fresh (w.transaction x).phase) (with_phase w x Live) w refl (λ t. refl)
same_history f w (Dials c) h = unless (λ v. v.history ≡ w.history) (w.connection c).dialled (with_connection w c (dialled_now (w.connection c))) w refl (λ t. refl)
same_history f w (Uses c x) h = guarded (λ v. v.history ≡ w.history) _ (uses_connection w c x) w refl (λ t. refl)
same_history f w (Sends c r) h = guarded (λ v. v.history ≡ w.history) (may_ask f w c r) (asks f w c r) w refl (λ t. refl)
same_history f w (Delivers c) h = go (w.connection c).queue
  where
    go : (q : List Request) → (delivers f w c q).history ≡ w.history
    go [] = refl
    go (r ∷ q) = refl
same_history f w (Refuses c) h = go (w.connection c).queue
  where
    go : (q : List Request) → (refuses f w c q).history ≡ w.history
    go [] = refl
    go (r ∷ q) = refl
same_history f w (Faults c found) h = go (w.connection c).queue
  where
    go : (q : List Request) → (faults f w c found q).history ≡ w.history
    go [] = refl
    go (r ∷ q) = refl
same_history f w (Reads c) h = go (w.connection c).unread
  where
    go : (q : List Reply) → (reads w c q).history ≡ w.history
    go [] = refl
    go (r ∷ q) = refl
same_history f w (Breaks c) h = refl
same_history f w (Hangup_seen c) h = unless (λ v. v.history ≡ w.history) (w.connection c).stands (sees_hangup f w c) w refl (λ t. refl)
same_history f w (Writes x ms) h = guarded (λ v. v.history ≡ w.history) (may_decide f w x ms) (writes w x ms) w refl (λ t. refl)
same_history f w Recorded h = cc
same_history f w (Gives_up x) h = guarded (λ v. v.history ≡ w.history) (is_live (w.transaction x).phase) (with_phase w x Over) w refl (λ t. refl)
same_history f w (Stops s) h = refl
same_history f w Front_stops h = refl
same_history f w (Reopens found) h = cc

-- a decision leaves what another transaction's branch holds
held_recorded : (f : Topology) (w : World) (p : Option Decision) → w.pending ≡ p → IsSound f w → (s y : ℕ) (k : Key) (b : Branch) → find y (w.server s).branches ≡ Some b → holds b.log k ≡ true → is_member_of f p y s ≡ false
    → decided_rows f s (recorded w p).history k ≡ decided_rows f s w.history k
held_recorded f w None e i s y k b h held n = refl
held_recorded f w (Some d) e i s y k b h held n =
    let waits = i.waits d e in
    untouched (decided_rows f s w.history) (done_at f s d.members d.log) k (same_held f w d i.orderly s (has_branch f w d waits i.orderly i.matched s) y b h (⊎_elim
    (λ (t : has_member f s d.members ≡ true). inl (λ q. grind (arith, nat_tests)))
    (λ (t : has_member f s d.members ≡ false). inr t)
    (cases_Bool (has_member f s d.members))) k held)

pub held_stays : (f : Topology) (w : World) (m : Move) → IsSound f w → (s x : ℕ) (k : Key) (b : Branch) → find x (w.server s).branches ≡ Some b → holds b.log k ≡ true → decides_member f w m x s ≡ false → view f (happens f w m) s k ≡ view f w s k
held_stays f w m i s x k b h held n = view_is f (happens f w m) (sound_happens f w m i).serial s k ∙ go m n ∙ sym (view_is f w i.serial s k)
  where
    go : (m : Move) → decides_member f w m x s ≡ false → decided_rows f s (happens f w m).history k ≡ decided_rows f s w.history k
    go (Draws y) n = ap (λ z. decided_rows f s z k) (same_history f w (Draws y) refl)
    go (Dials c) n = ap (λ z. decided_rows f s z k) (same_history f w (Dials c) refl)
    go (Uses c y) n = ap (λ z. decided_rows f s z k) (same_history f w (Uses c y) refl)
    go (Sends c r) n = ap (λ z. decided_rows f s z k) (same_history f w (Sends c r) refl)
    go (Delivers c) n = ap (λ z. decided_rows f s z k) (same_history f w (Delivers c) refl)
    go (Refuses c) n = ap (λ z. decided_rows f s z k) (same_history f w (Refuses c) refl)
    go (Faults c found) n = ap (λ z. decided_rows f s z k) (same_history f w (Faults c found) refl)
    go (Reads c) n = ap (λ z. decided_rows f s z k) (same_history f w (Reads c) refl)
    go (Breaks c) n = refl
    go (Hangup_seen c) n = ap (λ z. decided_rows f s z k) (same_history f w (Hangup_seen c) refl)
    go (Writes y ms) n = ap (λ z. decided_rows f s z k) (same_history f w (Writes y ms) refl)
    go Recorded n = held_recorded f w w.pending refl i s x k b h held n
    go (Gives_up y) n = ap (λ z. decided_rows f s z k) (same_history f w (Gives_up y) refl)
    go (Stops t) n = refl
    go Front_stops n = refl
    go (Reopens true) n = held_recorded f w w.pending refl i s x k b h held n
    go (Reopens false) n = refl

-- ---- who is ready did what the front was told

pub told : (f : Topology) (w : World) → IsSound f w → (x s : ℕ) → is_undecided (w.transaction x).phase ≡ true → (w.transaction x).ready s ≡ true
    → (c : ℕ) × (b : Branch) × ((w.transaction x).asked s ≡ Some c) × (find x (w.server s).branches ≡ Some b) × (b.stage ≡ Prepared) × (b.log ≡ done_on c (w.transaction x).log)
told f w i x s undecided ready =
    let k = i.matched.ready x s undecided ready in
    let here : f.home k.0 ≡ s = i.orderly.at_home x s k.0 k.2 in
    let asked : (w.transaction x).asked (f.home k.0) ≡ Some k.0 = ap (w.transaction x).asked here ∙ k.2 in
    let there : find x (w.server (f.home k.0)).branches ≡ Some k.1 = ap (λ z. find x (w.server z).branches) here ∙ k.3 in
    (k.0, k.1, k.2, k.3, k.4, i.matched.frozen x k.0 k.1 undecided asked there k.5)

-- who has a branch has drawn its number
pub drawn : (f : Topology) (w : World) → IsSound f w → (x s : ℕ) (b : Branch) → find x (w.server s).branches ≡ Some b → is_fresh (w.transaction x).phase ≡ false
drawn f w i x s b h = ⊎_elim
    (λ (t : is_fresh (w.transaction x).phase ≡ true). absurd (fresh_none f w i.orderly x s b t h))
    (λ (t : is_fresh (w.transaction x).phase ≡ false). t)
    (cases_Bool (is_fresh (w.transaction x).phase))
