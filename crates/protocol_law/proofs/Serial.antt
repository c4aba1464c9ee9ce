-- What counts of each server is its decided rows, and its own history is serial.
use Rattle.std.proofs.Common.{◌≡◌, ◌≢◌, ℕ, Bool, true, false, cond, ◌&&◌, ◌||◌, eqb, List, [], ◌∷◌, Option, Some, None, refl, sym, ap, ◌∙◌, subst, arith, ◌⊎◌, inl, inr, ⊎_elim, eqb-true}
use Rattle.std.proofs.lemmas.Bool.Decides.{nat_tests}
use Rattle.std.proofs.lemmas.Bool.{cases_Bool, cases_eq}
use Rattle.commit_protocol.specs.Rows.{Key, Table, Footprint, Operation, footprint_of, covers, after, IsRight, AreRight, touches, owns, holds}
use Rattle.commit_protocol.specs.Rows.Operation.{Scanned, Changed}
use Rattle.commit_protocol.specs.Backend.{Branch, Server, Request, Effect, find, is_prepared, kept, without, blocked, done, hung_up, stopped}
use Rattle.commit_protocol.specs.Backend.Request.{Prepare}
use Rattle.commit_protocol.specs.Network.{Topology, Connection, Reply, set, dialled_now, broken}
use Rattle.commit_protocol.specs.Protocol.{World, Transaction, Step, Phase, Decision, Move, is_fresh, is_live, is_writing, is_over, is_undecided, decided_at, has_member, is_member, may_ask, asks, asking, serves, delivers, refuses, faults, reads, may_decide, are_ready, is_at, writes, recorded, new_boot, uses_connection, with_phase, with_connection, sees_hangup, stops, front_stops, happens, start}
use Rattle.commit_protocol.specs.Views.{done_on, done_at, decided_rows, IsSerialAt}
use Rattle.commit_protocol.specs.Backend.Effect.{Keep}
use Rattle.commit_protocol.specs.Network.Reply.{Refused}
use Rattle.commit_protocol.specs.Protocol.Phase.{Fresh, Live, Writing, Over}
use Rattle.commit_protocol.specs.Protocol.Move.{Draws, Dials, Uses, Sends, Delivers, Refuses, Faults, Reads, Breaks, Hangup_seen, Writes, Recorded, Gives_up, Stops, Front_stops, Reopens}
use Rattle.protocol_law.proofs.Branches.{find_xid, find_kept, find_kept_there, find_without}
use Rattle.protocol_law.proofs.Logs.{touched_is_owned, clear_of, owned_is_held, owned_is_held_by_none, untouched, touched, same_after, still_right}
use Rattle.protocol_law.proofs.Effects as known
use Rattle.protocol_law.proofs.Effects.Did.{Kept, Showed, Begun, Grew, Closed, Readied, Dropped, Installed}
use Rattle.protocol_law.proofs.Locks.{not_blocked}
use Rattle.protocol_law.proofs.Traffic.{IsOrderly, IsAllowed, AreAllowed, IsWaiting, Waits, set_cases, guarded, unless, ready_member}
use Rattle.protocol_law.proofs.Frames.{with_server}
use Rattle.protocol_law.proofs.Serving.{orderly_serves, says_left, did_left}
use Rattle.protocol_law.proofs.Matched.{IsMatched, Track, track, stays_but, is_install}
use Rattle.protocol_law.proofs.Matched.Track.{Is_new, Has_grown, Is_same}

-- ---- the invariant

abbrev pub counts : Topology → List Decision → ℕ → Branch → Bool
counts f h s b = is_prepared b.stage && decided_at f h b.xid s

pub record IsSerial (f : Topology) (w : World) : Type 0 where
  pub right : (s x : ℕ) (b : Branch) → find x (w.server s).branches ≡ Some b → counts f w.history s b ≡ false → AreRight (decided_rows f s w.history) b.log
  pub base : (s : ℕ) (k : Key) → ((x : ℕ) (b : Branch) → find x (w.server s).branches ≡ Some b → counts f w.history s b ≡ true → touches b.log k ≡ false) → (w.server s).rows k ≡ decided_rows f s w.history k
  pub pend : (s x : ℕ) (b : Branch) (k : Key) → find x (w.server s).branches ≡ Some b → counts f w.history s b ≡ true → touches b.log k ≡ true → (t : Table) → after t b.log k ≡ decided_rows f s w.history k
  pub serial : (s : ℕ) → IsSerialAt f s w.history

pub serial_else : (f : Topology) (w : World) (connection : ℕ → Connection) (transaction : ℕ → Transaction) (pending : Option Decision) → IsSerial f w
    → IsSerial f (record { server = w.server; connection = connection; transaction = transaction; history = w.history; pending = pending })
serial_else f w connection transaction pending i = record { right = i.right; base = i.base; pend = i.pend; serial = i.serial }

-- ---- unprepared branches go
pub serial_fewer : (f : Topology) (w : World) (s : ℕ) (p : Branch → Bool) → ((b : Branch) → is_prepared b.stage ≡ true → p b ≡ true) → IsOrderly f w → IsSerial f w → IsSerial f (with_server w s (record (w.server s) { branches = kept p (w.server s).branches }))
serial_fewer f w s p keeps o i =
    let new : Server = record (w.server s) { branches = kept p (w.server s).branches } in
    let was : (t y : ℕ) (b : Branch) → find y (set w.server s (record (w.server s) { branches = kept p (w.server s).branches }) t).branches ≡ Some b → find y (w.server t).branches ≡ Some b
    = λ t y b. set_cases (λ u (x : Server). find y x.branches ≡ Some b → find y (w.server u).branches ≡ Some b) w.server s _ t (λ g. (find_kept p y b (w.server s).branches (o.locked s).distinct g).0) (λ ne g. g) in
    record {
      right = λ t x b h. i.right t x b (was t x b h);
      base = λ t k. set_cases (λ u (v : Server). ((x : ℕ) (b : Branch) → find x v.branches ≡ Some b → counts f w.history u b ≡ true → touches b.log k ≡ false) → v.rows k ≡ decided_rows f u w.history k) w.server s _ t
          (λ h. i.base s k (λ x b g n. h x b (find_kept_there p x b (w.server s).branches g (keeps b (grind arith))) n))
          (λ ne h. i.base t k h);
      pend = λ t x b k h. i.pend t x b k (was t x b h);
      serial = i.serial;
    }

-- ---- a request is delivered

not_touched : (xs : List Operation) (k : Key) → owns xs k ≡ false → touches xs k ≡ false
not_touched xs k h = ⊎_elim (λ (t : touches xs k ≡ true). cc (touched_is_owned xs k t, h)) (λ (t : touches xs k ≡ false). t) (cases_Bool (touches xs k))

-- nothing that counts has changed a key that an active branch may lock
free_of_counting : (f : Topology) (w : World) → IsSerial f w → (s y : ℕ) (fp : Footprint) (k : Key) (a : Branch) → find y (w.server s).branches ≡ Some a → is_prepared a.stage ≡ false → blocked y fp (w.server s).branches ≡ false → covers fp k ≡ true
    → (w.server s).rows k ≡ decided_rows f s w.history k
free_of_counting f w i s y fp k a h act free c = i.base s k (λ x b g n. other x b g n (cases_eq x y))
  where
    other : (x : ℕ) (b : Branch) → find x (w.server s).branches ≡ Some b → counts f w.history s b ≡ true → (x ≡ y) ⊎ (x ≡ y → ⊥) → touches b.log k ≡ false
    other x b g n (inl e) =
        let one : ◌≡◌ {A = Option Branch} (Some b) (Some a) = sym g ∙ ap (λ z. find z (w.server s).branches) e ∙ h in
        let same : b ≡ a = cc in
        let bad : is_prepared b.stage ≡ true = grind arith in
        let good : is_prepared b.stage ≡ false = ap (λ (z : Branch). is_prepared z.stage) same ∙ act in
        cc
    other x b g n (inr ne) = not_touched b.log k (clear_of fp b.log k (not_blocked y fp (w.server s).branches x b free g ne) c).0

-- so what it reads is right on the decided rows
grown_right : (f : Topology) (w : World) → IsSerial f w → (s y : ℕ) (op : Operation) (a : Branch) → find y (w.server s).branches ≡ Some a → is_prepared a.stage ≡ false → blocked y (footprint_of op) (w.server s).branches ≡ false
    → IsRight (after (w.server s).rows a.log) op → IsRight (after (decided_rows f s w.history) a.log) op
grown_right f w i s y (Scanned fp rows) a h act free r = λ k. r k ∙ elim (covers fp k) as (λ v. covers fp k ≡ v → cond v (after (w.server s).rows a.log k) None ≡ cond v (after (decided_rows f s w.history) a.log k) None) [
  | true ↦ λ c. same_after _ _ a.log k (free_of_counting f w i s y fp k a h act free c)
  | false ↦ λ c. refl
] refl
grown_right f w i s y (Changed fp rows) a h act free r = tt

-- a branch that counts then counted before
counted : (f : Topology) (w : World) (c : ℕ) (r : Request) (q : List Request) → IsAllowed f w c q r → IsOrderly f w → (y : ℕ) (a b : Branch) → a.xid ≡ y → b.xid ≡ y
    → (is_prepared b.stage ≡ true → (is_prepared a.stage ≡ true) ⊎ (r ≡ Prepare y)) → counts f w.history (f.home c) b ≡ true → counts f w.history (f.home c) a ≡ true
counted f w c r q al o y a b ea eb p n = ⊎_elim
    (λ (m : is_prepared a.stage ≡ true). grind (arith, nat_tests))
    (λ (m : r ≡ Prepare y). let no : (w.transaction y).ready (f.home c) ≡ false = (subst (λ z. IsAllowed f w c q z) m al).2 in
    let yes : decided_at f w.history y (f.home c) ≡ true = grind (arith, nat_tests) in
    let bad : (w.transaction y).ready (f.home c) ≡ true = (o.decided y (f.home c) yes).1 in
    cc)
    (p (grind arith))

serial_after : (f : Topology) (w : World) (c : ℕ) (r : Request) (q : List Request) (e : Effect) → known.Did (w.server (f.home c)) c r e → IsAllowed f w c q r → IsOrderly f w → IsSerial f w
    → (y : ℕ) (b : Branch) → find y (done (w.server (f.home c)) e).branches ≡ Some b → Track (w.server (f.home c)) c r e y b
    → (counts f w.history (f.home c) b ≡ false → AreRight (decided_rows f (f.home c) w.history) b.log)
    × ((k : Key) → counts f w.history (f.home c) b ≡ true → touches b.log k ≡ true → (t : Table) → after t b.log k ≡ decided_rows f (f.home c) w.history k)
serial_after f w c r q e d al o i y b h (Is_new rs mine log re p) = (
  (λ n. subst (λ z. AreRight (decided_rows f (f.home c) w.history) z) (sym log) tt),
  λ k n t u. let bad : touches [] k ≡ true = subst (λ z. touches z k ≡ true) log t in cc,
)
serial_after f w c r q e d al o i y b h (Has_grown a op g mine yb log re s1 s2 s3 s4) =
    let act : is_prepared a.stage ≡ false = ap is_prepared s1 in (
      (λ n. subst (λ z. AreRight (decided_rows f (f.home c) w.history) z) (sym log) (grown_right f w i (f.home c) y op a g act s4 s3, i.right (f.home c) y a g (grind arith))),
      λ k n t u. let bad : is_prepared b.stage ≡ true = grind arith in let good : is_prepared b.stage ≡ false = ap is_prepared s2 in cc,
    )
serial_after f w c r q e d al o i y b h (Is_same a g mine log p1 p2 other) =
    let ea : a.xid ≡ y = find_xid y a _ g in
    let eb : b.xid ≡ y = find_xid y b _ h in (
      (λ n. subst (λ z. AreRight (decided_rows f (f.home c) w.history) z) (sym log) (i.right (f.home c) y a g (grind (arith, nat_tests)))),
      λ k n t u. ap (λ z. after u z k) log ∙ i.pend (f.home c) y a k g (counted f w c r q al o y a b ea eb p2 n) (subst (λ z. touches z k ≡ true) log t) u,
    )

-- the rows that stand then are right where nothing that counts has changed the key
base_after : (f : Topology) (w : World) (c : ℕ) (r : Request) (q : List Request) (e : Effect) → known.Did (w.server (f.home c)) c r e → IsAllowed f w c q r → IsOrderly f w → IsSerial f w
    → (k : Key) → ((x : ℕ) (b : Branch) → find x (done (w.server (f.home c)) e).branches ≡ Some b → counts f w.history (f.home c) b ≡ true → touches b.log k ≡ false) → (done (w.server (f.home c)) e).rows k ≡ decided_rows f (f.home c) w.history k
base_after f w c r q e d al o i k h = go r e d al (cases_Bool (is_install e)) h
  where
    stays_on : (r : Request) (e : Effect) → known.Did (w.server (f.home c)) c r e → IsAllowed f w c q r → is_install e ≡ false
        → ((x : ℕ) (b : Branch) → find x (done (w.server (f.home c)) e).branches ≡ Some b → counts f w.history (f.home c) b ≡ true → touches b.log k ≡ false) → (w.server (f.home c)).rows k ≡ decided_rows f (f.home c) w.history k
    stays_on r e d al n h = i.base (f.home c) k (λ x b g m. h x b (stays_but _ c r e d n x b g (known.prepared_from b.stage (grind arith)) (λ z.
        let no : decided_at f w.history x (f.home c) ≡ false = (subst (λ u. IsAllowed f w c q u) z al).1 in
        let yes : decided_at f w.history x (f.home c) ≡ true = ap (λ u. decided_at f w.history u (f.home c)) (sym (find_xid x b _ g)) ∙ grind arith in
        cc)) m)

    go : (r : Request) (e : Effect) → known.Did (w.server (f.home c)) c r e → IsAllowed f w c q r → (is_install e ≡ true) ⊎ (is_install e ≡ false)
        → ((x : ℕ) (b : Branch) → find x (done (w.server (f.home c)) e).branches ≡ Some b → counts f w.history (f.home c) b ≡ true → touches b.log k ≡ false) → (done (w.server (f.home c)) e).rows k ≡ decided_rows f (f.home c) w.history k
    go r e Kept al n h = i.base (f.home c) k h
    go r e Showed al n h = i.base (f.home c) k h
    go r e (Begun g p) al n h = stays_on _ _ (Begun g p) al refl h
    go r e (Grew g mine stage free right locks) al n h = stays_on _ _ (Grew g mine stage free right locks) al refl h
    go r e (Closed g mine stage) al n h = stays_on _ _ (Closed g mine stage) al refl h
    go r e (Readied g mine stage) al n h = stays_on _ _ (Readied g mine stage) al refl h
    go r e (Dropped g p) al n h = stays_on _ _ (Dropped g p) al refl h
    go r e (Installed {b = b} g stage) al n h =
        let yes : counts f w.history (f.home c) b ≡ true = grind (arith, ap is_prepared stage) in
        ⊎_elim
        (λ (t : touches b.log k ≡ true). i.pend (f.home c) b.xid b k g yes t (w.server (f.home c)).rows)
        (λ (t : touches b.log k ≡ false). untouched (w.server (f.home c)).rows b.log k t ∙ i.base (f.home c) k (λ x a m z. other x a b m g t (λ ne. h x a ne z) (cases_eq b.xid x)))
        (cases_Bool (touches b.log k))
      where
        other : (x : ℕ) (a b : Branch) → find x (w.server (f.home c)).branches ≡ Some a → find b.xid (w.server (f.home c)).branches ≡ Some b → touches b.log k ≡ false
            → (find x (without b.xid (w.server (f.home c)).branches) ≡ Some a → touches a.log k ≡ false) → (b.xid ≡ x) ⊎ (b.xid ≡ x → ⊥) → touches a.log k ≡ false
        other x a b m g t h (inl e) =
            let one : ◌≡◌ {A = Option Branch} (Some a) (Some b) = sym m ∙ ap (λ z. find z (w.server (f.home c)).branches) (sym e) ∙ g in
            let same : a ≡ b = cc in
            ap (λ (z : Branch). touches z.log k) same ∙ t
        other x a b m g t h (inr ne) = h (grind (arith, nat_tests, find_without b.xid x (w.server (f.home c)).branches))

pub serial_serves : (f : Topology) (w : World) (c : ℕ) (r : Request) (q : List Request) (e : Effect) (told : Reply) → known.Did (w.server (f.home c)) c r e → IsAllowed f w c q r → IsOrderly f w → IsSerial f w → IsSerial f (serves f w c q e told)
serial_serves f w c r q e told d al o i =
    let now : (y : ℕ) (b : Branch) (h : find y (done (w.server (f.home c)) e).branches ≡ Some b) → Track (w.server (f.home c)) c r e y b = λ y b h. track _ c r e d (o.locked (f.home c)) y b h in
    record {
      right = λ s x b. set_cases (λ t (v : Server). find x v.branches ≡ Some b → counts f w.history t b ≡ false → AreRight (decided_rows f t w.history) b.log) w.server (f.home c) _ s (λ h. (serial_after f w c r q e d al o i x b h (now x b h)).0) (λ ne. i.right s x b);
      base = λ s k. set_cases (λ t (v : Server). ((x : ℕ) (b : Branch) → find x v.branches ≡ Some b → counts f w.history t b ≡ true → touches b.log k ≡ false) → v.rows k ≡ decided_rows f t w.history k) w.server (f.home c) _ s (base_after f w c r q e d al o i k) (λ ne. i.base s k);
      pend = λ s x b k. set_cases (λ t (v : Server). find x v.branches ≡ Some b → counts f w.history t b ≡ true → touches b.log k ≡ true → (u : Table) → after u b.log k ≡ decided_rows f t w.history k) w.server (f.home c) _ s (λ h. (serial_after f w c r q e d al o i x b h (now x b h)).1 k) (λ ne. i.pend s x b k);
      serial = i.serial;
    }

-- ---- a decision

pub is_at_from : (o : Option ℕ) (c : ℕ) → is_at o c ≡ true → o ≡ Some c
is_at_from None c h = cc
is_at_from (Some d) c h = ap Some (eqb-true d c h)

-- the member that goes to a server
pub ready_in : (f : Topology) (t : Transaction) (ms : List ℕ) (c : ℕ) → are_ready f t ms ≡ true → is_member c ms ≡ true → t.asked (f.home c) ≡ Some c
ready_in f t [] c a h = cc
ready_in f t (m ∷ ms) c a h = go (eqb m c) refl (ready_in f t ms c (grind arith))
  where
    go : (v : Bool) → eqb m c ≡ v → (is_member c ms ≡ true → t.asked (f.home c) ≡ Some c) → t.asked (f.home c) ≡ Some c
    go true e ih = subst (λ z. t.asked (f.home z) ≡ Some z) (eqb-true m c e) (is_at_from (t.asked (f.home m)) m (grind arith))
    go false e ih = ih (grind arith)

pub member_there : (f : Topology) (ms : List ℕ) (c s : ℕ) → is_member c ms ≡ true → f.home c ≡ s → has_member f s ms ≡ true
member_there f [] c s h e = cc
member_there f (m ∷ ms) c s h e = go (eqb m c) refl (λ k. member_there f ms c s k e)
  where
    go : (v : Bool) → eqb m c ≡ v → (is_member c ms ≡ true → has_member f s ms ≡ true) → (eqb (f.home m) s || has_member f s ms) ≡ true
    go true q ih = let there : f.home m ≡ s = ap f.home (eqb-true m c q) ∙ e in grind (arith, nat_tests)
    go false q ih = grind (arith, ih (grind arith))

pub member_of : (f : Topology) (t : Transaction) (ms : List ℕ) (s : ℕ) (log : List Step) → are_ready f t ms ≡ true → has_member f s ms ≡ true → (c : ℕ) × (f.home c ≡ s) × (t.asked s ≡ Some c) × (done_at f s ms log ≡ done_on c log) × (is_member c ms ≡ true)
member_of f t [] s log a h = cc
member_of f t (m ∷ ms) s log a h = go (member_of f t ms s log (grind arith)) (eqb (f.home m) s) refl
  where
    go : (has_member f s ms ≡ true → (c : ℕ) × (f.home c ≡ s) × (t.asked s ≡ Some c) × (done_at f s ms log ≡ done_on c log) × (is_member c ms ≡ true)) → (v : Bool) → eqb (f.home m) s ≡ v → (c : ℕ) × (f.home c ≡ s) × (t.asked s ≡ Some c) × (cond (eqb (f.home m) s) (done_on m log) (done_at f s ms log) ≡ done_on c log) × (is_member c (m ∷ ms) ≡ true)
    go ih true e = (m, eqb-true _ _ e, ap t.asked (sym (eqb-true _ _ e)) ∙ is_at_from _ _ (grind arith), ap (λ v. cond v (done_on m log) (done_at f s ms log)) e, grind (arith, nat_tests))
    go ih false e = let k = ih (grind arith) in (k.0, k.1, k.2, ap (λ v. cond v (done_on m log) (done_at f s ms log)) e ∙ k.3, grind (arith, k.4))

pub done_in : (f : Topology) (t : Transaction) (ms : List ℕ) (c s : ℕ) (log : List Step) → are_ready f t ms ≡ true → is_member c ms ≡ true → f.home c ≡ s → done_at f s ms log ≡ done_on c log
done_in f t ms c s log a h e =
    let k = member_of f t ms s log a (member_there f ms c s h e) in
    let asked : t.asked s ≡ Some c = ap t.asked (sym e) ∙ ready_in f t ms c a h in
    let one : ◌≡◌ {A = Option ℕ} (Some k.0) (Some c) = sym k.2 ∙ asked in
    let same : k.0 ≡ c = cc in
    k.3 ∙ ap (λ z. done_on z log) same

pub none_at : (f : Topology) (ms : List ℕ) (s : ℕ) (log : List Step) → has_member f s ms ≡ false → done_at f s ms log ≡ []
none_at f [] s log h = refl
none_at f (m ∷ ms) s log h = ap (λ v. cond v (done_on m log) (done_at f s ms log)) (first_not (eqb (f.home m) s) (has_member f s ms) h) ∙ none_at f ms s log (grind arith)
  where
    first_not : (a b : Bool) → (a || b) ≡ false → a ≡ false
    first_not true b h = cc
    first_not false b h = refl

-- a decision whose record is in progress has a prepared branch at each member that did what the front was told
abbrev pub HasBranch : Topology → World → Decision → ℕ → Type 0
HasBranch f w n s = ((b : Branch) × (find n.number (w.server s).branches ≡ Some b) × (is_prepared b.stage ≡ true) × (done_at f s n.members n.log ≡ b.log) × (has_member f s n.members ≡ true)) ⊎ ((has_member f s n.members ≡ false) × (done_at f s n.members n.log ≡ []))

pub has_branch : (f : Topology) (w : World) (n : Decision) → IsWaiting f w n → IsOrderly f w → IsMatched f w → (s : ℕ) → HasBranch f w n s
has_branch f w n waits o i s = ⊎_elim
    (λ (t : has_member f s n.members ≡ true).
    let undecided : is_undecided (w.transaction n.number).phase ≡ true = grind (arith, waits.0) in
    let k = i.ready n.number s undecided (ready_member f (w.transaction n.number) n.members s waits.2 t) in
    let c = member_of f (w.transaction n.number) n.members s n.log waits.2 t in
    let two : ◌≡◌ {A = Option ℕ} (Some k.0) (Some c.0) = sym k.2 ∙ c.2 in
    let one : k.0 ≡ c.0 = cc in
    let there : find n.number (w.server (f.home c.0)).branches ≡ Some k.1 = ap (λ z. find n.number (w.server z).branches) c.1 ∙ k.3 in
    let log : k.1.log ≡ done_on c.0 (w.transaction n.number).log = i.frozen n.number c.0 k.1 undecided (ap (w.transaction n.number).asked c.1 ∙ c.2) there (k.5 ∙ one) in
    inl (k.1, k.3, ap is_prepared k.4, c.3 ∙ ap (done_on c.0) (sym waits.1) ∙ sym log, t))
    (λ (t : has_member f s n.members ≡ false). inr (t, none_at f n.members s n.log t))
    (cases_Bool (has_member f s n.members))

-- a key that a branch of another number holds stands as it stood
pub same_held : (f : Topology) (w : World) (n : Decision) → IsOrderly f w → (s : ℕ) → HasBranch f w n s → (y : ℕ) (b : Branch) → find y (w.server s).branches ≡ Some b → (y ≢ n.number) ⊎ (has_member f s n.members ≡ false) → (k : Key) → holds b.log k ≡ true
    → touches (done_at f s n.members n.log) k ≡ false
same_held f w n o s (inl m) y b h (inl ne) k held = ap (λ z. touches z k) m.3 ∙ ⊎_elim
    (λ (t : touches m.0.log k ≡ true). let free : holds b.log k ≡ false = owned_is_held_by_none m.0.log b.log k ((o.locked s).apart n.number y m.0 b m.1 h (λ e. ne (sym e))) (touched_is_owned m.0.log k t) in cc (free, held))
    (λ (t : touches m.0.log k ≡ false). t)
    (cases_Bool (touches m.0.log k))
same_held f w n o s (inl m) y b h (inr out) k held = cc (m.4, out)
same_held f w n o s (inr m) y b h any k held = ap (λ z. touches z k) m.1

counts_new : (f : Topology) (h : List Decision) (n : Decision) (s : ℕ) (b : Branch) → is_prepared b.stage ≡ true → b.xid ≡ n.number → has_member f s n.members ≡ true → counts f (n ∷ h) s b ≡ true
counts_new f h n s b p e m = grind (arith, nat_tests)

counts_old : (f : Topology) (h : List Decision) (n : Decision) (s y : ℕ) (b : Branch) → b.xid ≡ y → (y ≢ n.number) ⊎ (has_member f s n.members ≡ false) → counts f (n ∷ h) s b ≡ true → counts f h s b ≡ true
counts_old f h n s y b e (inl ne) m = grind (arith, nat_tests)
counts_old f h n s y b e (inr out) m = grind (arith, nat_tests)

not_counting : (f : Topology) (h : List Decision) (s x : ℕ) (b : Branch) → b.xid ≡ x → decided_at f h x s ≡ false → counts f h s b ≡ false
not_counting f h s x b e d = grind (arith, nat_tests)

pub serial_recorded : (f : Topology) (w : World) (d : Decision) → IsWaiting f w d → IsOrderly f w → IsMatched f w → IsSerial f w → IsSerial f (recorded w (Some d))
serial_recorded f w d waits o ma i = record {
  right = λ s y b h n. still_right (decided_rows f s w.history) (after (decided_rows f s w.history) (done_at f s d.members d.log)) b.log
      (λ k held. sym (untouched (decided_rows f s w.history) (done_at f s d.members d.log) k (same_held f w d o s (here s) y b h (not_it s y b h n (here s)) k held)))
      (i.right s y b h (grind (arith, nat_tests)));
  base = λ s k h. i.base s k (λ y b g n. h y b g (grind (arith, nat_tests))) ∙ sym (quiet s k h (here s));
  pend = λ s y b k h n t u. pending_at s y b k h n t u (here s);
  serial = λ s. (right_at s (here s), i.serial s);
}
  where
    here : (s : ℕ) → HasBranch f w d s
    here s = has_branch f w d waits o ma s

    fresh_number : (s : ℕ) → decided_at f w.history d.number s ≡ false
    fresh_number s = ⊎_elim
        (λ (t : decided_at f w.history d.number s ≡ true). absurd (writing_or_over (w.transaction d.number).phase waits.0 (o.decided d.number s t).0))
        (λ (t : decided_at f w.history d.number s ≡ false). t)
        (cases_Bool (decided_at f w.history d.number s))
      where
        writing_or_over : (p : Phase) → is_writing p ≡ true → is_over p ≡ true → ⊥
        writing_or_over Fresh a b = cc
        writing_or_over Live a b = cc
        writing_or_over Writing a b = cc
        writing_or_over Over a b = cc

    not_it : (s y : ℕ) (b : Branch) → find y (w.server s).branches ≡ Some b → counts f (d ∷ w.history) s b ≡ false → HasBranch f w d s → (y ≢ d.number) ⊎ (has_member f s d.members ≡ false)
    not_it s y b h n (inr q) = inr q.0
    not_it s y b h n (inl q) = inl (λ e.
        let one : ◌≡◌ {A = Option Branch} (Some b) (Some q.0) = sym h ∙ ap (λ z. find z (w.server s).branches) e ∙ q.1 in
        let same : b ≡ q.0 = cc in
        let number : b.xid ≡ d.number = find_xid y b _ h ∙ e in
        let prep : is_prepared b.stage ≡ true = ap (λ (z : Branch). is_prepared z.stage) same ∙ q.2 in
        let member : has_member f s d.members ≡ true = q.4 in
        let yes : counts f (d ∷ w.history) s b ≡ true = counts_new f w.history d s b prep number member in
        cc (yes, n))

    quiet : (s : ℕ) (k : Key) → ((y : ℕ) (b : Branch) → find y (w.server s).branches ≡ Some b → counts f (d ∷ w.history) s b ≡ true → touches b.log k ≡ false) → HasBranch f w d s
        → after (decided_rows f s w.history) (done_at f s d.members d.log) k ≡ decided_rows f s w.history k
    quiet s k h (inl q) = untouched (decided_rows f s w.history) (done_at f s d.members d.log) k (ap (λ z. touches z k) q.3 ∙ h d.number q.0 q.1 (counts_new f w.history d s q.0 q.2 (find_xid d.number q.0 _ q.1) q.4))
    quiet s k h (inr q) = ap (λ z. after (decided_rows f s w.history) z k) q.1

    pending_at : (s y : ℕ) (b : Branch) (k : Key) → find y (w.server s).branches ≡ Some b → counts f (d ∷ w.history) s b ≡ true → touches b.log k ≡ true → (u : Table) → HasBranch f w d s → after u b.log k ≡ after (decided_rows f s w.history) (done_at f s d.members d.log) k
    pending_at s y b k h n t u q = two q (cases_eq y d.number)
      where
        old : (y ≢ d.number) ⊎ (has_member f s d.members ≡ false) → after u b.log k ≡ after (decided_rows f s w.history) (done_at f s d.members d.log) k
        old ne = i.pend s y b k h (counts_old f w.history d s y b (find_xid y b _ h) ne n) t u
            ∙ sym (untouched (decided_rows f s w.history) (done_at f s d.members d.log) k (same_held f w d o s q y b h ne k (owned_is_held b.log k (touched_is_owned b.log k t))))

        two : HasBranch f w d s → (y ≡ d.number) ⊎ (y ≡ d.number → ⊥) → after u b.log k ≡ after (decided_rows f s w.history) (done_at f s d.members d.log) k
        two m (inr ne) = old (inl ne)
        two (inr m) (inl e) = old (inr m.0)
        two (inl m) (inl e) =
            let one : ◌≡◌ {A = Option Branch} (Some b) (Some m.0) = sym h ∙ ap (λ z. find z (w.server s).branches) e ∙ m.1 in
            let same : b ≡ m.0 = cc in
            touched u (decided_rows f s w.history) b.log k t ∙ ap (λ z. after (decided_rows f s w.history) z k) (ap (λ (z : Branch). z.log) same ∙ sym m.3)

    right_at : (s : ℕ) → HasBranch f w d s → AreRight (decided_rows f s w.history) (done_at f s d.members d.log)
    right_at s (inl q) = subst (λ z. AreRight (decided_rows f s w.history) z) (sym q.3) (i.right s d.number q.0 q.1 (not_counting f w.history s d.number q.0 (find_xid d.number q.0 _ q.1) (fresh_number s)))
    right_at s (inr q) = subst (λ z. AreRight (decided_rows f s w.history) z) (sym q.1) tt

pub serial_recording : (f : Topology) (w : World) (p : Option Decision) → w.pending ≡ p → Waits f w → IsOrderly f w → IsMatched f w → IsSerial f w → IsSerial f (recorded w p)
serial_recording f w None e k o m i = i
serial_recording f w (Some d) e k o m i = serial_recorded f w d (k d e) o m i

pub serial_happens : (f : Topology) (w : World) (m : Move) → Waits f w → IsOrderly f w → IsMatched f w → IsSerial f w → IsSerial f (happens f w m)
serial_happens f w (Draws x) k o m i = guarded (IsSerial f) (is_fresh (w.transaction x).phase) (with_phase w x Live) w i (λ h. serial_else f w w.connection (with_phase w x Live).transaction w.pending i)
serial_happens f w (Dials c) k o m i = unless (IsSerial f) (w.connection c).dialled (with_connection w c (dialled_now (w.connection c))) w i (λ h. serial_else f w (with_connection w c (dialled_now (w.connection c))).connection w.transaction w.pending i)
serial_happens f w (Uses c x) k o m i = guarded (IsSerial f) _ (uses_connection w c x) w i (λ h. serial_else f w (uses_connection w c x).connection (uses_connection w c x).transaction w.pending i)
serial_happens f w (Sends c r) k o m i = guarded (IsSerial f) (may_ask f w c r) (asks f w c r) w i (λ h. serial_else f w (asks f w c r).connection (asking f w c r) w.pending i)
serial_happens f w (Delivers c) k o m i = go (w.connection c).queue refl
  where
    go : (q : List Request) → (w.connection c).queue ≡ q → IsSerial f (delivers f w c q)
    go [] e = i
    go (r ∷ q) e =
        let a = subst (λ p. AreAllowed f w c p) e (o.sent c) in
        serial_serves f w c r q _ _ (known.did (w.server (f.home c)) c r (o.locked (f.home c)).distinct) a.0 o i
serial_happens f w (Refuses c) k o m i = go (w.connection c).queue refl
  where
    go : (q : List Request) → (w.connection c).queue ≡ q → IsSerial f (refuses f w c q)
    go [] e = i
    go (r ∷ q) e =
        let a = subst (λ p. AreAllowed f w c p) e (o.sent c) in
        serial_serves f w c r q Keep Refused Kept a.0 o i
serial_happens f w (Faults c found) k o m i = go (w.connection c).queue refl
  where
    go : (q : List Request) → (w.connection c).queue ≡ q → IsSerial f (faults f w c found q)
    go [] e = i
    go (r ∷ q) e =
        let a = subst (λ p. AreAllowed f w c p) e (o.sent c) in
        let d = did_left (w.server (f.home c)) c r _ found (known.did (w.server (f.home c)) c r (o.locked (f.home c)).distinct) in
        serial_fewer f _ (f.home c) _ (λ b p. p) (orderly_serves f w c r q _ Refused (says_left found _) d a.0 a.1 o) (serial_serves f w c r q _ Refused d a.0 o i)
serial_happens f w (Reads c) k o m i = go (w.connection c).unread
  where
    go : (q : List Reply) → IsSerial f (reads w c q)
    go [] = i
    go (r ∷ q) = serial_else f w (reads w c (r ∷ q)).connection (reads w c (r ∷ q)).transaction w.pending i
serial_happens f w (Breaks c) k o m i = serial_else f w (with_connection w c (broken (w.connection c))).connection w.transaction w.pending i
serial_happens f w (Hangup_seen c) k o m i = unless (IsSerial f) (w.connection c).stands (sees_hangup f w c) w i (λ h.
    serial_else f (with_server w (f.home c) (hung_up (w.server (f.home c)) c)) (sees_hangup f w c).connection w.transaction w.pending (serial_fewer f w (f.home c) _ (λ b p. grind (arith, nat_tests)) o i))
serial_happens f w (Writes x ms) k o m i = guarded (IsSerial f) (may_decide f w x ms) (writes w x ms) w i (λ h. serial_else f w w.connection (writes w x ms).transaction (writes w x ms).pending i)
serial_happens f w Recorded k o m i = serial_recording f w w.pending refl k o m i
serial_happens f w (Gives_up x) k o m i = guarded (IsSerial f) (is_live (w.transaction x).phase) (with_phase w x Over) w i (λ h. serial_else f w w.connection (with_phase w x Over).transaction w.pending i)
serial_happens f w (Stops s) k o m i = serial_else f (with_server w s (stopped (w.server s))) (stops f w s).connection w.transaction w.pending (serial_fewer f w s _ (λ b p. p) o i)
serial_happens f w Front_stops k o m i = serial_else f w (front_stops w).connection w.transaction w.pending i
serial_happens f w (Reopens found) k o m i = ends (cond found (recorded w w.pending) w) (either found)
  where
    either : (b : Bool) → IsSerial f (cond b (recorded w w.pending) w)
    either true = serial_recording f w w.pending refl k o m i
    either false = i

    ends : (v : World) → IsSerial f v → IsSerial f (new_boot v)
    ends v j = serial_else f v v.connection (new_boot v).transaction None j

pub serial_start : (f : Topology) → IsSerial f start
serial_start f = record {
  right = λ s x b h n. cc;
  base = λ s k h. refl;
  pend = λ s x b k h n t u. cc;
  serial = λ s. tt;
}
