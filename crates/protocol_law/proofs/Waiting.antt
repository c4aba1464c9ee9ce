-- A record in progress: its transaction waits for it with ready members, and nothing else decides what becomes of it.
use Rattle.std.proofs.Common.{◌≡◌, ℕ, true, false, cond, List, [], ◌∷◌, Option, Some, None, refl, sym, ap, ◌∙◌, subst, arith}
use Rattle.std.proofs.lemmas.Bool.Decides.{nat_tests}
use Rattle.commit_protocol.specs.Backend.{Request, Effect, effect}
use Rattle.commit_protocol.specs.Backend.Request.{Start, Scan, Change, End, Prepare, Commit, Rollback, Recover}
use Rattle.commit_protocol.specs.Network.{Topology, Reply, set, dialled_now}
use Rattle.commit_protocol.specs.Protocol.{World, Transaction, Decision, Phase, Move, is_fresh, is_live, is_writing, may_ask, asks, readying, delivers, refuses, left_of, faults, noting, reading, reads, may_decide, may_use, are_ready, is_at, writes, recorded, uses_connection, with_phase, with_connection, sees_hangup, happens, start}
use Rattle.commit_protocol.specs.Protocol.Phase.{Fresh, Live, Writing, Over}
use Rattle.commit_protocol.specs.Protocol.Move.{Draws, Dials, Uses, Sends, Delivers, Refuses, Faults, Reads, Breaks, Hangup_seen, Writes, Recorded, Gives_up, Stops, Front_stops, Reopens}
use Rattle.protocol_law.proofs.Traffic.{IsWaiting, Waits, set_cases, guarded, unless, is_none_from}
use Rattle.protocol_law.proofs.Serving.{served_rest, served_ready}
use Rattle.protocol_law.proofs.Serial.{is_at_from}

-- what a transaction that waits for its record keeps
pub record Lasts (t u : Transaction) : Type 0 where
  pub phase : is_writing t.phase ≡ true → is_writing u.phase ≡ true
  pub log : is_writing t.phase ≡ true → u.log ≡ t.log
  pub asked : (s c : ℕ) → t.asked s ≡ Some c → u.asked s ≡ Some c
  pub ready : (s : ℕ) → t.ready s ≡ true → u.ready s ≡ true

lasts_same : (t : Transaction) → Lasts t t
lasts_same t = record { phase = λ h. h; log = λ h. refl; asked = λ s c h. h; ready = λ s h. h }

pub still_ready : (f : Topology) (t u : Transaction) (ms : List ℕ) → ((s c : ℕ) → t.asked s ≡ Some c → u.asked s ≡ Some c) → ((s : ℕ) → t.ready s ≡ true → u.ready s ≡ true) → are_ready f t ms ≡ true → are_ready f u ms ≡ true
still_ready f t u [] a r h = refl
still_ready f t u (m ∷ ms) a r h =
    let there : u.asked (f.home m) ≡ Some m = a (f.home m) m (is_at_from (t.asked (f.home m)) m (grind arith)) in
    let at_it : is_at (u.asked (f.home m)) m ≡ true = ap (λ o. is_at o m) there ∙ grind (arith, nat_tests) in
    let done : u.ready (f.home m) ≡ true = r (f.home m) (grind arith) in
    let rest : are_ready f u ms ≡ true = still_ready f t u ms a r (grind arith) in
    grind (arith, at_it, done, rest)

-- a move that leaves the record in progress, and what waits for it
waits_else : (f : Topology) (w v : World) → v.pending ≡ w.pending → ((x : ℕ) → Lasts (w.transaction x) (v.transaction x)) → Waits f w → Waits f v
waits_else f w v same lasts k d e =
    let old = k d (sym same ∙ e) in
    let l = lasts d.number in
    (l.phase old.0, l.log old.0 ∙ old.1, still_ready f (w.transaction d.number) (v.transaction d.number) d.members l.asked l.ready old.2)

lasts_at : (w : World) (x : ℕ) (u : Transaction) → Lasts (w.transaction x) u → (y : ℕ) → Lasts (w.transaction y) (set w.transaction x u y)
lasts_at w x u l y = set_cases (λ z (t : Transaction). Lasts (w.transaction z) t) w.transaction x u y l (λ ne. lasts_same (w.transaction y))

-- another phase of a transaction that doesn't wait
lasts_phase : (t : Transaction) (p : Phase) → is_writing t.phase ≡ false → Lasts t (record t { phase = p })
lasts_phase t p other = record { phase = λ h. cc; log = λ h. refl; asked = λ s c h. h; ready = λ s h. h }

not_writing_fresh : (p : Phase) → is_fresh p ≡ true → is_writing p ≡ false
not_writing_fresh Fresh h = refl
not_writing_fresh Live h = cc
not_writing_fresh Writing h = cc
not_writing_fresh Over h = cc

not_writing_live : (p : Phase) → is_live p ≡ true → is_writing p ≡ false
not_writing_live Fresh h = cc
not_writing_live Live h = refl
not_writing_live Writing h = cc
not_writing_live Over h = cc

writing_not_live : (p : Phase) → is_writing p ≡ true → is_live p ≡ false
writing_not_live Fresh h = cc
writing_not_live Live h = cc
writing_not_live Writing h = refl
writing_not_live Over h = cc

lasts_reading : (c : ℕ) (r : Reply) (t : Transaction) → Lasts t (reading c r t)
lasts_reading c r t = record { phase = λ h. h; log = λ h. ap (λ b. cond b (noting c r t.log) t.log) (writing_not_live t.phase h); asked = λ s d h. h; ready = λ s h. h }

waits_sends : (f : Topology) (w : World) (c : ℕ) (r : Request) → may_ask f w c r ≡ true → Waits f w → Waits f (asks f w c r)
waits_sends f w c (Start y) m k = k
waits_sends f w c (Scan fp) m k = k
waits_sends f w c (Change fp rows) m k = k
waits_sends f w c (End y) m k = k
waits_sends f w c Recover m k = k
waits_sends f w c (Prepare y) m k = waits_else f w (asks f w c (Prepare y)) refl (lasts_at w y _ (record { phase = λ h. h; log = λ h. refl; asked = λ s d h. grind (arith, nat_tests, none, h); ready = λ s h. h })) k
  where
    none : (w.transaction y).asked (f.home c) ≡ None
    none = is_none_from _ (grind arith)
waits_sends f w c (Commit y) m k = k
waits_sends f w c (Rollback y) m k = k

lasts_served : (f : Topology) (w : World) (c : ℕ) (r : Request) (e : Effect) (x : ℕ) → Lasts (w.transaction x) (readying f w c e x)
lasts_served f w c r e x =
    let p = served_rest f w c e x in
    record {
      phase = λ h. ap is_writing p.0 ∙ h;
      log = λ h. p.1;
      asked = λ s d h. ap (λ (z : ℕ → Option ℕ). z s) p.2 ∙ h;
      ready = λ s h. (served_ready f w c r e x s).0 h;
    }

waits_writes : (f : Topology) (w : World) (x : ℕ) (ms : List ℕ) → may_decide f w x ms ≡ true → Waits f (writes w x ms)
waits_writes f w x ms m d e = subst (λ (n : Decision). IsWaiting f (writes w x ms) n) same (here.0, here.1, here.2)
  where
    same : record { number = x; log = (w.transaction x).log; members = ms } ≡ d
    same = cc

    new : Transaction
    new = record (w.transaction x) { phase = Writing }

    here : (is_writing (set w.transaction x (record (w.transaction x) { phase = Writing }) x).phase ≡ true) × ((set w.transaction x (record (w.transaction x) { phase = Writing }) x).log ≡ (w.transaction x).log) × (are_ready f (set w.transaction x (record (w.transaction x) { phase = Writing }) x) ms ≡ true)
    here = set_cases (λ z (t : Transaction). z ≡ x → (is_writing t.phase ≡ true) × (t.log ≡ (w.transaction x).log) × (are_ready f t ms ≡ true)) w.transaction x (record (w.transaction x) { phase = Writing }) x
        (λ q. (refl, refl, still_ready f (w.transaction x) (record (w.transaction x) { phase = Writing }) ms (λ s c h. h) (λ s h. h) (grind arith)))
        (λ ne q. absurd (ne q))
        refl

waits_recording : (f : Topology) (w : World) (p : Option Decision) → w.pending ≡ p → Waits f w → Waits f (recorded w p)
waits_recording f w None e k = k
waits_recording f w (Some n) e k = λ d h. cc

pub waits_happens : (f : Topology) (w : World) (m : Move) → Waits f w → Waits f (happens f w m)
waits_happens f w (Draws x) k = guarded (Waits f) (is_fresh (w.transaction x).phase) (with_phase w x Live) w k (λ h. waits_else f w (with_phase w x Live) refl (lasts_at w x _ (lasts_phase (w.transaction x) Live (not_writing_fresh _ h))) k)
waits_happens f w (Dials c) k = unless (Waits f) (w.connection c).dialled (with_connection w c (dialled_now (w.connection c))) w k (λ h. k)
waits_happens f w (Uses c x) k = guarded (Waits f) (may_use w c x) (uses_connection w c x) w k (λ h. waits_else f w (uses_connection w c x) refl (lasts_at w x _ (record { phase = λ h. h; log = λ h. refl; asked = λ s d h. h; ready = λ s h. h })) k)
waits_happens f w (Sends c r) k = guarded (Waits f) (may_ask f w c r) (asks f w c r) w k (λ h. waits_sends f w c r h k)
waits_happens f w (Delivers c) k = go (w.connection c).queue
  where
    go : (q : List Request) → Waits f (delivers f w c q)
    go [] = k
    go (r ∷ q) = waits_else f w (delivers f w c (r ∷ q)) refl (lasts_served f w c r (effect (w.server (f.home c)) c r)) k
waits_happens f w (Refuses c) k = go (w.connection c).queue
  where
    go : (q : List Request) → Waits f (refuses f w c q)
    go [] = k
    go (r ∷ q) = k
waits_happens f w (Faults c found) k = go (w.connection c).queue
  where
    go : (q : List Request) → Waits f (faults f w c found q)
    go [] = k
    go (r ∷ q) = waits_else f w (faults f w c found (r ∷ q)) refl (lasts_served f w c r (left_of found (effect (w.server (f.home c)) c r))) k
waits_happens f w (Reads c) k = go (w.connection c).unread
  where
    go : (q : List Reply) → Waits f (reads w c q)
    go [] = k
    go (r ∷ q) = waits_else f w (reads w c (r ∷ q)) refl (lasts_at w (w.connection c).xid _ (lasts_reading c r (w.transaction (w.connection c).xid))) k
waits_happens f w (Breaks c) k = k
waits_happens f w (Hangup_seen c) k = unless (Waits f) (w.connection c).stands (sees_hangup f w c) w k (λ h. k)
waits_happens f w (Writes x ms) k = guarded (Waits f) (may_decide f w x ms) (writes w x ms) w k (λ h. waits_writes f w x ms h)
waits_happens f w Recorded k = waits_recording f w w.pending refl k
waits_happens f w (Gives_up x) k = guarded (Waits f) (is_live (w.transaction x).phase) (with_phase w x Over) w k (λ h. waits_else f w (with_phase w x Over) refl (lasts_at w x _ (lasts_phase (w.transaction x) Over (not_writing_live _ h))) k)
waits_happens f w (Stops s) k = k
waits_happens f w Front_stops k = k
waits_happens f w (Reopens found) k = λ d e. cc

pub waits_start : (f : Topology) → Waits f start
waits_start f d e = cc
