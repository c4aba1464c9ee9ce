-- Answers come in the order of the requests, and what they say is true.
use Rattle.std.proofs.Common.{◌≡◌, ℕ, Bool, true, false, cond, not, ◌||◌, eqb, List, [], ◌∷◌, ◌++◌, Option, Some, None, refl, sym, ap, ◌∙◌, subst, arith, ⊎_elim, eqb-true}
use Rattle.std.proofs.lemmas.Bool.Decides.{nat_tests}
use Rattle.commit_protocol.specs.Backend.{Request, Effect, effect}
use Rattle.commit_protocol.specs.Backend.Request.{Start, Scan, Change, End, Prepare, Commit, Rollback, Recover}
use Rattle.commit_protocol.specs.Backend.Effect.{Keep}
use Rattle.commit_protocol.specs.Network.{set, Topology, Connection, Reply, reply, begins, dialled_now, broken}
use Rattle.commit_protocol.specs.Network.Reply.{Refused, Ran, Did, Listed}
use Rattle.commit_protocol.specs.Protocol.{World, Transaction, Decision, Move, is_fresh, is_live, may_ask, asks, asking, may_use, uses_connection, serves, readying, does, delivers, refuses, left_of, faults, reads, may_decide, writes, recorded, new_boot, with_phase, with_connection, sees_hangup, stops, front_stops}
use Rattle.commit_protocol.specs.Protocol.Phase.{Live, Over}
use Rattle.commit_protocol.specs.Protocol.Move.{Draws, Dials, Uses, Sends, Delivers, Refuses, Faults, Reads, Breaks, Hangup_seen, Writes, Recorded, Gives_up, Stops, Front_stops, Reopens}
use Rattle.commit_protocol.specs.Answers.{Course, tail_of, due_read, goes, course, new_course, DidMeans, Answers}
use Rattle.protocol_law.proofs.Effects as known
use Rattle.protocol_law.proofs.Effects.Did.{Kept, Showed, Begun, Grew, Closed, Readied, Dropped, Installed}
use Rattle.protocol_law.proofs.Traffic.{set_cases, guarded, unless, none_told}
use Rattle.protocol_law.proofs.Frames.{IsLess, less_at, less_broken, less_ended, less_dialled, stops_less}
use Rattle.protocol_law.proofs.Serving.{served_ready}
use Rattle.protocol_law.proofs.Runs.{IsSound, sound, sound_happens}

-- ---- lists of answers and requests

-- the answers that wait are to the first requests that are due, and the others are under way
abbrev pub AreAnswered : Topology → World → ℕ → List Reply → List Request → List Request → Type 0
AreAnswered f w c [] q due = due ≡ q
AreAnswered f w c (a ∷ us) q [] = ⊥
AreAnswered f w c (a ∷ us) q (r ∷ due) = Answers f w c r a × AreAnswered f w c us q due

-- what an answer says stays true
pub record KnowsMore (w v : World) (c : ℕ) : Type 0 where
  pub begun : (w.connection c).begun ≡ true → (v.connection c).begun ≡ true
  pub ready : (y s : ℕ) → (w.transaction y).ready s ≡ true → (v.transaction y).ready s ≡ true

did_still : (f : Topology) (w v : World) (c : ℕ) (r : Request) → KnowsMore w v c → DidMeans f w c r → DidMeans f v c r
did_still f w v c (Start y) m h = m.begun h
did_still f w v c (Scan fp) m h = h
did_still f w v c (Change fp rows) m h = h
did_still f w v c (End y) m h = tt
did_still f w v c (Prepare y) m h = m.ready y (f.home c) h
did_still f w v c (Commit y) m h = tt
did_still f w v c (Rollback y) m h = tt
did_still f w v c Recover m h = h

answers_still : (f : Topology) (w v : World) (c : ℕ) (r : Request) (a : Reply) → KnowsMore w v c → Answers f w c r a → Answers f v c r a
answers_still f w v c r Refused m h = tt
answers_still f w v c r (Ran op) m h = h
answers_still f w v c r Did m h = did_still f w v c r m h
answers_still f w v c r (Listed xids) m h = h

answered_still : (f : Topology) (w v : World) (c : ℕ) (us : List Reply) (q due : List Request) → KnowsMore w v c → AreAnswered f w c us q due → AreAnswered f v c us q due
answered_still f w v c [] q due m h = h
answered_still f w v c (a ∷ us) q [] m h = h
answered_still f w v c (a ∷ us) q (r ∷ due) m h = (answers_still f w v c r a m h.0, answered_still f w v c us q due m h.1)

answered_push : (f : Topology) (w : World) (c : ℕ) (us : List Reply) (q due : List Request) (r : Request) → AreAnswered f w c us q due → AreAnswered f w c us (q ++ r ∷ []) (due ++ r ∷ [])
answered_push f w c [] q due r h = ap (λ z. z ++ r ∷ []) h
answered_push f w c (a ∷ us) q [] r h = absurd h
answered_push f w c (a ∷ us) q (s ∷ due) r h = (h.0, answered_push f w c us q due r h.1)

answered_serve : (f : Topology) (w : World) (c : ℕ) (us : List Reply) (q due : List Request) (r : Request) (a : Reply) → AreAnswered f w c us (r ∷ q) due → Answers f w c r a → AreAnswered f w c (us ++ a ∷ []) q due
answered_serve f w c [] q due r a h k = subst (λ d. AreAnswered f w c (a ∷ []) q d) (sym h) (k, refl)
answered_serve f w c (b ∷ us) q [] r a h k = absurd h
answered_serve f w c (b ∷ us) q (s ∷ due) r a h k = (h.0, answered_serve f w c us q due r a h.1 k)

answered_read : (f : Topology) (w : World) (c : ℕ) (a : Reply) (us : List Reply) (q due : List Request) → AreAnswered f w c (a ∷ us) q due → AreAnswered f w c us q (tail_of due)
answered_read f w c a us q [] h = absurd h
answered_read f w c a us q (r ∷ due) h = h.1

-- ---- the invariant

-- where no answer was lost
abbrev pub IsAnswered : Topology → Course → Type 0
IsAnswered f v = (c : ℕ) → (v.core.connection c).missed ≡ false → AreAnswered f v.core c (v.core.connection c).unread (v.core.connection c).queue (v.due c)

-- ---- moves that leave the connections

ready_set : (w : World) (x : ℕ) (t : Transaction) → t.ready ≡ (w.transaction x).ready → (y s : ℕ) → (w.transaction y).ready s ≡ true → (set w.transaction x t y).ready s ≡ true
ready_set w x t e y s h = set_cases (λ z (u : Transaction). (w.transaction z).ready s ≡ true → u.ready s ≡ true) w.transaction x t y (λ k. ap (λ (g : ℕ → Bool). g s) e ∙ k) (λ ne k. k) h

answered_set : (f : Topology) (v : Course) (x : ℕ) (t : Transaction) (history : List Decision) (pending : Option Decision) → t.ready ≡ (v.core.transaction x).ready → IsAnswered f v
    → IsAnswered f (record { core = record { server = v.core.server; connection = v.core.connection; transaction = set v.core.transaction x t; history = history; pending = pending }; due = v.due })
answered_set f v x t history pending e i c all =
    answered_still f v.core (record { server = v.core.server; connection = v.core.connection; transaction = set v.core.transaction x t; history = history; pending = pending }) c (v.core.connection c).unread (v.core.connection c).queue (v.due c)
    (record { begun = λ h. h; ready = ready_set v.core x t e }) (i c all)

answered_recorded : (f : Topology) (v : Course) (o : Option Decision) → IsAnswered f v → IsAnswered f (record { core = recorded v.core o; due = v.due })
answered_recorded f v None i = i
answered_recorded f v (Some d) i = answered_set f v d.number (record (v.core.transaction d.number) { phase = Over }) (d ∷ v.core.history) None refl i

answered_boot : (f : Topology) (v : Course) → IsAnswered f v → IsAnswered f (record { core = new_boot v.core; due = v.due })
answered_boot f v i c all = answered_still f v.core (new_boot v.core) c (v.core.connection c).unread (v.core.connection c).queue (v.due c) (record { begun = λ h. h; ready = λ y s h. h }) (i c all)

-- ---- connections of which less is known

answered_less : (f : Topology) (v : Course) (u : World) → ((y s : ℕ) → (v.core.transaction y).ready s ≡ true → (u.transaction y).ready s ≡ true) → ((c : ℕ) → IsLess (u.connection c) (v.core.connection c)) → IsAnswered f v → IsAnswered f (record { core = u; due = v.due })
answered_less f v u ready l i c all =
    let was = i c ((l c).missed all) in
    let unread : (u.connection c).unread ≡ (v.core.connection c).unread = ⊎_elim (λ (e : (u.connection c).unread ≡ (v.core.connection c).unread). e) (λ e. cc (e.1, all)) (l c).unread in
    subst (λ q. AreAnswered f u c (u.connection c).unread q (v.due c)) (sym ((l c).kept all))
    (subst (λ us. AreAnswered f u c us (v.core.connection c).queue (v.due c)) (sym unread)
    (answered_still f v.core u c (v.core.connection c).unread (v.core.connection c).queue (v.due c) (record { begun = λ h. (l c).begun ∙ h; ready = ready }) was))

-- ---- a request is sent

asking_ready : (f : Topology) (w : World) (c : ℕ) (r : Request) (y s : ℕ) → (w.transaction y).ready s ≡ true → (asking f w c r y).ready s ≡ true
asking_ready f w c (Start x) y s h = h
asking_ready f w c (Scan fp) y s h = h
asking_ready f w c (Change fp rows) y s h = h
asking_ready f w c (End x) y s h = h
asking_ready f w c (Prepare x) y s h = ready_set w x _ refl y s h
asking_ready f w c (Commit x) y s h = h
asking_ready f w c (Rollback x) y s h = h
asking_ready f w c Recover y s h = h

answered_asks : (f : Topology) (v : Course) (d : ℕ) (r : Request) → IsAnswered f v → IsAnswered f (record { core = asks f v.core d r; due = set v.due d (v.due d ++ r ∷ []) })
answered_asks f v d r i c = go (eqb c d) refl
  where
    more : (k : ℕ) → KnowsMore v.core (asks f v.core d r) k
    more k = record { begun = λ h. grind (arith, nat_tests); ready = asking_ready f v.core d r }

    go : (t : Bool) → eqb c d ≡ t → (cond t (record (v.core.connection d) { queue = (v.core.connection d).queue ++ r ∷ [] }) (v.core.connection c)).missed ≡ false
        → AreAnswered f (asks f v.core d r) c (cond t (record (v.core.connection d) { queue = (v.core.connection d).queue ++ r ∷ [] }) (v.core.connection c)).unread (cond t (record (v.core.connection d) { queue = (v.core.connection d).queue ++ r ∷ [] }) (v.core.connection c)).queue (cond t (v.due d ++ r ∷ []) (v.due c))
    go true h all = subst (λ m. AreAnswered f (asks f v.core d r) m (v.core.connection d).unread ((v.core.connection d).queue ++ r ∷ []) (v.due d ++ r ∷ [])) (sym (eqb-true c d h))
        (answered_push f (asks f v.core d r) d (v.core.connection d).unread (v.core.connection d).queue (v.due d) r (answered_still f v.core (asks f v.core d r) d (v.core.connection d).unread (v.core.connection d).queue (v.due d) (more d) (i d all)))
    go false h all = answered_still f v.core (asks f v.core d r) c (v.core.connection c).unread (v.core.connection c).queue (v.due c) (more c) (i c all)

-- ---- a server answers

-- the answer says what the effect makes true
serves_answer : (f : Topology) (w u : World) (c : ℕ) (r : Request) (e : Effect) → known.Did (w.server (f.home c)) c r e → (begins e ≡ true → (u.connection c).begun ≡ true) → ((y s : ℕ) → (readying f w c e y).ready s ≡ true → (u.transaction y).ready s ≡ true) → Answers f u c r (reply e)
serves_answer f w u c r e Kept b t = tt
serves_answer f w u c r e Showed b t = tt
serves_answer f w u c r e (Begun g o) b t = b refl
serves_answer f w u c (Start x) e (Grew g mine stage free right locks) b t = absurd locks
serves_answer f w u c (Scan fp) e (Grew g mine stage free right locks) b t = locks
serves_answer f w u c (Change fp rows) e (Grew g mine stage free right locks) b t = locks
serves_answer f w u c (End x) e (Grew g mine stage free right locks) b t = absurd locks
serves_answer f w u c (Prepare x) e (Grew g mine stage free right locks) b t = absurd locks
serves_answer f w u c (Commit x) e (Grew g mine stage free right locks) b t = absurd locks
serves_answer f w u c (Rollback x) e (Grew g mine stage free right locks) b t = absurd locks
serves_answer f w u c Recover e (Grew g mine stage free right locks) b t = absurd locks
serves_answer f w u c r e (Closed g mine stage) b t = tt
serves_answer f w u c r e (Readied {b = d} g mine stage) b t = t d.xid (f.home c) (grind (arith, nat_tests))
serves_answer f w u c r e (Dropped g q) b t = tt
serves_answer f w u c r e (Installed g stage) b t = tt

answered_serves : (f : Topology) (v : Course) (c : ℕ) (r : Request) (q : List Request) (e : Effect) (told : Reply) → (v.core.connection c).queue ≡ r ∷ q → Answers f (serves f v.core c q e told) c r told → IsAnswered f v
    → IsAnswered f (record { core = serves f v.core c q e told; due = v.due })
answered_serves f v c r q e told h news i k = set_cases (λ m (ch : Connection). ch.missed ≡ false → AreAnswered f u m ch.unread ch.queue (v.due m)) v.core.connection c _ k here
    (λ ne all. answered_still f v.core u k (v.core.connection k).unread (v.core.connection k).queue (v.due k) (more k) (i k all))
  where
    u : World
    u = serves f v.core c q e told

    ready : (y s : ℕ) → (v.core.transaction y).ready s ≡ true → (readying f v.core c e y).ready s ≡ true
    ready y s g = (served_ready f v.core c r e y s).0 g

    more : (m : ℕ) → KnowsMore v.core (serves f v.core c q e told) m
    more m = record { begun = λ g. grind (arith, nat_tests); ready = ready }

    here : ((v.core.connection c).missed || not (v.core.connection c).stands) ≡ false → AreAnswered f (serves f v.core c q e told) c (cond (v.core.connection c).stands ((v.core.connection c).unread ++ told ∷ []) []) q (v.due c)
    here all =
        let st : (v.core.connection c).stands ≡ true = grind arith in
        let was : AreAnswered f v.core c (v.core.connection c).unread (r ∷ q) (v.due c) = subst (λ z. AreAnswered f v.core c (v.core.connection c).unread z (v.due c)) h (i c (grind arith)) in
        subst (λ b. AreAnswered f (serves f v.core c q e told) c (cond b ((v.core.connection c).unread ++ told ∷ []) []) q (v.due c)) (sym st)
        (answered_serve f (serves f v.core c q e told) c (v.core.connection c).unread q (v.due c) r told (answered_still f v.core (serves f v.core c q e told) c (v.core.connection c).unread (r ∷ q) (v.due c) (more c) was) news)

answered_delivers : (f : Topology) (v : Course) (c : ℕ) (q : List Request) → (v.core.connection c).queue ≡ q → IsSound f v.core → IsAnswered f v → IsAnswered f (record { core = delivers f v.core c q; due = v.due })
answered_delivers f v c [] h s i = i
answered_delivers f v c (r ∷ q) h s i = answered_serves f v c r q (effect (v.core.server (f.home c)) c r) _ h
    (serves_answer f v.core (does f v.core c q (effect (v.core.server (f.home c)) c r)) c r (effect (v.core.server (f.home c)) c r) (known.did (v.core.server (f.home c)) c r (s.orderly.locked (f.home c)).distinct) (λ b. grind (arith, nat_tests)) (λ y t g. g)) i

answered_refuses : (f : Topology) (v : Course) (c : ℕ) (q : List Request) → (v.core.connection c).queue ≡ q → IsAnswered f v → IsAnswered f (record { core = refuses f v.core c q; due = v.due })
answered_refuses f v c [] h i = i
answered_refuses f v c (r ∷ q) h i = answered_serves f v c r q Keep Refused h tt i

answered_faults : (f : Topology) (v : Course) (c : ℕ) (found : Bool) (q : List Request) → (v.core.connection c).queue ≡ q → IsAnswered f v → IsAnswered f (record { core = faults f v.core c found q; due = v.due })
answered_faults f v c found [] h i = i
answered_faults f v c found (r ∷ q) h i = λ k all.
    answered_still f (serves f v.core c q (left_of found (effect (v.core.server (f.home c)) c r)) Refused) (faults f v.core c found (r ∷ q)) k ((faults f v.core c found (r ∷ q)).connection k).unread ((faults f v.core c found (r ∷ q)).connection k).queue (v.due k)
    (record { begun = λ g. g; ready = λ y s g. g }) (answered_serves f v c r q (left_of found (effect (v.core.server (f.home c)) c r)) Refused h tt i k all)

-- ---- an answer is read, a connection is used

answered_reads : (f : Topology) (v : Course) (c : ℕ) (us : List Reply) → (v.core.connection c).unread ≡ us → IsAnswered f v → IsAnswered f (record { core = reads v.core c us; due = due_read v.due c us })
answered_reads f v c [] e i = i
answered_reads f v c (a ∷ us) e i = λ k. go k (eqb k c) refl
  where
    more : (m : ℕ) → KnowsMore v.core (reads v.core c (a ∷ us)) m
    more m = record { begun = λ h. grind (arith, nat_tests); ready = ready_set v.core (v.core.connection c).xid _ refl }

    go : (k : ℕ) (t : Bool) → eqb k c ≡ t → (cond t (record (v.core.connection c) { unread = us }) (v.core.connection k)).missed ≡ false
        → AreAnswered f (reads v.core c (a ∷ us)) k (cond t (record (v.core.connection c) { unread = us }) (v.core.connection k)).unread (cond t (record (v.core.connection c) { unread = us }) (v.core.connection k)).queue (cond t (tail_of (v.due c)) (v.due k))
    go k true h all = subst (λ m. AreAnswered f (reads v.core c (a ∷ us)) m us (v.core.connection c).queue (tail_of (v.due c))) (sym (eqb-true k c h))
        (answered_read f (reads v.core c (a ∷ us)) c a us (v.core.connection c).queue (v.due c) (answered_still f v.core (reads v.core c (a ∷ us)) c (a ∷ us) (v.core.connection c).queue (v.due c) (more c) (subst (λ z. AreAnswered f v.core c z (v.core.connection c).queue (v.due c)) e (i c all))))
    go k false h all = answered_still f v.core (reads v.core c (a ∷ us)) k (v.core.connection k).unread (v.core.connection k).queue (v.due k) (more k) (i k all)

answered_uses : (f : Topology) (v : Course) (d x : ℕ) → may_use v.core d x ≡ true → IsAnswered f v → IsAnswered f (record { core = uses_connection v.core d x; due = v.due })
answered_uses f v d x may i k = set_cases (λ m (ch : Connection). ch.missed ≡ false → AreAnswered f (uses_connection v.core d x) m ch.unread ch.queue (v.due m)) v.core.connection d _ k here
    (λ ne all. answered_still f v.core (uses_connection v.core d x) k (v.core.connection k).unread (v.core.connection k).queue (v.due k) (record { begun = λ h. grind (arith, nat_tests); ready = ready_set v.core x _ refl }) (i k all))
  where
    silent : (v.core.connection d).unread ≡ []
    silent = none_told (v.core.connection d).unread (grind arith)

    here : (v.core.connection d).missed ≡ false → AreAnswered f (uses_connection v.core d x) d (v.core.connection d).unread (v.core.connection d).queue (v.due d)
    here all = subst (λ us. AreAnswered f (uses_connection v.core d x) d us (v.core.connection d).queue (v.due d)) (sym silent) (subst (λ us. AreAnswered f v.core d us (v.core.connection d).queue (v.due d)) silent (i d all))

-- ---- every move, every run

pub answered_goes : (f : Topology) (v : Course) (m : Move) → IsSound f v.core → IsAnswered f v → IsAnswered f (goes f v m)
answered_goes f v (Draws x) s i = guarded (λ u. IsAnswered f (record { core = u; due = v.due })) (is_fresh (v.core.transaction x).phase) (with_phase v.core x Live) v.core i (λ h. answered_set f v x (record (v.core.transaction x) { phase = Live }) v.core.history v.core.pending refl i)
answered_goes f v (Dials c) s i = unless (λ u. IsAnswered f (record { core = u; due = v.due })) (v.core.connection c).dialled (with_connection v.core c (dialled_now (v.core.connection c))) v.core i (λ h. answered_less f v (with_connection v.core c (dialled_now (v.core.connection c))) (λ y t g. g) (less_at v.core c _ (less_dialled (v.core.connection c))) i)
answered_goes f v (Uses c x) s i = guarded (λ u. IsAnswered f (record { core = u; due = v.due })) (may_use v.core c x) (uses_connection v.core c x) v.core i (λ h. answered_uses f v c x h i)
answered_goes f v (Sends c r) s i = elim (may_ask f v.core c r) as (λ t. IsAnswered f (record { core = cond t (asks f v.core c r) v.core; due = cond t (set v.due c (v.due c ++ r ∷ [])) v.due })) [
  | true ↦ answered_asks f v c r i
  | false ↦ i
]
answered_goes f v (Delivers c) s i = answered_delivers f v c (v.core.connection c).queue refl s i
answered_goes f v (Refuses c) s i = answered_refuses f v c (v.core.connection c).queue refl i
answered_goes f v (Faults c found) s i = answered_faults f v c found (v.core.connection c).queue refl i
answered_goes f v (Reads c) s i = answered_reads f v c (v.core.connection c).unread refl i
answered_goes f v (Breaks c) s i = answered_less f v (with_connection v.core c (broken (v.core.connection c))) (λ y t g. g) (less_at v.core c _ (less_broken (v.core.connection c))) i
answered_goes f v (Hangup_seen c) s i = unless (λ u. IsAnswered f (record { core = u; due = v.due })) (v.core.connection c).stands (sees_hangup f v.core c) v.core i (λ h. answered_less f v (sees_hangup f v.core c) (λ y t g. g) (less_at v.core c _ (less_ended (v.core.connection c))) i)
answered_goes f v (Writes x ms) s i = guarded (λ u. IsAnswered f (record { core = u; due = v.due })) (may_decide f v.core x ms) (writes v.core x ms) v.core i (λ h. answered_set f v x _ v.core.history (writes v.core x ms).pending refl i)
answered_goes f v Recorded s i = answered_recorded f v v.core.pending i
answered_goes f v (Gives_up x) s i = guarded (λ u. IsAnswered f (record { core = u; due = v.due })) (is_live (v.core.transaction x).phase) (with_phase v.core x Over) v.core i (λ h. answered_set f v x (record (v.core.transaction x) { phase = Over }) v.core.history v.core.pending refl i)
answered_goes f v (Stops t) s i = answered_less f v (stops f v.core t) (λ y u g. g) (stops_less f v.core t) i
answered_goes f v Front_stops s i = answered_less f v (front_stops v.core) (λ y t g. g) (λ c. less_broken (v.core.connection c)) i
answered_goes f v (Reopens found) s i = answered_boot f (record { core = cond found (recorded v.core v.core.pending) v.core; due = v.due }) (either found)
  where
    either : (b : Bool) → IsAnswered f (record { core = cond b (recorded v.core v.core.pending) v.core; due = v.due })
    either true = answered_recorded f v v.core.pending i
    either false = i

pub answered_course : (f : Topology) (ms : List Move) (v : Course) → IsSound f v.core → IsAnswered f v → IsSound f (course f ms v).core × IsAnswered f (course f ms v)
answered_course f [] v s i = (s, i)
answered_course f (m ∷ ms) v s i = answered_course f ms (goes f v m) (sound_happens f v.core m s) (answered_goes f v m s i)

pub answered : (f : Topology) (ms : List Move) → IsSound f (course f ms new_course).core × IsAnswered f (course f ms new_course)
answered f ms = answered_course f ms new_course (sound f []) (λ c all. refl)

-- the first answer that waits is to the first request that is due
pub first_answered : (f : Topology) (w : World) (c : ℕ) (a : Reply) (us : List Reply) (q due : List Request) → AreAnswered f w c (a ∷ us) q due → (r : Request) × (rest : List Request) × (due ≡ r ∷ rest) × Answers f w c r a
first_answered f w c a us q [] h = absurd h
first_answered f w c a us q (r ∷ rest) h = (r, rest, refl, h.0)

-- where nothing is due nothing is under way
pub none_due : (f : Topology) (w : World) (c : ℕ) (us : List Reply) (q : List Request) → AreAnswered f w c us q [] → (us ≡ []) × (q ≡ [])
none_due f w c [] q h = (refl, sym h)
none_due f w c (a ∷ us) q h = absurd h
