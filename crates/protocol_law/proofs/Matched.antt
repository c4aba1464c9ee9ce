-- A branch did exactly what the front was told on its connection.
use Rattle.std.proofs.Common.{◌≡◌, ◌≢◌, ℕ, Bool, true, false, cond, not, ◌||◌, eqb, List, [], ◌∷◌, ◌++◌, Option, Some, None, refl, sym, ap, ◌∙◌, subst, arith, ◌⊎◌, inl, inr, ⊎_elim, ap₂, eqb-true}
use Rattle.std.proofs.lemmas.Bool.Decides.{nat_tests}
use Rattle.std.proofs.lemmas.Bool.{cases_eq}
use Rattle.commit_protocol.specs.Rows.{Operation, footprint_of, after, IsRight}
use Rattle.commit_protocol.specs.Backend.{Branch, Server, Request, Effect, find, is_prepared, kept, put, blocked, done}
use Rattle.commit_protocol.specs.Backend.Stage.{Active, Ended, Prepared}
use Rattle.commit_protocol.specs.Backend.Request.{Start, Scan, Change, End, Prepare, Commit, Rollback, Recover}
use Rattle.commit_protocol.specs.Backend.Effect.{Keep, Show, Begin, Grow, Close, Ready, Drop, Install}
use Rattle.commit_protocol.specs.Network.{Topology, Connection, Reply, set, is_idle, reply}
use Rattle.commit_protocol.specs.Protocol.{World, Transaction, Decision, Step, Phase, Move, is_fresh, is_live, is_over, is_undecided, may_ask, asks, serves, readying, delivers, refuses, faults, reads, noting, may_decide, writes, recorded, uses_connection, with_phase, sees_hangup, stops, happens, start}
use Rattle.commit_protocol.specs.Views.{done_on}
use Rattle.commit_protocol.specs.Network.Reply.{Refused, Ran, Did, Listed}
use Rattle.commit_protocol.specs.Protocol.Phase.{Fresh, Live, Writing, Over}
use Rattle.commit_protocol.specs.Protocol.Move.{Draws, Dials, Uses, Sends, Delivers, Refuses, Faults, Reads, Breaks, Hangup_seen, Writes, Recorded, Gives_up, Stops, Front_stops, Reopens}
use Rattle.protocol_law.proofs.Branches.{find_kept, find_kept_there, find_put, find_without}
use Rattle.protocol_law.proofs.Effects as known
use Rattle.protocol_law.proofs.Effects.Did.{Kept, Showed, Begun, Grew, Closed, Readied, Dropped, Installed}
use Rattle.protocol_law.proofs.Locks.{IsLocked, put_cases}
use Rattle.protocol_law.proofs.Traffic.{IsOrderly, IsAllowed, AreAllowed, no_ran, is_ran, set_cases, none_told, guarded, unless, is_none_from}
use Rattle.protocol_law.proofs.Frames.{IsLess, less_at, less_broken, less_ended, less_dialled, with_connections, stops_less, ends_all, none_undecided_then, with_server, with_queue, with_progress}
use Rattle.protocol_law.proofs.Sending.{notes_asked}
use Rattle.protocol_law.proofs.Serving.{served_rest, served_ready, IsNews, news_prepare, ran_from, Says, says_left, did_left, orderly_serves}
use Rattle.protocol_law.proofs.Orderly.{done_on_other, done_on_quiet}
use Rattle.protocol_law.proofs.Serving.Says.{As_done, Refuses_it}

-- the log once all the answers are read
abbrev pub onto : List Reply → List Operation → List Operation
onto [] log = log
onto (Refused ∷ rs) log = onto rs log
onto (Listed xids ∷ rs) log = onto rs log
onto (Ran op ∷ rs) log = onto rs (op ∷ log)
onto (Did ∷ rs) log = onto rs log

abbrev pub heard : Reply → List Operation → List Operation
heard Refused log = log
heard (Listed xids) log = log
heard (Ran op) log = op ∷ log
heard Did log = log

pub onto_more : (rs : List Reply) (r : Reply) (log : List Operation) → onto (rs ++ r ∷ []) log ≡ heard r (onto rs log)
onto_more [] Refused log = refl
onto_more [] (Listed xids) log = refl
onto_more [] (Ran op) log = refl
onto_more [] Did log = refl
onto_more (Refused ∷ rs) r log = onto_more rs r log
onto_more (Listed xids ∷ rs) r log = onto_more rs r log
onto_more (Ran op ∷ rs) r log = onto_more rs r (op ∷ log)
onto_more (Did ∷ rs) r log = onto_more rs r log

pub onto_quiet : (rs : List Reply) (log : List Operation) → no_ran rs ≡ true → onto rs log ≡ log
onto_quiet [] log h = refl
onto_quiet (Refused ∷ rs) log h = onto_quiet rs log (grind arith)
onto_quiet (Listed xids ∷ rs) log h = onto_quiet rs log (grind arith)
onto_quiet (Ran op ∷ rs) log h = cc
onto_quiet (Did ∷ rs) log h = onto_quiet rs log (grind arith)

pub record IsMatched (f : Topology) (w : World) : Type 0 where
  pub told : (c : ℕ) (b : Branch) → (w.connection c).missed ≡ false → is_live (w.transaction (w.connection c).xid).phase ≡ true → find (w.connection c).xid (w.server (f.home c)).branches ≡ Some b → b.owner ≡ c
      → b.log ≡ onto (w.connection c).unread (done_on c (w.transaction (w.connection c).xid).log)
  pub frozen : (x c : ℕ) (b : Branch) → is_undecided (w.transaction x).phase ≡ true → (w.transaction x).asked (f.home c) ≡ Some c → find x (w.server (f.home c)).branches ≡ Some b → b.owner ≡ c → b.log ≡ done_on c (w.transaction x).log
  pub ready : (x s : ℕ) → is_undecided (w.transaction x).phase ≡ true → (w.transaction x).ready s ≡ true → (c : ℕ) × (b : Branch) × ((w.transaction x).asked s ≡ Some c) × (find x (w.server s).branches ≡ Some b) × (b.stage ≡ Prepared) × (b.owner ≡ c)

-- a transaction whose number isn't drawn has no branch
pub fresh_none : (f : Topology) (w : World) → IsOrderly f w → (x s : ℕ) (b : Branch) → is_fresh (w.transaction x).phase ≡ true → find x (w.server s).branches ≡ Some b → ⊥
fresh_none f w o x s b fresh h = let no : (w.transaction x).uses b.owner ≡ false = (o.blank x fresh).0 b.owner in cc (no, o.used s x b h)

-- ---- the phase of a transaction
pub matched_phase : (f : Topology) (w : World) (x : ℕ) (p : Phase) → IsOrderly f w → (is_live p ≡ true → is_fresh (w.transaction x).phase ≡ true) → (is_undecided p ≡ true → (is_fresh (w.transaction x).phase ≡ true) ⊎ (is_undecided (w.transaction x).phase ≡ true)) → IsMatched f w → IsMatched f (with_phase w x p)
matched_phase f w x p o live undecided i = record {
  told = λ c b st l h mine. grind (arith, nat_tests, i.told c b st, live, fresh_none f w o x (f.home c) b);
  frozen = λ y c b l a h mine. set_cases (λ z (t : Transaction). is_undecided t.phase ≡ true → t.asked (f.home c) ≡ Some c → find z (w.server (f.home c)).branches ≡ Some b → b.owner ≡ c → b.log ≡ done_on c t.log) w.transaction x _ y
      (λ m q g n. ⊎_elim
      (λ (fresh : is_fresh (w.transaction x).phase ≡ true). absurd (fresh_none f w o x (f.home c) b fresh g))
      (λ (old : is_undecided (w.transaction x).phase ≡ true). i.frozen x c b old q g n)
      (undecided m))
      (λ ne m q g n. i.frozen y c b m q g n)
      l a h mine;
  ready = λ y s l r. set_cases (λ z (t : Transaction). is_undecided t.phase ≡ true → t.ready s ≡ true → (c : ℕ) × (b : Branch) × (t.asked s ≡ Some c) × (find z (w.server s).branches ≡ Some b) × (b.stage ≡ Prepared) × (b.owner ≡ c)) w.transaction x _ y
      (λ m q. ⊎_elim
      (λ (fresh : is_fresh (w.transaction x).phase ≡ true). let no : (w.transaction x).ready s ≡ false = (o.blank x fresh).1 s in cc (no, q))
      (λ (old : is_undecided (w.transaction x).phase ≡ true). i.ready x s old q)
      (undecided m))
      (λ ne m q. i.ready y s m q)
      l r;
}

-- ---- a connection is used
pub matched_uses : (f : Topology) (w : World) (c x : ℕ) → is_idle (w.connection c) ≡ true → (w.transaction x).uses c ≡ false → IsOrderly f w → IsMatched f w → IsMatched f (uses_connection w c x)
matched_uses f w c x idle new o i = record {
  told = λ d b st l h mine. grind (arith, nat_tests, i.told d b, o.used (f.home c) x b);
  frozen = λ y d b l a h mine. grind (arith, nat_tests, i.frozen y d b);
  ready = λ y s l r. set_cases (λ z (t : Transaction). is_undecided t.phase ≡ true → t.ready s ≡ true → (k : ℕ) × (b : Branch) × (t.asked s ≡ Some k) × (find z (w.server s).branches ≡ Some b) × (b.stage ≡ Prepared) × (b.owner ≡ k)) w.transaction x _ y
      (λ m q. i.ready x s m q)
      (λ ne m q. i.ready y s m q)
      l r;
}

-- ---- a queue changes
pub matched_queue : (f : Topology) (w : World) (c : ℕ) (q : List Request) → IsMatched f w → IsMatched f (with_queue w c q)
matched_queue f w c q i = record {
  told = λ d b st l h mine. grind (arith, nat_tests, i.told d b, i.told c b);
  frozen = i.frozen;
  ready = i.ready;
}

-- ---- prepare is asked: nothing is under way then, so the branch did what the front was told
pub matched_asked : (f : Topology) (w : World) (c y : ℕ) → is_idle (w.connection c) ≡ true → y ≡ (w.connection c).xid → is_live (w.transaction y).phase ≡ true → (w.transaction y).asked (f.home c) ≡ None → IsOrderly f w → IsMatched f w → IsMatched f (notes_asked f w c y)
matched_asked f w c y idle here live n o i =
    let silent : (w.connection c).unread ≡ [] = none_told (w.connection c).unread (grind arith) in
    record {
      told = λ d b st l h mine. grind (arith, nat_tests, i.told d b);
      frozen = λ x d b l a h mine. grind (arith, nat_tests, i.frozen x d b, i.told c b, ap (λ rs. onto rs (done_on c (w.transaction (w.connection c).xid).log)) silent);
      ready = λ x s l r. set_cases (λ z (t : Transaction). is_undecided t.phase ≡ true → t.ready s ≡ true → (k : ℕ) × (b : Branch) × (t.asked s ≡ Some k) × (find z (w.server s).branches ≡ Some b) × (b.stage ≡ Prepared) × (b.owner ≡ k)) w.transaction y _ x
          (λ m q. let k = i.ready y s m q in (k.0, k.1, asked_then k.0 s k.2, k.3, k.4, k.5))
          (λ ne m q. i.ready x s m q)
          l r;
    }
  where
    asked_then : (k s : ℕ) → (w.transaction y).asked s ≡ Some k → set (w.transaction y).asked (f.home c) (Some c) s ≡ Some k
    asked_then k s h = grind (arith, nat_tests)

-- ---- fewer branches
pub matched_fewer : (f : Topology) (w : World) (s : ℕ) (p : Branch → Bool) → ((b : Branch) → b.stage ≡ Prepared → p b ≡ true) → IsOrderly f w → IsMatched f w → IsMatched f (with_server w s (record (w.server s) { branches = kept p (w.server s).branches }))
matched_fewer f w s p keeps o i =
    let was : (t y : ℕ) (b : Branch) → find y ((with_server w s (record (w.server s) { branches = kept p (w.server s).branches })).server t).branches ≡ Some b → find y (w.server t).branches ≡ Some b
    = λ t y b. set_cases (λ u (x : Server). find y x.branches ≡ Some b → find y (w.server u).branches ≡ Some b) w.server s _ t (λ g. (find_kept p y b (w.server s).branches (o.locked s).distinct g).0) (λ ne g. g) in
    record {
      told = λ d b st l h mine. i.told d b st l (was _ _ b h) mine;
      frozen = λ y d b l a h mine. i.frozen y d b l a (was _ _ b h) mine;
      ready = λ y t l r. let k = i.ready y t l r in (k.0, k.1, k.2, set_cases (λ u (x : Server). find y (w.server u).branches ≡ Some k.1 → find y x.branches ≡ Some k.1) w.server s _ t (λ g. find_kept_there p y k.1 (w.server s).branches g (keeps k.1 k.4)) (λ ne g. g) k.3, k.4, k.5);
    }

-- ---- a decision
pub matched_progress : (f : Topology) (w : World) (p : Option Decision) → IsMatched f w → IsMatched f (with_progress w p)
matched_progress f w p i = record { told = i.told; frozen = i.frozen; ready = i.ready }

pub matched_recorded : (f : Topology) (w : World) (n : Decision) → IsMatched f w → IsMatched f (recorded w (Some n))
matched_recorded f w n i = record {
  told = λ d b st l h mine. grind (arith, nat_tests, i.told d b);
  frozen = λ y d b l a h mine. grind (arith, nat_tests, i.frozen y d b);
  ready = λ y s l r. set_cases (λ z (t : Transaction). is_undecided t.phase ≡ true → t.ready s ≡ true → (c : ℕ) × (b : Branch) × (t.asked s ≡ Some c) × (find z (w.server s).branches ≡ Some b) × (b.stage ≡ Prepared) × (b.owner ≡ c)) w.transaction n.number _ y
      (λ m q. cc)
      (λ ne m q. i.ready y s m q)
      l r;
}

-- ---- a request is delivered
-- how a branch that is found then came to be
pub data Track (s : Server) (c : ℕ) (r : Request) (e : Effect) (y : ℕ) (b : Branch) : Type 0 where
  Is_new : r ≡ Start y → b.owner ≡ c → b.log ≡ [] → reply e ≡ Did → is_prepared b.stage ≡ false → Track s c r e y b
  Has_grown : (a : Branch) (op : Operation) → find y s.branches ≡ Some a → a.owner ≡ c → b.owner ≡ c → b.log ≡ op ∷ a.log → reply e ≡ Ran op → a.stage ≡ Active → b.stage ≡ Active → IsRight (after s.rows a.log) op → blocked y (footprint_of op) s.branches ≡ false → Track s c r e y b
  Is_same : (a : Branch) → find y s.branches ≡ Some a → a.owner ≡ b.owner → b.log ≡ a.log → (is_prepared a.stage ≡ true → is_prepared b.stage ≡ true) → (is_prepared b.stage ≡ true → (is_prepared a.stage ≡ true) ⊎ (r ≡ Prepare y))
      → (is_ran (reply e) ≡ true → (d : Branch) × (find d.xid s.branches ≡ Some d) × (d.owner ≡ c) × (d.stage ≡ Active) × (y ≢ d.xid)) → Track s c r e y b

pub track : (s : Server) (c : ℕ) (r : Request) (e : Effect) → known.Did s c r e → IsLocked s → (y : ℕ) (b : Branch) → find y (done s e).branches ≡ Some b → Track s c r e y b
track s c r e Kept i y b h = Is_same b h refl refl (λ p. p) (λ p. inl p) (λ t. cc)
track s c r e Showed i y b h = Is_same b h refl refl (λ p. p) (λ p. inl p) (λ t. cc)
track s c r e (Begun {x = x} f o) i y b h = two (put_cases (record { xid = x; stage = Active; owner = c; log = [] }) s.branches y b h)
  where
    two : ((x ≡ y) × (record { xid = x; stage = Active; owner = c; log = [] } ≡ b)) ⊎ ((y ≢ x) × (find y s.branches ≡ Some b)) → Track s c (Start x) (Begin x c) y b
    two (inl p) = Is_new (ap Start p.0) (ap (λ (z : Branch). z.owner) (sym p.1)) (ap (λ (z : Branch). z.log) (sym p.1)) refl (ap (λ (z : Branch). is_prepared z.stage) (sym p.1))
    two (inr p) = Is_same b p.1 refl refl (λ q. q) (λ q. inl q) (λ t. cc)
track s c r e (Grew {b = d} {op = op} f mine stage free right locks) i y b h = two (put_cases (record d { log = op ∷ d.log }) s.branches y b h)
  where
    two : ((d.xid ≡ y) × (record d { log = op ∷ d.log } ≡ b)) ⊎ ((y ≢ d.xid) × (find y s.branches ≡ Some b)) → Track s c r (Grow d op) y b
    two (inl p) = Has_grown d op (ap (λ z. find z s.branches) (sym p.0) ∙ f) mine (ap (λ (z : Branch). z.owner) (sym p.1) ∙ mine) (ap (λ (z : Branch). z.log) (sym p.1)) refl stage (ap (λ (z : Branch). z.stage) (sym p.1) ∙ stage) right (ap (λ z. blocked z (footprint_of op) s.branches) (sym p.0) ∙ free)
    two (inr p) = Is_same b p.1 refl refl (λ q. q) (λ q. inl q) (λ t. (d, f, mine, stage, p.0))
track s c r e (Closed {b = d} f mine stage) i y b h = two (put_cases (record d { stage = Ended }) s.branches y b h)
  where
    two : ((d.xid ≡ y) × (record d { stage = Ended } ≡ b)) ⊎ ((y ≢ d.xid) × (find y s.branches ≡ Some b)) → Track s c (End d.xid) (Close d) y b
    two (inl p) = Is_same d (ap (λ z. find z s.branches) (sym p.0) ∙ f) (ap (λ (z : Branch). z.owner) p.1) (ap (λ (z : Branch). z.log) (sym p.1)) (λ q. let bad : is_prepared Active ≡ true = subst (λ t. is_prepared t ≡ true) stage q in cc) (λ q. let bad : is_prepared Ended ≡ true = ap (λ (z : Branch). is_prepared z.stage) p.1 ∙ q in cc) (λ t. cc)
    two (inr p) = Is_same b p.1 refl refl (λ q. q) (λ q. inl q) (λ t. cc)
track s c r e (Readied {b = d} f mine stage) i y b h = two (put_cases (record d { stage = Prepared }) s.branches y b h)
  where
    two : ((d.xid ≡ y) × (record d { stage = Prepared } ≡ b)) ⊎ ((y ≢ d.xid) × (find y s.branches ≡ Some b)) → Track s c (Prepare d.xid) (Ready d) y b
    two (inl p) = Is_same d (ap (λ z. find z s.branches) (sym p.0) ∙ f) (ap (λ (z : Branch). z.owner) p.1) (ap (λ (z : Branch). z.log) (sym p.1)) (λ q. ap (λ (z : Branch). is_prepared z.stage) (sym p.1)) (λ q. inr (ap Prepare p.0)) (λ t. cc)
    two (inr p) = Is_same b p.1 refl refl (λ q. q) (λ q. inl q) (λ t. cc)
track s c r e (Dropped {b = d} f w) i y b h = let k = find_kept _ y b s.branches i.distinct h in Is_same b k.0 refl refl (λ q. q) (λ q. inl q) (λ t. cc)
track s c r e (Installed {b = d} f stage) i y b h = let k = find_kept _ y b s.branches i.distinct h in Is_same b k.0 refl refl (λ q. q) (λ q. inl q) (λ t. cc)

abbrev pub is_install : Effect → Bool
is_install Keep = false
is_install (Show xids) = false
is_install (Begin x c) = false
is_install (Grow b op) = false
is_install (Close b) = false
is_install (Ready b) = false
is_install (Drop b) = false
is_install (Install b) = true

stays_put : (d e : Branch) (bs : List Branch) (y : ℕ) (b : Branch) → e.xid ≡ d.xid → find d.xid bs ≡ Some d → is_prepared d.stage ≡ false → find y bs ≡ Some b → b.stage ≡ Prepared → find y (put e bs) ≡ Some b
stays_put d e bs y b x f q h p = elim (eqb d.xid y) as (λ v. eqb d.xid y ≡ v → find y (put e bs) ≡ Some b) [
  | true ↦ λ t.
      let same : ◌≡◌ {A = Option Branch} (Some d) (Some b) = sym f ∙ ap (λ z. find z bs) (eqb-true _ _ t) ∙ h in
      let one : d ≡ b = cc in
      let bad : false ≡ true = sym q ∙ ap (λ (z : Branch). is_prepared z.stage) one ∙ ap is_prepared p in
      cc
  | false ↦ λ t. grind (arith, nat_tests, find_put e bs y)
] refl

-- a prepared branch goes by its own Rollback or Commit alone
pub stays : (s : Server) (c : ℕ) (r : Request) (e : Effect) → known.Did s c r e → (y : ℕ) (b : Branch) → find y s.branches ≡ Some b → b.stage ≡ Prepared → (r ≡ Rollback y → ⊥) → (r ≡ Commit y → ⊥) → find y (done s e).branches ≡ Some b
stays s c r e Kept y b h p nr nc = h
stays s c r e Showed y b h p nr nc = h
stays s c r e (Begun {x = x} f o) y b h p nr nc = grind (arith, nat_tests, find_put (record { xid = x; stage = Active; owner = c; log = [] }) s.branches y)
stays s c r e (Grew {b = d} f mine stage free right locks) y b h p nr nc = stays_put d _ s.branches y b refl f (ap is_prepared stage) h p
stays s c r e (Closed {b = d} f mine stage) y b h p nr nc = stays_put d _ s.branches y b refl f (ap is_prepared stage) h p
stays s c r e (Readied {b = d} f mine stage) y b h p nr nc = stays_put d _ s.branches y b refl f (ap is_prepared stage) h p
stays s c r e (Dropped {b = d} f w) y b h p nr nc = let ne : d.xid ≡ y → ⊥ = λ q. nr (ap Rollback q) in grind (arith, nat_tests, find_without d.xid y s.branches)
stays s c r e (Installed {b = d} f stage) y b h p nr nc = let ne : d.xid ≡ y → ⊥ = λ q. nc (ap Commit q) in grind (arith, nat_tests, find_without d.xid y s.branches)

-- restricted Install takes a prepared branch away without its Rollback
pub stays_but : (s : Server) (c : ℕ) (r : Request) (e : Effect) → known.Did s c r e → is_install e ≡ false → (y : ℕ) (b : Branch) → find y s.branches ≡ Some b → b.stage ≡ Prepared → (r ≡ Rollback y → ⊥) → find y (done s e).branches ≡ Some b
stays_but s c r e Kept n y b h p nr = h
stays_but s c r e Showed n y b h p nr = h
stays_but s c r e (Begun {x = x} f o) n y b h p nr = grind (arith, nat_tests, find_put (record { xid = x; stage = Active; owner = c; log = [] }) s.branches y)
stays_but s c r e (Grew {b = d} f mine stage free right locks) n y b h p nr = stays_put d _ s.branches y b refl f (ap is_prepared stage) h p
stays_but s c r e (Closed {b = d} f mine stage) n y b h p nr = stays_put d _ s.branches y b refl f (ap is_prepared stage) h p
stays_but s c r e (Readied {b = d} f mine stage) n y b h p nr = stays_put d _ s.branches y b refl f (ap is_prepared stage) h p
stays_but s c r e (Dropped {b = d} f w) n y b h p nr = let ne : d.xid ≡ y → ⊥ = λ q. nr (ap Rollback q) in grind (arith, nat_tests, find_without d.xid y s.branches)
stays_but s c r e (Installed {b = d} f stage) n y b h p nr = cc

told_served : (f : Topology) (w : World) (c : ℕ) (r : Request) (q : List Request) (e : Effect) → known.Did (w.server (f.home c)) c r e → IsAllowed f w c q r → IsOrderly f w → IsMatched f w
    → (b : Branch) → (w.connection c).missed ≡ false → is_live (w.transaction (w.connection c).xid).phase ≡ true → Track (w.server (f.home c)) c r e (w.connection c).xid b → b.owner ≡ c
    → b.log ≡ heard (reply e) (onto (w.connection c).unread (done_on c (w.transaction (w.connection c).xid).log))
told_served f w c r q e d a o i b st l (Is_new rs mine log re p) yb =
    let fresh : (w.connection c).begun ≡ false = (subst (λ z. IsAllowed f w c q z) rs a).1 in
    let k = o.first c fresh in
    log ∙ sym k.0 ∙ sym (onto_quiet (w.connection c).unread (done_on c (w.transaction (w.connection c).xid).log) k.1) ∙ ap (λ z. heard z (onto (w.connection c).unread (done_on c (w.transaction (w.connection c).xid).log))) (sym re)
told_served f w c r q e d a o i b st l (Has_grown x op g mine yb' log re s1 s2 s3 s4) yb =
    log ∙ ap (λ z. op ∷ z) (i.told c x st l g mine) ∙ ap (λ z. heard z (onto (w.connection c).unread (done_on c (w.transaction (w.connection c).xid).log))) (sym re)
told_served f w c r q e d a o i b st l (Is_same x g mine log p1 p2 other) yb =
    log ∙ i.told c x st l g (mine ∙ yb) ∙ deaf (reply e) refl
  where
    deaf : (z : Reply) → reply e ≡ z → onto (w.connection c).unread (done_on c (w.transaction (w.connection c).xid).log) ≡ heard z (onto (w.connection c).unread (done_on c (w.transaction (w.connection c).xid).log))
    deaf Refused h = refl
    deaf (Listed xids) h = refl
    deaf (Ran op) h =
        let t : is_ran (reply e) ≡ true = ap is_ran h in
        let k = other t in
        let begun : (w.connection c).begun ≡ true = ⊎_elim (λ (m : is_ran (reply e) ≡ false). cc (m, t)) (λ m. m.0) (ran_from f w c q r e d a) in
        absurd (k.4 (sym (o.own c k.0.xid k.0 begun k.1 k.2 (ap is_prepared k.3))))
    deaf Did h = refl

-- another connection's branch is as it was
else_served : (f : Topology) (w : World) (c : ℕ) (r : Request) (e : Effect) (g y : ℕ) (b : Branch) → g ≢ c → Track (w.server (f.home c)) c r e y b → b.owner ≡ g
    → (a : Branch) × (find y (w.server (f.home c)).branches ≡ Some a) × (a.owner ≡ g) × (b.log ≡ a.log)
else_served f w c r e g y b ne (Is_new rs mine log re p) yb = absurd (ne (sym yb ∙ mine))
else_served f w c r e g y b ne (Has_grown x op h mine yb' log re s1 s2 s3 s4) yb = absurd (ne (sym yb ∙ yb'))
else_served f w c r e g y b ne (Is_same x h mine log p1 p2 other) yb = (x, h, mine ∙ yb, log)

frozen_served : (f : Topology) (w : World) (c : ℕ) (r : Request) (q : List Request) (e : Effect) → known.Did (w.server (f.home c)) c r e → IsAllowed f w c q r → IsOrderly f w → IsMatched f w
    → (x : ℕ) (b : Branch) → is_undecided (w.transaction x).phase ≡ true → (w.transaction x).asked (f.home c) ≡ Some c → Track (w.server (f.home c)) c r e x b → b.owner ≡ c → b.log ≡ done_on c (w.transaction x).log
frozen_served f w c r q e d a o i x b l k (Is_new rs mine log re p) yb =
    let h = subst (λ z. IsAllowed f w c q z) rs a in
    log ∙ sym (o.first c h.1).0 ∙ ap (λ z. done_on c (w.transaction z).log) (sym h.0)
frozen_served f w c r q e d a o i x b l k (Has_grown y op g mine yb' log re s1 s2 s3 s4) yb =
    let t : is_ran (reply e) ≡ true = ap is_ran re in
    let m : ((w.connection c).begun ≡ true) × ((w.transaction (w.connection c).xid).asked (f.home c) ≢ Some c) = ⊎_elim (λ (m : is_ran (reply e) ≡ false). cc (m, t)) (λ m. m) (ran_from f w c q r e d a) in
    absurd (m.1 (ap (λ z. (w.transaction z).asked (f.home c)) (sym (o.own c x y m.0 g mine (ap is_prepared s1))) ∙ k))
frozen_served f w c r q e d a o i x b l k (Is_same y g mine log p1 p2 other) yb = log ∙ i.frozen x c y l k g (mine ∙ yb)

pub set_found : (server : ℕ → Server) (k : ℕ) (v : Server) (s y : ℕ) (b : Branch) → find y (set server k v s).branches ≡ Some b → ((s ≡ k) × (find y v.branches ≡ Some b)) ⊎ ((s ≢ k) × (find y (server s).branches ≡ Some b))
set_found server k v s y b = elim (eqb s k) as (λ t. eqb s k ≡ t → find y (cond t v (server s)).branches ≡ Some b → ((s ≡ k) × (find y v.branches ≡ Some b)) ⊎ ((s ≢ k) × (find y (server s).branches ≡ Some b))) [
  | true ↦ λ e h. inl (eqb-true _ _ e, h)
  | false ↦ λ e h. inr (grind (arith, nat_tests), h)
] refl

-- what is ready then: a branch that stays, or the one that the request was about
ready_served : (f : Topology) (w : World) (c : ℕ) (r : Request) (q : List Request) (e : Effect) → known.Did (w.server (f.home c)) c r e → IsAllowed f w c q r → IsOrderly f w → IsMatched f w
    → (x s : ℕ) → is_undecided (w.transaction x).phase ≡ true → ((w.transaction x).ready s ≡ true) ⊎ IsNews f c r e x s
    → (g : ℕ) × (b : Branch) × ((w.transaction x).asked s ≡ Some g) × (find x (set w.server (f.home c) (done (w.server (f.home c)) e) s).branches ≡ Some b) × (b.stage ≡ Prepared) × (b.owner ≡ g)
ready_served f w c r q e d a o i x s l (inl old) =
    let k = i.ready x s l old in (
      k.0,
      k.1,
      k.2,
      set_cases (λ t (v : Server). find x (w.server t).branches ≡ Some k.1 → find x v.branches ≡ Some k.1) w.server (f.home c) _ s
          (λ h. stays _ c r e d x k.1 h k.4 (λ t. not_over _ l (subst (λ z. IsAllowed f w c q z) t a).0) (λ t. not_over _ l (o.decided x (f.home c) (subst (λ z. IsAllowed f w c q z) t a)).0))
          (λ ne h. h) k.3,
      k.4,
      k.5,
    )
  where
    not_over : (p : Phase) → is_undecided p ≡ true → is_over p ≡ true → ⊥
    not_over Fresh m n = cc
    not_over Live m n = cc
    not_over Writing m n = cc
    not_over Over m n = cc
ready_served f w c r q e d a o i x s l (inr n) = go e d n
  where
    asked : (z : Request) → IsAllowed f w c q z → z ≡ Prepare x → (w.transaction x).asked (f.home c) ≡ Some c
    asked z h t = (subst (λ u. IsAllowed f w c q u) t h).1

    go : (e : Effect) → known.Did (w.server (f.home c)) c r e → IsNews f c r e x s → (g : ℕ) × (b : Branch) × ((w.transaction x).asked s ≡ Some g) × (find x (set w.server (f.home c) (done (w.server (f.home c)) e) s).branches ≡ Some b) × (b.stage ≡ Prepared) × (b.owner ≡ g)
    go Keep d n = absurd n
    go (Show xids) d n = absurd n
    go (Begin y k) d n = absurd n
    go (Grow b op) d n = absurd n
    go (Close b) d n = absurd n
    go (Ready b) d n =
        let p = news_prepare f _ c r (Ready b) x s d n in
        (c, record b { stage = Prepared }, ap (w.transaction x).asked n.0 ∙ asked r a p.0, set_there w.server (f.home c) s n.0 x b (sym n.1), refl, by_here r d)
      where
        set_there : (server : ℕ → Server) (k s : ℕ) → s ≡ k → (x : ℕ) (b : Branch) → b.xid ≡ x → find x (set server k (done (server k) (Ready b)) s).branches ≡ Some (record b { stage = Prepared })
        set_there server k s e x b h = grind (arith, nat_tests, find_put (record b { stage = Prepared }) (server k).branches x)

        by_here : (r : Request) → known.Did (w.server (f.home c)) c r (Ready b) → b.owner ≡ c
        by_here r (Readied f mine stage) = mine
    go (Drop b) d n = absurd n
    go (Install b) d n = absurd n

heard_told : (e : Effect) (told : Reply) (log : List Operation) → Says e told → heard (reply e) log ≡ heard told log
heard_told e told log As_done = refl
heard_told e told log (Refuses_it n) = go (reply e) n
  where
    go : (z : Reply) → is_ran z ≡ false → heard z log ≡ log
    go Refused h = refl
    go (Ran op) h = cc
    go Did h = refl
    go (Listed xids) h = refl

pub matched_serves : (f : Topology) (w : World) (c : ℕ) (r : Request) (q : List Request) (e : Effect) (told : Reply) → Says e told → known.Did (w.server (f.home c)) c r e → IsAllowed f w c q r → IsOrderly f w → IsMatched f w → IsMatched f (serves f w c q e told)
matched_serves f w c r q e told says d a o i = record {
  told = λ g b st l h mine. set_cases (λ k (ch : Connection). ch.missed ≡ false → is_live (readying f w c e ch.xid).phase ≡ true → find ch.xid (set w.server (f.home c) (done (w.server (f.home c)) e) (f.home k)).branches ≡ Some b → b.owner ≡ k
      → b.log ≡ onto ch.unread (done_on k (readying f w c e ch.xid).log)) w.connection c _ g
      (λ st l h mine. told_here b st l h mine) (λ ne st l h mine. told_else g b ne st l h mine) st l h mine;
  frozen = λ x g b l k h mine. frozen_at x g b l k mine (set_found w.server (f.home c) _ (f.home g) x b h) (cases_eq g c);
  ready = λ x s l k.
      let p = served_rest f w c e x in
      let m = ready_served f w c r q e d a o i x s (ap is_undecided (sym p.0) ∙ l) ((served_ready f w c r e x s).1 k) in
      (m.0, m.1, ap (λ (z : ℕ → Option ℕ). z s) p.2 ∙ m.2, m.3, m.4, m.5);
}
  where
    told_here : (b : Branch) → ((w.connection c).missed || not (w.connection c).stands) ≡ false → is_live (readying f w c e (w.connection c).xid).phase ≡ true → find (w.connection c).xid (set w.server (f.home c) (done (w.server (f.home c)) e) (f.home c)).branches ≡ Some b → b.owner ≡ c
        → b.log ≡ onto (cond (w.connection c).stands ((w.connection c).unread ++ told ∷ []) []) (done_on c (readying f w c e (w.connection c).xid).log)
    told_here b st l h mine =
        let p = served_rest f w c e (w.connection c).xid in
        let t : find (w.connection c).xid (done (w.server (f.home c)) e).branches ≡ Some b = grind (arith, nat_tests) in
        let stands : (w.connection c).stands ≡ true = grind arith in
        told_served f w c r q e d a o i b (grind arith) (ap is_live (sym p.0) ∙ l) (track _ c r e d (o.locked (f.home c)) _ b t) mine
        ∙ heard_told e told (onto (w.connection c).unread (done_on c (w.transaction (w.connection c).xid).log)) says
        ∙ sym (onto_more (w.connection c).unread told (done_on c (w.transaction (w.connection c).xid).log))
        ∙ ap₂ (λ rs log. onto rs (done_on c log)) (ap (λ v. cond v ((w.connection c).unread ++ told ∷ []) []) (sym stands)) (sym p.1)

    log_same : (x : ℕ) → (readying f w c e x).log ≡ (w.transaction x).log
    log_same x = (served_rest f w c e x).1

    told_else : (g : ℕ) (b : Branch) → g ≢ c → (w.connection g).missed ≡ false → is_live (readying f w c e (w.connection g).xid).phase ≡ true → find (w.connection g).xid (set w.server (f.home c) (done (w.server (f.home c)) e) (f.home g)).branches ≡ Some b → b.owner ≡ g
        → b.log ≡ onto (w.connection g).unread (done_on g (readying f w c e (w.connection g).xid).log)
    told_else g b ne st l h mine = ⊎_elim
        (λ (m : (f.home g ≡ f.home c) × (find (w.connection g).xid (done (w.server (f.home c)) e).branches ≡ Some b)).
        let k = else_served f w c r e g _ b ne (track _ c r e d (o.locked (f.home c)) _ b m.1) mine in
        k.3 ∙ i.told g k.0 st (ap is_live (sym (served_rest f w c e (w.connection g).xid).0) ∙ l) (subst (λ s. find (w.connection g).xid (w.server s).branches ≡ Some k.0) (sym m.0) k.1) k.2 ∙ ap (λ log. onto (w.connection g).unread (done_on g log)) (sym (log_same _)))
        (λ (m : (f.home g ≢ f.home c) × (find (w.connection g).xid (w.server (f.home g)).branches ≡ Some b)).
        i.told g b st (ap is_live (sym (served_rest f w c e (w.connection g).xid).0) ∙ l) m.1 mine ∙ ap (λ log. onto (w.connection g).unread (done_on g log)) (sym (log_same _)))
        (set_found w.server (f.home c) _ (f.home g) _ b h)

    frozen_at : (x g : ℕ) (b : Branch) → is_undecided (readying f w c e x).phase ≡ true → (readying f w c e x).asked (f.home g) ≡ Some g → b.owner ≡ g
        → ((f.home g ≡ f.home c) × (find x (done (w.server (f.home c)) e).branches ≡ Some b)) ⊎ ((f.home g ≢ f.home c) × (find x (w.server (f.home g)).branches ≡ Some b)) → (g ≡ c) ⊎ (g ≡ c → ⊥) → b.log ≡ done_on g (readying f w c e x).log
    frozen_at x g b l k mine (inl m) (inl same) =
        let p = served_rest f w c e x in
        let asked : (w.transaction x).asked (f.home c) ≡ Some c = ap (λ (z : ℕ → Option ℕ). z (f.home c)) (sym p.2) ∙ subst (λ z. (readying f w c e x).asked (f.home z) ≡ Some z) same k in
        frozen_served f w c r q e d a o i x b (ap is_undecided (sym p.0) ∙ l) asked (track _ c r e d (o.locked (f.home c)) x b m.1) (mine ∙ same) ∙ ap₂ (λ z log. done_on z log) (sym same) (sym p.1)
    frozen_at x g b l k mine (inl m) (inr ne) =
        let p = served_rest f w c e x in
        let z = else_served f w c r e g x b ne (track _ c r e d (o.locked (f.home c)) x b m.1) mine in
        z.3 ∙ i.frozen x g z.0 (ap is_undecided (sym p.0) ∙ l) (ap (λ (n : ℕ → Option ℕ). n (f.home g)) (sym p.2) ∙ k) (subst (λ s. find x (w.server s).branches ≡ Some z.0) (sym m.0) z.1) z.2 ∙ ap (done_on g) (sym p.1)
    frozen_at x g b l k mine (inr m) any =
        let p = served_rest f w c e x in
        i.frozen x g b (ap is_undecided (sym p.0) ∙ l) (ap (λ (n : ℕ → Option ℕ). n (f.home g)) (sym p.2) ∙ k) m.1 mine ∙ ap (done_on g) (sym p.1)

-- ---- an answer is read
onto_first : (r : Reply) (q : List Reply) (log : List Operation) → onto (r ∷ q) log ≡ onto q (heard r log)
onto_first Refused q log = refl
onto_first (Listed xids) q log = refl
onto_first (Ran op) q log = refl
onto_first Did q log = refl

done_on_heard : (c : ℕ) (r : Reply) (log : List Step) → done_on c (noting c r log) ≡ heard r (done_on c log)
done_on_heard c Refused log = refl
done_on_heard c (Listed xids) log = refl
done_on_heard c (Ran op) log = grind (arith, nat_tests)
done_on_heard c Did log = refl

pub matched_reads : (f : Topology) (w : World) (c : ℕ) (r : Reply) (q : List Reply) → (w.connection c).unread ≡ r ∷ q → IsOrderly f w → IsMatched f w → IsMatched f (reads w c (r ∷ q))
matched_reads f w c r q u o i = record {
  told = λ d b st l h mine. set_cases (λ k (ch : Connection). ch.missed ≡ false → is_live ((reads w c (r ∷ q)).transaction ch.xid).phase ≡ true → find ch.xid (w.server (f.home k)).branches ≡ Some b → b.owner ≡ k
      → b.log ≡ onto ch.unread (done_on k ((reads w c (r ∷ q)).transaction ch.xid).log)) w.connection c _ d
      (λ st l h mine. told_here b st l h mine) (λ ne st l h mine. told_else d b ne st l h mine) st l h mine;
  frozen = λ x d b l a h mine. frozen_at x d b l a h mine (cases_eq d c);
  ready = λ y s l k. set_cases (λ z (t : Transaction). is_undecided t.phase ≡ true → t.ready s ≡ true → (g : ℕ) × (b : Branch) × (t.asked s ≡ Some g) × (find z (w.server s).branches ≡ Some b) × (b.stage ≡ Prepared) × (b.owner ≡ g)) w.transaction (w.connection c).xid _ y
      (λ m n. i.ready (w.connection c).xid s m n)
      (λ ne m n. i.ready y s m n)
      l k;
}
  where
    told_here : (b : Branch) → (w.connection c).missed ≡ false → is_live ((reads w c (r ∷ q)).transaction (w.connection c).xid).phase ≡ true → find (w.connection c).xid (w.server (f.home c)).branches ≡ Some b → b.owner ≡ c
        → b.log ≡ onto q (done_on c ((reads w c (r ∷ q)).transaction (w.connection c).xid).log)
    told_here b st l h mine =
        let live : is_live (w.transaction (w.connection c).xid).phase ≡ true = grind (arith, nat_tests) in
        i.told c b st live h mine ∙ ap (λ rs. onto rs (done_on c (w.transaction (w.connection c).xid).log)) u ∙ onto_first r q (done_on c (w.transaction (w.connection c).xid).log) ∙ ap (onto q) (sym (done_on_heard c r (w.transaction (w.connection c).xid).log))
        ∙ ap (λ log. onto q (done_on c log)) (grind (arith, nat_tests))

    told_else : (d : ℕ) (b : Branch) → d ≢ c → (w.connection d).missed ≡ false → is_live ((reads w c (r ∷ q)).transaction (w.connection d).xid).phase ≡ true → find (w.connection d).xid (w.server (f.home d)).branches ≡ Some b → b.owner ≡ d
        → b.log ≡ onto (w.connection d).unread (done_on d ((reads w c (r ∷ q)).transaction (w.connection d).xid).log)
    told_else d b ne st l h mine = grind (arith, nat_tests, i.told d b, done_on_other c d r (w.transaction (w.connection c).xid).log)

    frozen_at : (x d : ℕ) (b : Branch) → is_undecided ((reads w c (r ∷ q)).transaction x).phase ≡ true → ((reads w c (r ∷ q)).transaction x).asked (f.home d) ≡ Some d → find x (w.server (f.home d)).branches ≡ Some b → b.owner ≡ d → (d ≡ c) ⊎ (d ≡ c → ⊥) → b.log ≡ done_on d ((reads w c (r ∷ q)).transaction x).log
    frozen_at x d b l a h mine (inl same) = grind (arith, nat_tests, i.frozen x c b, o.quiet c, ap no_ran u, done_on_quiet c c r (w.transaction (w.connection c).xid).log)
    frozen_at x d b l a h mine (inr ne) = grind (arith, nat_tests, i.frozen x d b, done_on_other c d r (w.transaction (w.connection c).xid).log)

pub matched_less : (f : Topology) (w : World) (g : ℕ → Connection) → ((c : ℕ) → IsLess (g c) (w.connection c)) → IsMatched f w → IsMatched f (with_connections w g)
matched_less f w g l i = record {
  told = λ c b all live h mine.
      let k = i.told c b ((l c).missed all) (ap (λ x. is_live (w.transaction x).phase) (sym (l c).xid) ∙ live) (ap (λ x. find x (w.server (f.home c)).branches) (sym (l c).xid) ∙ h) mine in
      k ∙ ap₂ (λ rs x. onto rs (done_on c (w.transaction x).log)) (sym (⊎_elim (λ (e : (g c).unread ≡ (w.connection c).unread). e) (λ e. cc (e.1, all)) (l c).unread)) (sym (l c).xid);
  frozen = i.frozen;
  ready = i.ready;
}

pub matched_ends : (f : Topology) (w : World) → IsMatched f (ends_all w)
matched_ends f w = record {
  told = λ c b st live h mine. absurd (none_undecided_then (w.transaction (w.connection c).xid).phase (grind arith));
  frozen = λ x c b live a h mine. absurd (none_undecided_then _ live);
  ready = λ x s live r. absurd (none_undecided_then _ live);
}

pub matched_sends : (f : Topology) (w : World) (c : ℕ) (r : Request) → may_ask f w c r ≡ true → IsOrderly f w → IsMatched f w → IsMatched f (asks f w c r)
matched_sends f w c (Start y) m o i = matched_queue f w c _ i
matched_sends f w c (Scan fp) m o i = matched_queue f w c _ i
matched_sends f w c (Change fp rows) m o i = matched_queue f w c _ i
matched_sends f w c (End y) m o i = matched_queue f w c _ i
matched_sends f w c Recover m o i = matched_queue f w c _ i
matched_sends f w c (Prepare y) m o i = matched_queue f (notes_asked f w c y) c _ (matched_asked f w c y (grind arith) (grind (arith, nat_tests)) (grind arith) (is_none_from _ (grind arith)) o i)
matched_sends f w c (Commit y) m o i = matched_queue f w c _ i
matched_sends f w c (Rollback y) m o i = matched_queue f w c _ i

pub matched_recording : (f : Topology) (w : World) (p : Option Decision) → IsMatched f w → IsMatched f (recorded w p)
matched_recording f w None i = i
matched_recording f w (Some d) i = matched_recorded f w d i

pub matched_happens : (f : Topology) (w : World) (m : Move) → IsOrderly f w → IsMatched f w → IsMatched f (happens f w m)
matched_happens f w (Draws x) o i = guarded (IsMatched f) (is_fresh (w.transaction x).phase) (with_phase w x Live) w i (λ h. matched_phase f w x Live o (λ l. h) (λ l. inl h) i)
matched_happens f w (Dials c) o i = unless (IsMatched f) (w.connection c).dialled _ w i (λ h. matched_less f w _ (less_at w c _ (less_dialled (w.connection c))) i)
matched_happens f w (Uses c x) o i = guarded (IsMatched f) _ (uses_connection w c x) w i (λ h. matched_uses f w c x (grind arith) (grind arith) o i)
matched_happens f w (Sends c r) o i = guarded (IsMatched f) (may_ask f w c r) (asks f w c r) w i (λ h. matched_sends f w c r h o i)
matched_happens f w (Delivers c) o i = go (w.connection c).queue refl
  where
    go : (q : List Request) → (w.connection c).queue ≡ q → IsMatched f (delivers f w c q)
    go [] e = i
    go (r ∷ q) e =
        let a = subst (λ p. AreAllowed f w c p) e (o.sent c) in
        matched_serves f w c r q _ _ As_done (known.did (w.server (f.home c)) c r (o.locked (f.home c)).distinct) a.0 o i
matched_happens f w (Refuses c) o i = go (w.connection c).queue refl
  where
    go : (q : List Request) → (w.connection c).queue ≡ q → IsMatched f (refuses f w c q)
    go [] e = i
    go (r ∷ q) e =
        let a = subst (λ p. AreAllowed f w c p) e (o.sent c) in
        matched_serves f w c r q Keep Refused As_done Kept a.0 o i
matched_happens f w (Faults c found) o i = go (w.connection c).queue refl
  where
    go : (q : List Request) → (w.connection c).queue ≡ q → IsMatched f (faults f w c found q)
    go [] e = i
    go (r ∷ q) e =
        let a = subst (λ p. AreAllowed f w c p) e (o.sent c) in
        let d = did_left (w.server (f.home c)) c r _ found (known.did (w.server (f.home c)) c r (o.locked (f.home c)).distinct) in
        matched_fewer f _ (f.home c) _ (λ b p. ap is_prepared p) (orderly_serves f w c r q _ Refused (says_left found _) d a.0 a.1 o) (matched_serves f w c r q _ Refused (says_left found _) d a.0 o i)
matched_happens f w (Reads c) o i = go (w.connection c).unread refl
  where
    go : (q : List Reply) → (w.connection c).unread ≡ q → IsMatched f (reads w c q)
    go [] e = i
    go (r ∷ q) e = matched_reads f w c r q e o i
matched_happens f w (Breaks c) o i = matched_less f w _ (less_at w c _ (less_broken (w.connection c))) i
matched_happens f w (Hangup_seen c) o i = unless (IsMatched f) (w.connection c).stands (sees_hangup f w c) w i (λ h. matched_less f _ _ (less_at w c _ (less_ended (w.connection c))) (matched_fewer f w (f.home c) _ (λ b p. grind (arith, nat_tests, ap is_prepared p)) o i))
matched_happens f w (Writes x ms) o i = guarded (IsMatched f) (may_decide f w x ms) (writes w x ms) w i (λ h. matched_progress f (with_phase w x Writing) _ (matched_phase f w x Writing o (λ l. cc) (λ l. inr (grind arith)) i))
matched_happens f w Recorded o i = matched_recording f w w.pending i
matched_happens f w (Gives_up x) o i = guarded (IsMatched f) (is_live (w.transaction x).phase) (with_phase w x Over) w i (λ h. matched_phase f w x Over o (λ l. cc) (λ l. cc) i)
matched_happens f w (Stops s) o i = matched_less f _ (stops f w s).connection (stops_less f w s) (matched_fewer f w s _ (λ b p. ap is_prepared p) o i)
matched_happens f w Front_stops o i = matched_less f w _ (λ c. less_broken (w.connection c)) i
matched_happens f w (Reopens found) o i = matched_progress f (ends_all (cond found (recorded w w.pending) w)) None (matched_ends f (cond found (recorded w w.pending) w))

pub matched_start : (f : Topology) → IsMatched f start
matched_start f = record {
  told = λ c b st l h mine. cc;
  frozen = λ x c b l a h mine. cc;
  ready = λ x s l r. cc;
}
