-- It stays so as a server takes a request: done, refused, or with a fault of its disk.
use Rattle.std.proofs.Common.{◌≡◌, ◌≢◌, ℕ, Bool, true, false, cond, ◌&&◌, List, [], ◌∷◌, ◌++◌, Some, None, refl, sym, ap, ◌∙◌, subst, arith, ◌⊎◌, inl, inr, ⊎_elim}
use Rattle.std.proofs.lemmas.Bool.Decides.{nat_tests}
use Rattle.commit_protocol.specs.Backend.{Branch, Server, Request, Effect, find, owned, is_prepared, done}
use Rattle.commit_protocol.specs.Backend.Stage.{Active, Ended, Prepared}
use Rattle.commit_protocol.specs.Backend.Request.{Start, Scan, Change, End, Prepare, Commit, Rollback, Recover}
use Rattle.commit_protocol.specs.Backend.Effect.{Keep, Show, Begin, Grow, Close, Ready, Drop, Install}
use Rattle.commit_protocol.specs.Network.{Topology, Reply, set, after_serving, reply, begins}
use Rattle.commit_protocol.specs.Protocol.{World, is_fresh, serves, does, readying, delivers, refuses, is_durable, left_of, faults}
use Rattle.commit_protocol.specs.Network.Reply.{Refused}
use Rattle.protocol_law.proofs.Branches.{find_kept}
use Rattle.protocol_law.proofs.Effects as known
use Rattle.protocol_law.proofs.Effects.Did.{Kept, Showed, Begun, Grew, Closed, Readied, Dropped, Installed}
use Rattle.protocol_law.proofs.Locks.{IsLocked, put_cases, locked_done}
use Rattle.protocol_law.proofs.Traffic.{all_settling, is_ran, no_ran, IsAllowed, AreAllowed, IsOrderly, allowed_still, set_cases}
use Rattle.protocol_law.proofs.Frames.{orderly_fewer}
use Rattle.protocol_law.proofs.Sending.{is_last}

-- a branch that is found after a request was begun by it, or was there before, less far
pub origin : (s : Server) (c : ℕ) (r : Request) (e : Effect) → known.Did s c r e → IsLocked s → (y : ℕ) (b : Branch) → find y (done s e).branches ≡ Some b
    → ((begins e ≡ true) × (r ≡ Start y) × (b.owner ≡ c) × (owned c s.branches ≡ None) × (b.log ≡ []) × (is_prepared b.stage ≡ false)) ⊎ ((a : Branch) × (find y s.branches ≡ Some a) × (a.owner ≡ b.owner) × (is_prepared b.stage ≡ false → is_prepared a.stage ≡ false))
origin s c r e Kept i y b h = inr (b, h, refl, λ p. p)
origin s c r e Showed i y b h = inr (b, h, refl, λ p. p)
origin s c r e (Begun {x = x} f o) i y b h = grind (arith, nat_tests, put_cases (record { xid = x; stage = Active; owner = c; log = [] }) s.branches y b h)
origin s c r e (Grew {b = d} {op = op} f mine stage free right locks) i y b h = inr (two (put_cases (record d { log = op ∷ d.log }) s.branches y b h))
  where
    two : ((d.xid ≡ y) × (record d { log = op ∷ d.log } ≡ b)) ⊎ ((y ≢ d.xid) × (find y s.branches ≡ Some b)) → (a : Branch) × (find y s.branches ≡ Some a) × (a.owner ≡ b.owner) × (is_prepared b.stage ≡ false → is_prepared a.stage ≡ false)
    two (inl p) = (d, grind arith, ap (λ (z : Branch). z.owner) p.1, λ q. ap (λ (z : Branch). is_prepared z.stage) p.1 ∙ q)
    two (inr p) = (b, p.1, refl, λ q. q)
origin s c r e (Closed {b = d} f mine stage) i y b h = inr (two (put_cases (record d { stage = Ended }) s.branches y b h))
  where
    two : ((d.xid ≡ y) × (record d { stage = Ended } ≡ b)) ⊎ ((y ≢ d.xid) × (find y s.branches ≡ Some b)) → (a : Branch) × (find y s.branches ≡ Some a) × (a.owner ≡ b.owner) × (is_prepared b.stage ≡ false → is_prepared a.stage ≡ false)
    two (inl p) = (d, grind arith, ap (λ (z : Branch). z.owner) p.1, λ q. ap is_prepared stage)
    two (inr p) = (b, p.1, refl, λ q. q)
origin s c r e (Readied {b = d} f mine stage) i y b h = inr (two (put_cases (record d { stage = Prepared }) s.branches y b h))
  where
    two : ((d.xid ≡ y) × (record d { stage = Prepared } ≡ b)) ⊎ ((y ≢ d.xid) × (find y s.branches ≡ Some b)) → (a : Branch) × (find y s.branches ≡ Some a) × (a.owner ≡ b.owner) × (is_prepared b.stage ≡ false → is_prepared a.stage ≡ false)
    two (inl p) = (d, grind arith, ap (λ (z : Branch). z.owner) p.1, λ q. ap is_prepared stage)
    two (inr p) = (b, p.1, refl, λ q. q)
origin s c r e (Dropped {b = d} f w) i y b h = let k = find_kept _ y b s.branches i.distinct h in inr (b, k.0, refl, λ q. q)
origin s c r e (Installed {b = d} f stage) i y b h = let k = find_kept _ y b s.branches i.distinct h in inr (b, k.0, refl, λ q. q)

pub owns_none : (c y : ℕ) (b : Branch) (bs : List Branch) → owned c bs ≡ None → find y bs ≡ Some b → b.owner ≡ c → is_prepared b.stage ≡ true
owns_none c y b [] o h e = cc
owns_none c y b (d ∷ bs) o h e = grind (arith, nat_tests, owns_none c y b bs)

-- what a request does to the front's transactions: nothing, but for ready
pub served_uses : (f : Topology) (w : World) (c : ℕ) (e : Effect) (x d : ℕ) → (readying f w c e x).uses d ≡ (w.transaction x).uses d
served_uses f w c Keep x d = refl
served_uses f w c (Show xids) x d = refl
served_uses f w c (Begin y k) x d = refl
served_uses f w c (Grow b op) x d = refl
served_uses f w c (Close b) x d = refl
served_uses f w c (Ready b) x d = grind (arith, nat_tests)
served_uses f w c (Drop b) x d = refl
served_uses f w c (Install b) x d = refl

pub served_rest : (f : Topology) (w : World) (c : ℕ) (e : Effect) (x : ℕ) → ((readying f w c e x).phase ≡ (w.transaction x).phase) × ((readying f w c e x).log ≡ (w.transaction x).log) × ((readying f w c e x).asked ≡ (w.transaction x).asked)
served_rest f w c Keep x = (refl, refl, refl)
served_rest f w c (Show xids) x = (refl, refl, refl)
served_rest f w c (Begin y k) x = (refl, refl, refl)
served_rest f w c (Grow b op) x = (refl, refl, refl)
served_rest f w c (Close b) x = (refl, refl, refl)
served_rest f w c (Ready b) x = grind (arith, nat_tests)
served_rest f w c (Drop b) x = (refl, refl, refl)
served_rest f w c (Install b) x = (refl, refl, refl)

-- what is ready then: what was, and what the request was about
abbrev pub IsNews : Topology → ℕ → Request → Effect → ℕ → ℕ → Type 0
IsNews f c r Keep x s = ⊥
IsNews f c r (Show xids) x s = ⊥
IsNews f c r (Begin y k) x s = ⊥
IsNews f c r (Grow b op) x s = ⊥
IsNews f c r (Close b) x s = ⊥
IsNews f c r (Ready b) x s = (s ≡ f.home c) × (x ≡ b.xid)
IsNews f c r (Drop b) x s = ⊥
IsNews f c r (Install b) x s = ⊥

pub served_ready : (f : Topology) (w : World) (c : ℕ) (r : Request) (e : Effect) (x s : ℕ) → ((w.transaction x).ready s ≡ true → (readying f w c e x).ready s ≡ true) × ((readying f w c e x).ready s ≡ true → ((w.transaction x).ready s ≡ true) ⊎ IsNews f c r e x s)
served_ready f w c r Keep x s = ((λ h. h), λ h. inl h)
served_ready f w c r (Show xids) x s = ((λ h. h), λ h. inl h)
served_ready f w c r (Begin y k) x s = ((λ h. h), λ h. inl h)
served_ready f w c r (Grow b op) x s = ((λ h. h), λ h. inl h)
served_ready f w c r (Close b) x s = ((λ h. h), λ h. inl h)
served_ready f w c r (Ready b) x s = ((λ h. grind (arith, nat_tests)), λ h. grind (arith, nat_tests))
served_ready f w c r (Drop b) x s = ((λ h. h), λ h. inl h)
served_ready f w c r (Install b) x s = ((λ h. h), λ h. inl h)

begins_last : (s : Server) (c : ℕ) (r : Request) (e : Effect) → known.Did s c r e → is_last r ≡ false → begins e ≡ false
begins_last s c r e Kept h = refl
begins_last s c r e Showed h = refl
begins_last s c r e (Begun f o) h = cc
begins_last s c r e (Grew f mine stage free right locks) h = refl
begins_last s c r e (Closed f mine stage) h = refl
begins_last s c r e (Readied f mine stage) h = refl
begins_last s c r e (Dropped f w) h = refl
begins_last s c r e (Installed f stage) h = refl

pub news_prepare : (f : Topology) (s : Server) (c : ℕ) (r : Request) (e : Effect) (x t : ℕ) → known.Did s c r e → IsNews f c r e x t → (r ≡ Prepare x) × (t ≡ f.home c)
news_prepare f s c r e x t Kept n = absurd n
news_prepare f s c r e x t Showed n = absurd n
news_prepare f s c r e x t (Begun g o) n = absurd n
news_prepare f s c r e x t (Grew g mine stage free right locks) n = absurd n
news_prepare f s c r e x t (Closed g mine stage) n = absurd n
news_prepare f s c r e x t (Readied g mine stage) n = (ap Prepare (sym n.1), n.0)
news_prepare f s c r e x t (Dropped g w) n = absurd n
news_prepare f s c r e x t (Installed g stage) n = absurd n

-- where what is new was asked on this connection, what is under way on another is still allowed
serves_other : (f : Topology) (w : World) (c : ℕ) (r0 : Request) (q : List Request) (e : Effect) (told : Reply) (d : ℕ) → d ≢ c → ((x s : ℕ) → IsNews f c r0 e x s → (w.transaction x).asked s ≡ Some c)
    → (rest : List Request) (r : Request) → IsAllowed f w d rest r → IsAllowed f (serves f w c q e told) d rest r
serves_other f w c r0 q e told d ne news rest (Start y) a = grind (arith, nat_tests, served_uses f w c e y d)
serves_other f w c r0 q e told d ne news rest (Scan fp) a = grind (arith, nat_tests, served_rest f w c e (w.connection d).xid)
serves_other f w c r0 q e told d ne news rest (Change fp rows) a = grind (arith, nat_tests, served_rest f w c e (w.connection d).xid)
serves_other f w c r0 q e told d ne news rest (End y) a = tt
serves_other f w c r0 q e told d ne news rest Recover a = tt
serves_other f w c r0 q e told d ne news rest (Prepare y) a = grind (arith, nat_tests, served_rest f w c e y, served_ready f w c r0 e y (f.home d), news y (f.home d))
serves_other f w c r0 q e told d ne news rest (Commit y) a = a
serves_other f w c r0 q e told d ne news rest (Rollback y) a = grind (arith, nat_tests, served_rest f w c e y)

serves_same : (f : Topology) (w : World) (c : ℕ) (r0 : Request) (q : List Request) (e : Effect) (told : Reply) → begins e ≡ false → ((x s : ℕ) → IsNews f c r0 e x s → ⊥)
    → (rest : List Request) (r : Request) → IsAllowed f w c rest r → IsAllowed f (serves f w c q e told) c rest r
serves_same f w c r0 q e told b news rest (Start y) a = grind (arith, nat_tests, served_uses f w c e y c)
serves_same f w c r0 q e told b news rest (Scan fp) a = grind (arith, nat_tests, served_rest f w c e (w.connection c).xid)
serves_same f w c r0 q e told b news rest (Change fp rows) a = grind (arith, nat_tests, served_rest f w c e (w.connection c).xid)
serves_same f w c r0 q e told b news rest (End y) a = tt
serves_same f w c r0 q e told b news rest Recover a = tt
serves_same f w c r0 q e told b news rest (Prepare y) a = grind (arith, nat_tests, served_rest f w c e y, served_ready f w c r0 e y (f.home c), news y (f.home c))
serves_same f w c r0 q e told b news rest (Commit y) a = a
serves_same f w c r0 q e told b news rest (Rollback y) a = grind (arith, nat_tests, served_rest f w c e y)

serves_settling : (f : Topology) (w : World) (c : ℕ) (p : List Request) (e : Effect) (told : Reply) (q : List Request) → all_settling q ≡ true → AreAllowed f w c q → AreAllowed f (serves f w c p e told) c q
serves_settling f w c p e told [] h a = tt
serves_settling f w c p e told (Start y ∷ q) h a = cc
serves_settling f w c p e told (Scan fp ∷ q) h a = cc
serves_settling f w c p e told (Change fp rows ∷ q) h a = cc
serves_settling f w c p e told (End y ∷ q) h a = cc
serves_settling f w c p e told (Prepare y ∷ q) h a = cc
serves_settling f w c p e told (Recover ∷ q) h a = (tt, serves_settling f w c p e told q (grind arith) a.1)
serves_settling f w c p e told (Commit y ∷ q) h a = (a.0, serves_settling f w c p e told q (grind arith) a.1)
serves_settling f w c p e told (Rollback y ∷ q) h a = (grind (arith, nat_tests, served_rest f w c e y), serves_settling f w c p e told q (grind arith) a.1)

-- behind a Start or a Prepare there are restricted settling ones
behind_last : (f : Topology) (w : World) (c : ℕ) (q : List Request) (r : Request) → IsAllowed f w c q r → (is_last r ≡ false) ⊎ (all_settling q ≡ true)
behind_last f w c q (Start y) a = inr a.3
behind_last f w c q (Scan fp) a = inl refl
behind_last f w c q (Change fp rows) a = inl refl
behind_last f w c q (End y) a = inl refl
behind_last f w c q Recover a = inl refl
behind_last f w c q (Prepare y) a = inr a.3
behind_last f w c q (Commit y) a = inl refl
behind_last f w c q (Rollback y) a = inl refl

not_prepare : (r : Request) (x : ℕ) → is_last r ≡ false → r ≡ Prepare x → ⊥
not_prepare r x h e = let g : is_last (Prepare x) ≡ false = subst (λ z. is_last z ≡ false) e h in cc

rest_allowed : (f : Topology) (w : World) (c : ℕ) (r : Request) (q : List Request) (e : Effect) (told : Reply) → known.Did (w.server (f.home c)) c r e → IsAllowed f w c q r → AreAllowed f w c q → AreAllowed f (serves f w c q e told) c q
rest_allowed f w c r q e told d head a = ⊎_elim
    (λ (l : is_last r ≡ false). allowed_still f w (serves f w c q e told) c (λ rest s b. serves_same f w c r q e told (begins_last _ c r e d l) (λ x t n. not_prepare r x l (news_prepare f _ c r e x t d n).0) rest s b) q a)
    (λ h. serves_settling f w c q e told q h a)
    (behind_last f w c q r head)

no_ran_more : (rs : List Reply) (r : Reply) → no_ran rs ≡ true → is_ran r ≡ false → no_ran (rs ++ r ∷ []) ≡ true
no_ran_more [] r h g = grind arith
no_ran_more (a ∷ rs) r h g = grind (arith, no_ran_more rs r)

-- restricted a scan or a change that runs is answered with what ran
pub ran_from : (f : Topology) (w : World) (c : ℕ) (q : List Request) (r : Request) (e : Effect) → known.Did (w.server (f.home c)) c r e → IsAllowed f w c q r
    → (is_ran (reply e) ≡ false) ⊎ (((w.connection c).begun ≡ true) × ((w.transaction (w.connection c).xid).asked (f.home c) ≢ Some c))
ran_from f w c q r e Kept a = inl refl
ran_from f w c q r e Showed a = inl refl
ran_from f w c q r e (Begun g o) a = inl refl
ran_from f w c q (Start y) e (Grew g mine stage free right locks) a = absurd locks
ran_from f w c q (Scan fp) e (Grew g mine stage free right locks) a = inr a
ran_from f w c q (Change fp rows) e (Grew g mine stage free right locks) a = inr a
ran_from f w c q (End y) e (Grew g mine stage free right locks) a = absurd locks
ran_from f w c q Recover e (Grew g mine stage free right locks) a = absurd locks
ran_from f w c q (Prepare y) e (Grew g mine stage free right locks) a = absurd locks
ran_from f w c q (Commit y) e (Grew g mine stage free right locks) a = absurd locks
ran_from f w c q (Rollback y) e (Grew g mine stage free right locks) a = absurd locks
ran_from f w c q r e (Closed g mine stage) a = inl refl
ran_from f w c q r e (Readied g mine stage) a = inl refl
ran_from f w c q r e (Dropped g t) a = inl refl
ran_from f w c q r e (Installed g stage) a = inl refl

begins_owned : (s : Server) (c : ℕ) (r : Request) (e : Effect) → known.Did s c r e → begins e ≡ true → owned c s.branches ≡ None
begins_owned s c r e Kept h = cc
begins_owned s c r e Showed h = cc
begins_owned s c r e (Begun f o) h = o
begins_owned s c r e (Grew f mine stage free right locks) h = cc
begins_owned s c r e (Closed f mine stage) h = cc
begins_owned s c r e (Readied f mine stage) h = cc
begins_owned s c r e (Dropped f w) h = cc
begins_owned s c r e (Installed f stage) h = cc

pub begins_start : (s : Server) (c : ℕ) (r : Request) (e : Effect) → known.Did s c r e → begins e ≡ true → (x : ℕ) × (r ≡ Start x)
begins_start s c r e Kept h = cc
begins_start s c r e Showed h = cc
begins_start s c r e (Begun {x = x} f o) h = (x, refl)
begins_start s c r e (Grew f mine stage free right locks) h = cc
begins_start s c r e (Closed f mine stage) h = cc
begins_start s c r e (Readied f mine stage) h = cc
begins_start s c r e (Dropped f w) h = cc
begins_start s c r e (Installed f stage) h = cc

pub news_found : (f : Topology) (s : Server) (c : ℕ) (r : Request) (e : Effect) (x t : ℕ) → known.Did s c r e → IsNews f c r e x t → (b : Branch) × (find x s.branches ≡ Some b)
news_found f s c r e x t Kept n = absurd n
news_found f s c r e x t Showed n = absurd n
news_found f s c r e x t (Begun g o) n = absurd n
news_found f s c r e x t (Grew g mine stage free right locks) n = absurd n
news_found f s c r e x t (Closed g mine stage) n = absurd n
news_found f s c r e x t (Readied {b = b} g mine stage) n = (b, ap (λ y. find y s.branches) n.1 ∙ g)
news_found f s c r e x t (Dropped g w) n = absurd n
news_found f s c r e x t (Installed g stage) n = absurd n

pub start_here : (f : Topology) (w : World) (c y : ℕ) (r : Request) (q : List Request) → IsAllowed f w c q r → r ≡ Start y → (y ≡ (w.connection c).xid) × ((w.transaction y).uses c ≡ true)
start_here f w c y r q a e = let h = subst (λ z. IsAllowed f w c q z) e a in (h.0, h.2)

own_served : (f : Topology) (w : World) (c : ℕ) (r : Request) (q : List Request) (e : Effect) → known.Did (w.server (f.home c)) c r e → IsAllowed f w c q r → IsOrderly f w
    → (g y : ℕ) (b : Branch) → ((w.connection g).begun ≡ true) ⊎ ((g ≡ c) × (begins e ≡ true)) → find y (done (w.server (f.home c)) e).branches ≡ Some b → b.owner ≡ g → is_prepared b.stage ≡ false → f.home g ≡ f.home c → y ≡ (w.connection g).xid
own_served f w c r q e d head i g y b begun h mine p same = two (origin _ c r e d (i.locked (f.home c)) y b h) begun
  where
    two : ((begins e ≡ true) × (r ≡ Start y) × (b.owner ≡ c) × (owned c (w.server (f.home c)).branches ≡ None) × (b.log ≡ []) × (is_prepared b.stage ≡ false)) ⊎ ((a : Branch) × (find y (w.server (f.home c)).branches ≡ Some a) × (a.owner ≡ b.owner) × (is_prepared b.stage ≡ false → is_prepared a.stage ≡ false))
        → ((w.connection g).begun ≡ true) ⊎ ((g ≡ c) × (begins e ≡ true)) → y ≡ (w.connection g).xid
    two (inl n) begun = (start_here f w c y r q head n.1).0 ∙ ap (λ k. (w.connection k).xid) (sym n.2 ∙ mine)
    two (inr o) (inl t) = i.own g y o.0 t (subst (λ s. find y (w.server s).branches ≡ Some o.0) (sym same) o.1) (o.2 ∙ mine) (o.3 p)
    two (inr o) (inr t) = let bad : is_prepared o.0.stage ≡ true = owns_none c y o.0 _ (begins_owned _ c r e d t.1) o.1 (o.2 ∙ mine ∙ t.0) in cc (bad, o.3 p)

used_served : (f : Topology) (w : World) (c : ℕ) (r : Request) (q : List Request) (e : Effect) → known.Did (w.server (f.home c)) c r e → IsAllowed f w c q r → IsOrderly f w
    → (y : ℕ) (b : Branch) → find y (done (w.server (f.home c)) e).branches ≡ Some b → (w.transaction y).uses b.owner ≡ true
used_served f w c r q e d head i y b h = two (origin _ c r e d (i.locked (f.home c)) y b h)
  where
    two : ((begins e ≡ true) × (r ≡ Start y) × (b.owner ≡ c) × (owned c (w.server (f.home c)).branches ≡ None) × (b.log ≡ []) × (is_prepared b.stage ≡ false)) ⊎ ((a : Branch) × (find y (w.server (f.home c)).branches ≡ Some a) × (a.owner ≡ b.owner) × (is_prepared b.stage ≡ false → is_prepared a.stage ≡ false)) → (w.transaction y).uses b.owner ≡ true
    two (inl n) = ap (w.transaction y).uses n.2 ∙ (start_here f w c y r q head n.1).1
    two (inr o) = ap (w.transaction y).uses (sym o.2) ∙ i.used (f.home c) y o.0 o.1

-- what is answered: what the effect says, or a refusal where nothing was run
pub data Says (e : Effect) : Reply → Type 0 where
  As_done : Says e (reply e)
  Refuses_it : is_ran (reply e) ≡ false → Says e Refused

says_ran : (e : Effect) (told : Reply) → Says e told → is_ran (reply e) ≡ false → is_ran told ≡ false
says_ran e told As_done h = h
says_ran e told (Refuses_it n) h = refl

pub orderly_serves : (f : Topology) (w : World) (c : ℕ) (r : Request) (q : List Request) (e : Effect) (told : Reply) → Says e told → known.Did (w.server (f.home c)) c r e → IsAllowed f w c q r → AreAllowed f w c q → IsOrderly f w → IsOrderly f (serves f w c q e told)
orderly_serves f w c r q e told says d head rest i =
    let ran : (is_ran told ≡ false) ⊎ (((w.connection c).begun ≡ true) × ((w.transaction (w.connection c).xid).asked (f.home c) ≢ Some c)) = ⊎_elim
    (λ (n : is_ran (reply e) ≡ false). inl (says_ran e told says n))
    (λ n. inr n)
    (ran_from f w c q r e d head) in
    let asked_here : (x s : ℕ) → IsNews f c r e x s → (w.transaction x).asked s ≡ Some c = λ x s n. asked_news x s (news_prepare f _ c r e x s d n) in
    record {
      locked = λ s. set_cases (λ t v. IsLocked v) w.server (f.home c) _ s (locked_done _ c r e d (i.locked (f.home c))) (λ ne. i.locked s);
      sent = λ g. set_cases (λ h ch. AreAllowed f (serves f w c q e told) h ch.queue) w.connection c _ g
          (rest_allowed f w c r q e told d head rest)
          (λ ne. allowed_still f w (serves f w c q e told) g (serves_other f w c r q e told g ne asked_here) (w.connection g).queue (i.sent g));
      own = λ g y b t h mine p. set_cases (λ s (v : Server). s ≡ f.home g → find y v.branches ≡ Some b → y ≡ (w.connection g).xid) w.server (f.home c) _ (f.home g)
          (λ same k. own_served f w c r q e d head i g y b (grind (arith, nat_tests)) k mine p (sym same))
          (λ ne same k. i.own g y b (grind (arith, nat_tests)) k mine p)
          refl h ∙ sym (same_xid g);
      used = λ s x b h. served_uses f w c e x b.owner ∙ set_cases (λ s (v : Server). find x v.branches ≡ Some b → (w.transaction x).uses b.owner ≡ true) w.server (f.home c) _ s
          (λ k. used_served f w c r q e d head i x b k)
          (λ ne k. i.used s x b k)
          h;
      using = λ g h. served_uses f w c e ((serves f w c q e told).connection g).xid g ∙ grind (arith, nat_tests, i.using g, using_new);
      blank = λ x h.
          let fresh : is_fresh (w.transaction x).phase ≡ true = grind (arith, served_rest f w c e x) in
          ((λ g. served_uses f w c e x g ∙ (i.blank x fresh).0 g), λ s. not_new x s fresh ((i.blank x fresh).1 s) (served_ready f w c r e x s).1);
      unused = λ x g h. grind (arith, nat_tests, served_uses f w c e x g, served_rest f w c e x, i.unused x g);
      first = λ g h. grind (arith, nat_tests, served_rest f w c e (w.connection g).xid, i.first g, no_ran_more (w.connection c).unread told, ran);
      quiet = λ g h. grind (arith, nat_tests, served_rest f w c e (w.connection g).xid, i.quiet g, no_ran_more (w.connection c).unread told, ran);
      at_home = λ x s g h. grind (arith, nat_tests, served_rest f w c e x, i.at_home x s g);
      unready = λ x s h. grind (arith, nat_tests, served_rest f w c e x, served_ready f w c r e x s, asked_here x s, i.unready x s);
      decided = λ x s h. grind (arith, nat_tests, served_rest f w c e x, served_ready f w c r e x s, i.decided x s h);
    }
  where
    asked_news : (x s : ℕ) → (r ≡ Prepare x) × (s ≡ f.home c) → (w.transaction x).asked s ≡ Some c
    asked_news x s n = subst (λ t. (w.transaction x).asked t ≡ Some c) (sym n.1) (subst (λ z. IsAllowed f w c q z) n.0 head).1

    not_new : (x s : ℕ) → is_fresh (w.transaction x).phase ≡ true → (w.transaction x).ready s ≡ false → ((readying f w c e x).ready s ≡ true → ((w.transaction x).ready s ≡ true) ⊎ IsNews f c r e x s) → (readying f w c e x).ready s ≡ false
    not_new x s fresh old news = elim ((readying f w c e x).ready s) as (λ v. (v ≡ true → ((w.transaction x).ready s ≡ true) ⊎ IsNews f c r e x s) → v ≡ false) [
      | true ↦ λ k. ⊎_elim (λ (g : (w.transaction x).ready s ≡ true). cc (g, old)) (λ n. let b = news_found f _ c r e x s d n in cc (i.used (f.home c) x b.0 b.1, (i.blank x fresh).0 b.0.owner)) (k refl)
      | false ↦ λ k. refl
    ] news

    using_new : begins e ≡ true → (w.transaction (w.connection c).xid).uses c ≡ true
    using_new h = let t = begins_start _ c r e d h in let k = start_here f w c t.0 r q head t.1 in ap (λ y. (w.transaction y).uses c) (sym k.0) ∙ k.1

    same_xid : (g : ℕ) → (set w.connection c (after_serving (w.connection c) q e told) g).xid ≡ (w.connection g).xid
    same_xid g = grind (arith, nat_tests)

pub orderly_does : (f : Topology) (w : World) (c : ℕ) (r : Request) (q : List Request) (e : Effect) → (w.connection c).queue ≡ r ∷ q → known.Did (w.server (f.home c)) c r e → IsOrderly f w → IsOrderly f (does f w c q e)
orderly_does f w c r q e h d i =
    let a = subst (λ p. AreAllowed f w c p) h (i.sent c) in
    orderly_serves f w c r q e (reply e) As_done d a.0 a.1 i

pub orderly_delivers : (f : Topology) (w : World) (c : ℕ) (q : List Request) → (w.connection c).queue ≡ q → IsOrderly f w → IsOrderly f (delivers f w c q)
orderly_delivers f w c [] e i = i
orderly_delivers f w c (r ∷ q) e i = orderly_does f w c r q _ e (known.did (w.server (f.home c)) c r (i.locked (f.home c)).distinct) i

pub orderly_refuses : (f : Topology) (w : World) (c : ℕ) (q : List Request) → (w.connection c).queue ≡ q → IsOrderly f w → IsOrderly f (refuses f w c q)
orderly_refuses f w c [] e i = i
orderly_refuses f w c (r ∷ q) e i = orderly_does f w c r q Keep e Kept i

-- what a disk fault leaves of a step is the step or nothing
pub did_left : (s : Server) (c : ℕ) (r : Request) (e : Effect) (found : Bool) → known.Did s c r e → known.Did s c r (left_of found e)
did_left s c r e found d = elim (found && is_durable e) as (λ v. known.Did s c r (cond v e Keep)) [ true ↦ d | false ↦ Kept ]

durable_quiet : (e : Effect) → is_durable e ≡ true → is_ran (reply e) ≡ false
durable_quiet Keep h = refl
durable_quiet (Show xids) h = refl
durable_quiet (Begin x c) h = refl
durable_quiet (Grow b op) h = cc
durable_quiet (Close b) h = refl
durable_quiet (Ready b) h = refl
durable_quiet (Drop b) h = refl
durable_quiet (Install b) h = refl

left_quiet : (e : Effect) (v : Bool) → (v ≡ true → is_durable e ≡ true) → is_ran (reply (cond v e Keep)) ≡ false
left_quiet e true h = durable_quiet e (h refl)
left_quiet e false h = refl

pub says_left : (found : Bool) (e : Effect) → Says (left_of found e) Refused
says_left found e = Refuses_it (left_quiet e (found && is_durable e) (λ h. grind arith))

pub orderly_faults : (f : Topology) (w : World) (c : ℕ) (found : Bool) (q : List Request) → (w.connection c).queue ≡ q → IsOrderly f w → IsOrderly f (faults f w c found q)
orderly_faults f w c found [] e i = i
orderly_faults f w c found (r ∷ q) e i =
    let a = subst (λ p. AreAllowed f w c p) e (i.sent c) in
    let d = did_left (w.server (f.home c)) c r _ found (known.did (w.server (f.home c)) c r (i.locked (f.home c)).distinct) in
    orderly_fewer f _ (f.home c) _ (orderly_serves f w c r q _ Refused (says_left found _) d a.0 a.1 i)
