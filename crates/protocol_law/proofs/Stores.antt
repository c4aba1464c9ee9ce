-- A request, the end of a connection and a stop leave the store that keeps a server the one that keeps what they leave, and it tells
-- what the server answers.
use Rattle.std.proofs.Common.{◌≡◌, ◌≢◌, ℕ, Bool, true, false, cond, not, ◌&&◌, ◌||◌, eqb, List, [], ◌∷◌, ◌++◌, map, Option, Some, None, is_some, refl, sym, ap, ap₂, ◌∙◌, subst, arith}
use Rattle.std.proofs.lemmas.Bool.Decides.{nat_tests}
use Rattle.commit_protocol.specs.Rows.{Table, Footprint, Operation, footprint_of, exclusively, conflicts, covers, restricted, after, blocks}
use Rattle.commit_protocol.specs.Rows.Operation.{Scanned, Changed}
use Rattle.commit_protocol.specs.Backend.{Branch, Server, Request, Effect, is_active, is_ended, is_prepared, find, is_owned, owned, kept, without, put, blocked, grown, scan_by, closed, readied, installed, dropped, effect, prepared_xids, done, hung_up, stopped}
use Rattle.commit_protocol.specs.Backend.Stage.{Active, Ended, Prepared}
use Rattle.commit_protocol.specs.Backend.Request.{Start, Scan, Change, End, Prepare, Commit, Rollback, Recover}
use Rattle.commit_protocol.specs.Backend.Effect.{Keep, Begin, Grow, Close, Ready, Drop, Install}
use Rattle.commit_protocol.specs.Network.{Reply, reply}
use Rattle.commit_protocol.specs.Network.Reply.{Refused, Ran, Did, Listed}
use Rattle.commit_protocol.specs.Store.{Alteration, Held, Store, rows_after, find_held, owns_held, owned_held, change_found, change_owned, held_but, held_unless, one_conflicts, blocked_held, may_grow, scanned, altered, may_end, may_prepare, may_commit, may_roll_back, installed_in, stored, rows_of, xids_prepared, tells, store_hung_up, store_stopped, changes_of, footprints_of, held_of, store_of}
use Rattle.protocol_law.proofs.Branches.{AreDistinct, find_xid, owned_found}

-- ---- look-ups

abbrev pub shown : Option Branch → Option Held
shown None = None
shown (Some b) = Some (held_of b)

shown_cond : (v : Bool) (b : Branch) (o : Option Branch) (h : Option Held) → h ≡ shown o → cond v (Some (held_of b)) h ≡ shown (cond v (Some b) o)
shown_cond true b o h e = refl
shown_cond false b o h e = e

pub found_there : (x : ℕ) (bs : List Branch) → find_held x (map held_of bs) ≡ shown (find x bs)
found_there x [] = refl
found_there x (b ∷ bs) = shown_cond (eqb b.xid x) b (find x bs) _ (found_there x bs)

pub owned_there : (c : ℕ) (bs : List Branch) → owned_held c (map held_of bs) ≡ shown (owned c bs)
owned_there c [] = refl
owned_there c (b ∷ bs) = shown_cond (is_owned c b) b (owned c bs) _ (owned_there c bs)

some_shown : (o : Option Branch) → is_some (shown o) ≡ is_some o
some_shown None = refl
some_shown (Some b) = refl

-- ---- locks and rows

conflicts_more : (f : Footprint) (gs : List Footprint) (g : Footprint) → one_conflicts f (gs ++ g ∷ []) ≡ (one_conflicts f gs || conflicts f g)
conflicts_more f [] g = grind arith
conflicts_more f (h ∷ gs) g = grind (arith, conflicts_more f gs g)

conflicts_there : (f : Footprint) (log : List Operation) → one_conflicts f (footprints_of log) ≡ blocks f log
conflicts_there f [] = refl
conflicts_there f (op ∷ log) = conflicts_more f (footprints_of log) (footprint_of op) ∙ grind (arith, conflicts_there f log)

pub blocked_there : (x : ℕ) (f : Footprint) (bs : List Branch) → blocked_held x f (map held_of bs) ≡ blocked x f bs
blocked_there x f [] = refl
blocked_there x f (b ∷ bs) = ap₂ (λ v w. (not (eqb b.xid x) && v) || w) (conflicts_there f b.log) (blocked_there x f bs)

alter : Alteration → Table → Table
alter a t = λ k. cond (covers a.footprint k) (a.rows k) (t k)

rows_more : (t : Table) (cs : List Alteration) (a : Alteration) → rows_after t (cs ++ a ∷ []) ≡ (λ k. cond (covers a.footprint k) (a.rows k) (rows_after t cs k))
rows_more t [] a = refl
rows_more t (c ∷ cs) a = rows_more (λ k. cond (covers c.footprint k) (c.rows k) (t k)) cs a

pub rows_there : (t : Table) (log : List Operation) → rows_after t (changes_of log) ≡ after t log
rows_there t [] = refl
rows_there t (Scanned f rows ∷ log) = rows_there t log
rows_there t (Changed f rows ∷ log) = rows_more t (changes_of log) (record { footprint = f; rows = rows }) ∙ ap (λ (u : Table). λ k. cond (covers f k) (rows k) (u k)) (rows_there t log)

-- ---- lists of branches

cons_cond : (v : Bool) (b : Branch) (bs : List Branch) (h : List Held) → h ≡ map held_of bs → cond v (held_of b ∷ h) h ≡ map held_of (cond v (b ∷ bs) bs)
cons_cond true b bs h e = ap (λ z. held_of b ∷ z) e
cons_cond false b bs h e = e

but_there : (x : ℕ) (bs : List Branch) → held_but x (map held_of bs) ≡ map held_of (without x bs)
but_there x [] = refl
but_there x (b ∷ bs) = cons_cond (not (eqb b.xid x)) b (without x bs) _ (but_there x bs)

unless_there : (q : Held → Bool) (k : Branch → Bool) (bs : List Branch) → ((b : Branch) → not (q (held_of b)) ≡ k b) → held_unless q (map held_of bs) ≡ map held_of (kept k bs)
unless_there q k [] same = refl
unless_there q k (b ∷ bs) same = ap (λ v. cond v (held_of b ∷ held_unless q (map held_of bs)) (held_unless q (map held_of bs))) (same b) ∙ cons_cond (k b) b (kept k bs) _ (unless_there q k bs same)

-- a branch that is found is replaced in its place
change_there : (x : ℕ) (g : Held → Held) (b d : Branch) (bs : List Branch) → find x bs ≡ Some b → d.xid ≡ x → g (held_of b) ≡ held_of d → change_found x g (map held_of bs) ≡ map held_of (put d bs)
change_there x g b d [] f n e = cc
change_there x g b d (a ∷ bs) f n e = go (eqb a.xid x) refl (λ r. change_there x g b d bs r n e)
  where
    go : (v : Bool) → eqb a.xid x ≡ v → (find x bs ≡ Some b → change_found x g (map held_of bs) ≡ map held_of (put d bs)) → cond (eqb a.xid x) (g (held_of a) ∷ map held_of bs) (held_of a ∷ change_found x g (map held_of bs)) ≡ map held_of (cond (eqb a.xid d.xid) (d ∷ bs) (a ∷ put d bs))
    go true t ih =
        let one : ◌≡◌ {A = Option Branch} (Some a) (Some b) = sym (ap (λ w. cond w (Some a) (find x bs)) t) ∙ f in
        let same : a ≡ b = cc in
        let other : eqb a.xid d.xid ≡ true = ap (eqb a.xid) n ∙ t in
        ap (λ w. cond w (g (held_of a) ∷ map held_of bs) (held_of a ∷ change_found x g (map held_of bs))) t
        ∙ ap (λ z. z ∷ map held_of bs) (ap (λ (z : Branch). g (held_of z)) same ∙ e)
        ∙ sym (ap (λ w. map held_of (cond w (d ∷ bs) (a ∷ put d bs))) other)
    go false t ih =
        let rest : find x bs ≡ Some b = sym (ap (λ w. cond w (Some a) (find x bs)) t) ∙ f in
        let other : eqb a.xid d.xid ≡ false = ap (eqb a.xid) n ∙ t in
        ap (λ w. cond w (g (held_of a) ∷ map held_of bs) (held_of a ∷ change_found x g (map held_of bs))) t
        ∙ ap (λ z. held_of a ∷ z) (ih rest)
        ∙ sym (ap (λ w. map held_of (cond w (d ∷ bs) (a ∷ put d bs))) other)

-- what a connection owns is the branch of its number, where no number stands twice
owned_is_found : (c : ℕ) (g : Held → Held) (b : Branch) (bs : List Branch) → AreDistinct bs → owned c bs ≡ Some b → change_owned c g (map held_of bs) ≡ change_found b.xid g (map held_of bs)
owned_is_found c g b [] u f = refl
owned_is_found c g b (a ∷ bs) u f = go (is_owned c a) refl (λ r. owned_is_found c g b bs u.1 r)
  where
    go : (v : Bool) → is_owned c a ≡ v → (owned c bs ≡ Some b → change_owned c g (map held_of bs) ≡ change_found b.xid g (map held_of bs)) → cond (is_owned c a) (g (held_of a) ∷ map held_of bs) (held_of a ∷ change_owned c g (map held_of bs)) ≡ cond (eqb a.xid b.xid) (g (held_of a) ∷ map held_of bs) (held_of a ∷ change_found b.xid g (map held_of bs))
    go true t ih =
        let one : ◌≡◌ {A = Option Branch} (Some a) (Some b) = sym (ap (λ w. cond w (Some a) (owned c bs)) t) ∙ f in
        let same : a ≡ b = cc in
        let here : eqb a.xid b.xid ≡ true = ap (λ (z : Branch). eqb a.xid z.xid) (sym same) ∙ grind (arith, nat_tests) in
        ap (λ w. cond w (g (held_of a) ∷ map held_of bs) (held_of a ∷ change_owned c g (map held_of bs))) t ∙ sym (ap (λ w. cond w (g (held_of a) ∷ map held_of bs) (held_of a ∷ change_found b.xid g (map held_of bs))) here)
    go false t ih =
        let rest : owned c bs ≡ Some b = sym (ap (λ w. cond w (Some a) (owned c bs)) t) ∙ f in
        let found : find b.xid bs ≡ Some b = (owned_found c b bs u.1 rest).0 in
        let ne : a.xid ≢ b.xid = λ q. let none : find b.xid bs ≡ None = ap (λ z. find z bs) (sym q) ∙ u.0 in cc (none, found) in
        let away : eqb a.xid b.xid ≡ false = grind (arith, nat_tests, ne) in
        ap (λ w. cond w (g (held_of a) ∷ map held_of bs) (held_of a ∷ change_owned c g (map held_of bs))) t
        ∙ ap (λ z. held_of a ∷ z) (ih rest)
        ∙ sym (ap (λ w. cond w (g (held_of a) ∷ map held_of bs) (held_of a ∷ change_found b.xid g (map held_of bs))) away)

-- a new branch goes to the end
end_there : (x : ℕ) (d : Branch) (bs : List Branch) → find x bs ≡ None → d.xid ≡ x → map held_of bs ++ held_of d ∷ [] ≡ map held_of (put d bs)
end_there x d [] f n = refl
end_there x d (a ∷ bs) f n = go (eqb a.xid x) refl (λ r. end_there x d bs r n)
  where
    go : (v : Bool) → eqb a.xid x ≡ v → (find x bs ≡ None → map held_of bs ++ held_of d ∷ [] ≡ map held_of (put d bs)) → held_of a ∷ (map held_of bs ++ held_of d ∷ []) ≡ map held_of (cond (eqb a.xid d.xid) (d ∷ bs) (a ∷ put d bs))
    go true t ih = let bad : ◌≡◌ {A = Option Branch} (Some a) None = sym (ap (λ w. cond w (Some a) (find x bs)) t) ∙ f in cc
    go false t ih =
        let rest : find x bs ≡ None = sym (ap (λ w. cond w (Some a) (find x bs)) t) ∙ f in
        let other : eqb a.xid d.xid ≡ false = ap (eqb a.xid) n ∙ t in
        ap (λ z. held_of a ∷ z) (ih rest) ∙ sym (ap (λ w. map held_of (cond w (d ∷ bs) (a ∷ put d bs))) other)

prepared_there : (bs : List Branch) → xids_prepared (map held_of bs) ≡ prepared_xids bs
prepared_there [] = refl
prepared_there (b ∷ bs) = ap (λ z. cond (is_prepared b.stage) (b.xid ∷ z) z) (prepared_there bs)

-- ---- one request: what is left, and what is told

-- the store and the answer are those of the server
abbrev pub Keeps : Server → Effect → Store → Reply → Type 0
Keeps v e s told = (s ≡ store_of (done v e)) × (told ≡ reply e)

-- both tests choose alike
chosen : (v : Server) (b : Bool) (e d : Effect) (s u : Store) (r q : Reply) → (b ≡ true → Keeps v e s r) → (b ≡ false → Keeps v d u q) → Keeps v (cond b e d) (cond b s u) (cond b r q)
chosen v true e d s u r q h k = h refl
chosen v false e d s u r q h k = k refl

kept_so : (v : Server) → Keeps v Keep (store_of v) Refused
kept_so v = (refl, refl)

abbrev pub with_held : Server → List Held → Store
with_held v h = record { rows = v.rows; held = h }

-- a branch in place of the one that is found
put_so : (v : Server) (x : ℕ) (g : Held → Held) (b d : Branch) → find x v.branches ≡ Some b → d.xid ≡ x → g (held_of b) ≡ held_of d → with_held v (change_found x g (map held_of v.branches)) ≡ with_held v (map held_of (put d v.branches))
put_so v x g b d f n e = ap (with_held v) (change_there x g b d v.branches f n e)

-- the owner's branch does one operation more
grown_so : (v : Server) (c : ℕ) (f : Footprint) (g : Held → Held) (op : Operation) (told : Reply) (b : Branch) → AreDistinct v.branches → owned c v.branches ≡ Some b → footprint_of op ≡ f → g (held_of b) ≡ held_of (record b { log = op ∷ b.log }) → told ≡ Ran op
    → Keeps v (grown v op (Some b)) (cond (may_grow (store_of v) f (Some (held_of b))) (with_held v (change_owned c g (map held_of v.branches))) (store_of v)) (cond (may_grow (store_of v) f (Some (held_of b))) told Refused)
grown_so v c f g op told b u o q e t = subst (λ w. Keeps v (grown v op (Some b)) (cond w (with_held v (change_owned c g (map held_of v.branches))) (store_of v)) (cond w told Refused)) (sym test)
    (chosen v (is_active b.stage && not (blocked b.xid (footprint_of op) v.branches)) (Grow b op) Keep _ (store_of v) told Refused (λ h. (grows, t)) (λ h. kept_so v))
  where
    test : (is_active b.stage && not (blocked_held b.xid f (map held_of v.branches))) ≡ (is_active b.stage && not (blocked b.xid (footprint_of op) v.branches))
    test = ap (λ w. is_active b.stage && not w) (blocked_there b.xid f v.branches ∙ ap (λ z. blocked b.xid z v.branches) (sym q))

    grows : with_held v (change_owned c g (map held_of v.branches)) ≡ with_held v (map held_of (put (record b { log = op ∷ b.log }) v.branches))
    grows = ap (with_held v) (owned_is_found c g b v.branches u o ∙ change_there b.xid g b (record b { log = op ∷ b.log }) v.branches (owned_found c b v.branches u o).0 refl e)

scan_so : (v : Server) (c : ℕ) (f : Footprint) (o : Option Branch) → AreDistinct v.branches → owned c v.branches ≡ o
    → Keeps v (grown v (scan_by v f o) o) (cond (may_grow (store_of v) f (shown o)) (with_held v (change_owned c (scanned f) (map held_of v.branches))) (store_of v)) (cond (may_grow (store_of v) f (shown o)) (Ran (Scanned f (rows_of (store_of v) f (shown o)))) Refused)
scan_so v c f None u h = kept_so v
scan_so v c f (Some b) u h = grown_so v c f (scanned f) (Scanned f (restricted f (after v.rows b.log))) _ b u h refl refl (ap (λ (t : Table). Ran (Scanned f (restricted f t))) (rows_there v.rows b.log))

change_so : (v : Server) (c : ℕ) (f : Footprint) (rows : Table) (o : Option Branch) → AreDistinct v.branches → owned c v.branches ≡ o
    → Keeps v (grown v (Changed f rows) o) (cond (may_grow (store_of v) (exclusively f) (shown o)) (with_held v (change_owned c (altered f rows) (map held_of v.branches))) (store_of v)) (cond (may_grow (store_of v) (exclusively f) (shown o)) (Ran (Changed f rows)) Refused)
change_so v c f rows None u h = kept_so v
change_so v c f rows (Some b) u h = grown_so v c (exclusively f) (altered f rows) (Changed f rows) _ b u h refl refl refl

end_so : (v : Server) (c x : ℕ) (o : Option Branch) → find x v.branches ≡ o
    → Keeps v (closed c o) (cond (may_end c (shown o)) (with_held v (change_found x (λ b. record b { stage = Ended }) (map held_of v.branches))) (store_of v)) (cond (may_end c (shown o)) Did Refused)
end_so v c x None h = kept_so v
end_so v c x (Some b) h = chosen v (eqb b.owner c && is_active b.stage) (Close b) Keep _ (store_of v) Did Refused
    (λ t. (put_so v x (λ z. record z { stage = Ended }) b (record b { stage = Ended }) h (find_xid x b v.branches h) refl, refl)) (λ t. kept_so v)

prepare_so : (v : Server) (c x : ℕ) (o : Option Branch) → find x v.branches ≡ o
    → Keeps v (readied c o) (cond (may_prepare c (shown o)) (with_held v (change_found x (λ b. record b { stage = Prepared }) (map held_of v.branches))) (store_of v)) (cond (may_prepare c (shown o)) Did Refused)
prepare_so v c x None h = kept_so v
prepare_so v c x (Some b) h = chosen v (eqb b.owner c && is_ended b.stage) (Ready b) Keep _ (store_of v) Did Refused
    (λ t. (put_so v x (λ z. record z { stage = Prepared }) b (record b { stage = Prepared }) h (find_xid x b v.branches h) refl, refl)) (λ t. kept_so v)

gone_so : (v : Server) (x : ℕ) (b : Branch) → find x v.branches ≡ Some b → held_but x (map held_of v.branches) ≡ map held_of (without b.xid v.branches)
gone_so v x b h = but_there x v.branches ∙ ap (λ z. map held_of (without z v.branches)) (sym (find_xid x b v.branches h))

commit_so : (v : Server) (c x : ℕ) (o : Option Branch) → find x v.branches ≡ o
    → Keeps v (installed o) (cond (may_commit (shown o)) (installed_in (store_of v) x (shown o)) (store_of v)) (cond (may_commit (shown o)) Did Refused)
commit_so v c x None h = kept_so v
commit_so v c x (Some b) h = chosen v (is_prepared b.stage) (Install b) Keep _ (store_of v) Did Refused
    (λ t. (ap₂ (λ (u : Table) (bs : List Held). record { rows = u; held = bs }) (rows_there v.rows b.log) (gone_so v x b h), refl)) (λ t. kept_so v)

rollback_so : (v : Server) (c x : ℕ) (o : Option Branch) → find x v.branches ≡ o
    → Keeps v (dropped c o) (cond (may_roll_back c (shown o)) (with_held v (held_but x (map held_of v.branches))) (store_of v)) (cond (may_roll_back c (shown o)) Did Refused)
rollback_so v c x None h = kept_so v
rollback_so v c x (Some b) h = chosen v (is_prepared b.stage || eqb b.owner c) (Drop b) Keep _ (store_of v) Did Refused (λ t. (ap (with_held v) (gone_so v x b h), refl)) (λ t. kept_so v)

none_from : (o : Option Branch) → is_some o ≡ false → o ≡ None
none_from None h = refl
none_from (Some b) h = cc

start_so : (v : Server) (c x : ℕ) → Keeps v (effect v c (Start x)) (stored (store_of v) c (Start x)) (tells (store_of v) c (Start x))
start_so v c x = subst (λ w. Keeps v (effect v c (Start x)) (cond w (store_of v) (with_held v (map held_of v.branches ++ held_of new ∷ []))) (cond w Refused Did)) (sym test)
    (chosen v (is_some (find x v.branches) || is_some (owned c v.branches)) Keep (Begin x c) (store_of v) _ Refused Did (λ h. kept_so v) (λ h. (ap (with_held v) (end_there x new v.branches (none_from _ (grind arith)) refl), refl)))
  where
    new : Branch
    new = record { xid = x; stage = Active; owner = c; log = [] }

    test : (is_some (find_held x (map held_of v.branches)) || is_some (owned_held c (map held_of v.branches))) ≡ (is_some (find x v.branches) || is_some (owned c v.branches))
    test = ap₂ (λ a b. a || b) (ap is_some (found_there x v.branches) ∙ some_shown (find x v.branches)) (ap is_some (owned_there c v.branches) ∙ some_shown (owned c v.branches))

pub keeps_request : (v : Server) (c : ℕ) (r : Request) → AreDistinct v.branches → Keeps v (effect v c r) (stored (store_of v) c r) (tells (store_of v) c r)
keeps_request v c (Start x) u = start_so v c x
keeps_request v c (Scan f) u = subst (λ h. Keeps v (effect v c (Scan f)) (cond (may_grow (store_of v) f h) (with_held v (change_owned c (scanned f) (map held_of v.branches))) (store_of v)) (cond (may_grow (store_of v) f h) (Ran (Scanned f (rows_of (store_of v) f h))) Refused)) (sym (owned_there c v.branches)) (scan_so v c f (owned c v.branches) u refl)
keeps_request v c (Change f rows) u = subst (λ h. Keeps v (effect v c (Change f rows)) (cond (may_grow (store_of v) (exclusively f) h) (with_held v (change_owned c (altered f rows) (map held_of v.branches))) (store_of v)) (cond (may_grow (store_of v) (exclusively f) h) (Ran (Changed f rows)) Refused)) (sym (owned_there c v.branches)) (change_so v c f rows (owned c v.branches) u refl)
keeps_request v c (End x) u = subst (λ h. Keeps v (effect v c (End x)) (cond (may_end c h) (with_held v (change_found x (λ b. record b { stage = Ended }) (map held_of v.branches))) (store_of v)) (cond (may_end c h) Did Refused)) (sym (found_there x v.branches)) (end_so v c x (find x v.branches) refl)
keeps_request v c (Prepare x) u = subst (λ h. Keeps v (effect v c (Prepare x)) (cond (may_prepare c h) (with_held v (change_found x (λ b. record b { stage = Prepared }) (map held_of v.branches))) (store_of v)) (cond (may_prepare c h) Did Refused)) (sym (found_there x v.branches)) (prepare_so v c x (find x v.branches) refl)
keeps_request v c (Commit x) u = subst (λ h. Keeps v (effect v c (Commit x)) (cond (may_commit h) (installed_in (store_of v) x h) (store_of v)) (cond (may_commit h) Did Refused)) (sym (found_there x v.branches)) (commit_so v c x (find x v.branches) refl)
keeps_request v c (Rollback x) u = subst (λ h. Keeps v (effect v c (Rollback x)) (cond (may_roll_back c h) (with_held v (held_but x (map held_of v.branches))) (store_of v)) (cond (may_roll_back c h) Did Refused)) (sym (found_there x v.branches)) (rollback_so v c x (find x v.branches) refl)
keeps_request v c Recover u = (refl, ap Listed (prepared_there v.branches))

-- ---- the end of a connection, a stop

not_twice : (b : Bool) → not (not b) ≡ b
not_twice true = refl
not_twice false = refl

pub keeps_hangup : (v : Server) (c : ℕ) → store_hung_up (store_of v) c ≡ store_of (hung_up v c)
keeps_hangup v c = ap (with_held v) (unless_there (owns_held c) (λ b. not (is_owned c b)) v.branches (λ b. refl))

pub keeps_stop : (v : Server) → store_stopped (store_of v) ≡ store_of (stopped v)
keeps_stop v = ap (with_held v) (unless_there (λ b. not (is_prepared b.stage)) (λ b. is_prepared b.stage) v.branches (λ b. not_twice (is_prepared b.stage)))
