-- What is known where a request has an effect: one case for each kind of effect.
use Rattle.std.proofs.Common.{◌≡◌, ℕ, Bool, true, false, cond, not, ◌&&◌, ◌||◌, eqb, List, Option, Some, None, is_some, refl, ap, ◌∙◌, subst, arith, ◌⊎◌, inl, inr, eqb-true}
use Rattle.std.proofs.lemmas.Bool.Decides.{nat_tests}
use Rattle.commit_protocol.specs.Rows.{Table, Footprint, Operation, footprint_of, after, restricted, IsRight}
use Rattle.commit_protocol.specs.Rows.Operation.{Scanned, Changed}
use Rattle.commit_protocol.specs.Backend.{Stage, Branch, Server, Request, Effect, find, owned, is_active, is_ended, is_prepared, blocked, effect, grown, scan_by, closed, readied, installed, dropped}
use Rattle.commit_protocol.specs.Backend.Stage.{Active, Ended, Prepared}
use Rattle.commit_protocol.specs.Backend.Request.{Start, Scan, Change, End, Prepare, Commit, Rollback, Recover}
use Rattle.commit_protocol.specs.Backend.Effect.{Keep, Show, Begin, Grow, Close, Ready, Drop, Install}
use Rattle.protocol_law.proofs.Branches.{AreDistinct, find_xid, owned_found}

-- the fp that a request locks
abbrev pub Locks : Request → Operation → Type 0
Locks (Start x) op = ⊥
Locks (Scan fp) op = (rows : Table) × (op ≡ Scanned fp rows)
Locks (Change fp rows) op = op ≡ Changed fp rows
Locks (End x) op = ⊥
Locks Recover op = ⊥
Locks (Prepare x) op = ⊥
Locks (Commit x) op = ⊥
Locks (Rollback x) op = ⊥

pub data Did (s : Server) (c : ℕ) : Request → Effect → Type 0 where
  Kept : {r : Request} → Did s c r Keep
  Showed : {xids : List ℕ} → Did s c Recover (Show xids)
  Begun : {x : ℕ} → find x s.branches ≡ None → owned c s.branches ≡ None → Did s c (Start x) (Begin x c)
  Grew : {r : Request} {b : Branch} {op : Operation} → find b.xid s.branches ≡ Some b → b.owner ≡ c → b.stage ≡ Active
      → blocked b.xid (footprint_of op) s.branches ≡ false → IsRight (after s.rows b.log) op → Locks r op → Did s c r (Grow b op)
  Closed : {b : Branch} → find b.xid s.branches ≡ Some b → b.owner ≡ c → b.stage ≡ Active → Did s c (End b.xid) (Close b)
  Readied : {b : Branch} → find b.xid s.branches ≡ Some b → b.owner ≡ c → b.stage ≡ Ended → Did s c (Prepare b.xid) (Ready b)
  Dropped : {b : Branch} → find b.xid s.branches ≡ Some b → (b.stage ≡ Prepared) ⊎ (b.owner ≡ c) → Did s c (Rollback b.xid) (Drop b)
  Installed : {b : Branch} → find b.xid s.branches ≡ Some b → b.stage ≡ Prepared → Did s c (Commit b.xid) (Install b)

pub active_from : (t : Stage) → is_active t ≡ true → t ≡ Active
active_from Active h = refl
active_from Ended h = cc
active_from Prepared h = cc

pub ended_from : (t : Stage) → is_ended t ≡ true → t ≡ Ended
ended_from Active h = cc
ended_from Ended h = refl
ended_from Prepared h = cc

pub prepared_from : (t : Stage) → is_prepared t ≡ true → t ≡ Prepared
prepared_from Active h = cc
prepared_from Ended h = cc
prepared_from Prepared h = refl

did_begin : (s : Server) (c x : ℕ) (v : Bool) → (is_some (find x s.branches) || is_some (owned c s.branches)) ≡ v → Did s c (Start x) (cond v Keep (Begin x c))
did_begin s c x true h = Kept
did_begin s c x false h = Begun (none_from _ (grind arith)) (none_from _ (grind arith))
  where
    none_from : (o : Option Branch) → is_some o ≡ false → o ≡ None
    none_from None h = refl
    none_from (Some b) h = cc

did_grow : (s : Server) (c : ℕ) (r : Request) (op : Operation) (o : Option Branch) → AreDistinct s.branches → owned c s.branches ≡ o
    → ((b : Branch) → o ≡ Some b → IsRight (after s.rows b.log) op) → Locks r op → Did s c r (grown s op o)
did_grow s c r op None u h right l = Kept
did_grow s c r op (Some b) u h right l = go (is_active b.stage && not (blocked b.xid (footprint_of op) s.branches)) refl
  where
    go : (v : Bool) → (is_active b.stage && not (blocked b.xid (footprint_of op) s.branches)) ≡ v → Did s c r (cond v (Grow b op) Keep)
    go true e = let f = owned_found c b s.branches u h in Grew f.0 (grind (arith, nat_tests)) (active_from _ (grind arith)) (grind arith) (right b refl) l
    go false e = Kept

scan_right : (s : Server) (fp : Footprint) (o : Option Branch) (b : Branch) → o ≡ Some b → IsRight (after s.rows b.log) (scan_by s fp o)
scan_right s fp None b h = cc
scan_right s fp (Some d) b h = let same : d ≡ b = cc in λ k. ap (λ (e : Branch). restricted fp (after s.rows e.log) k) same

scan_is : (s : Server) (fp : Footprint) (o : Option Branch) → (rows : Table) × (scan_by s fp o ≡ Scanned fp rows)
scan_is s fp None = (s.rows, refl)
scan_is s fp (Some b) = (restricted fp (after s.rows b.log), refl)

did_close : (s : Server) (c x : ℕ) (o : Option Branch) → find x s.branches ≡ o → Did s c (End x) (closed c o)
did_close s c x None h = Kept
did_close s c x (Some b) h = go (eqb b.owner c && is_active b.stage) refl
  where
    here : b.xid ≡ x
    here = find_xid x b s.branches h

    go : (v : Bool) → (eqb b.owner c && is_active b.stage) ≡ v → Did s c (End x) (cond v (Close b) Keep)
    go true e = subst (λ y. Did s c (End y) (Close b)) here (Closed (ap (λ y. find y s.branches) here ∙ h) (grind (arith, nat_tests)) (active_from _ (grind arith)))
    go false e = Kept

did_ready : (s : Server) (c x : ℕ) (o : Option Branch) → find x s.branches ≡ o → Did s c (Prepare x) (readied c o)
did_ready s c x None h = Kept
did_ready s c x (Some b) h = go (eqb b.owner c && is_ended b.stage) refl
  where
    here : b.xid ≡ x
    here = find_xid x b s.branches h

    go : (v : Bool) → (eqb b.owner c && is_ended b.stage) ≡ v → Did s c (Prepare x) (cond v (Ready b) Keep)
    go true e = subst (λ y. Did s c (Prepare y) (Ready b)) here (Readied (ap (λ y. find y s.branches) here ∙ h) (grind (arith, nat_tests)) (ended_from _ (grind arith)))
    go false e = Kept

did_install : (s : Server) (c x : ℕ) (o : Option Branch) → find x s.branches ≡ o → Did s c (Commit x) (installed o)
did_install s c x None h = Kept
did_install s c x (Some b) h = go (is_prepared b.stage) refl
  where
    here : b.xid ≡ x
    here = find_xid x b s.branches h

    go : (v : Bool) → is_prepared b.stage ≡ v → Did s c (Commit x) (cond v (Install b) Keep)
    go true e = subst (λ y. Did s c (Commit y) (Install b)) here (Installed (ap (λ y. find y s.branches) here ∙ h) (prepared_from _ e))
    go false e = Kept

did_drop : (s : Server) (c x : ℕ) (o : Option Branch) → find x s.branches ≡ o → Did s c (Rollback x) (dropped c o)
did_drop s c x None h = Kept
did_drop s c x (Some b) h = go (is_prepared b.stage) (eqb b.owner c) refl refl
  where
    here : b.xid ≡ x
    here = find_xid x b s.branches h

    gone : (b.stage ≡ Prepared) ⊎ (b.owner ≡ c) → Did s c (Rollback x) (Drop b)
    gone w = subst (λ y. Did s c (Rollback y) (Drop b)) here (Dropped (ap (λ y. find y s.branches) here ∙ h) w)

    go : (v w : Bool) → is_prepared b.stage ≡ v → eqb b.owner c ≡ w → Did s c (Rollback x) (cond (v || w) (Drop b) Keep)
    go true w e f = gone (inl (prepared_from _ e))
    go false true e f = gone (inr (eqb-true _ _ f))
    go false false e f = Kept

pub did : (s : Server) (c : ℕ) (r : Request) → AreDistinct s.branches → Did s c r (effect s c r)
did s c (Start x) u = did_begin s c x _ refl
did s c (Scan fp) u = did_grow s c (Scan fp) (scan_by s fp (owned c s.branches)) (owned c s.branches) u refl (λ b h. scan_right s fp (owned c s.branches) b h) (scan_is s fp (owned c s.branches))
did s c (Change fp rows) u = did_grow s c (Change fp rows) (Changed fp rows) (owned c s.branches) u refl (λ b h. tt) refl
did s c (End x) u = did_close s c x _ refl
did s c Recover u = Showed
did s c (Prepare x) u = did_ready s c x _ refl
did s c (Commit x) u = did_install s c x _ refl
did s c (Rollback x) u = did_drop s c x _ refl
