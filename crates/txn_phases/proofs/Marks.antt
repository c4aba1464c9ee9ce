-- A branch that was begun, in its place.
use Rattle.std.proofs.Common.{◌≡◌, ◌<◌, ◌≤◌, ℕ, zero, suc, Bool, List, [], ◌∷◌, get_or, set, refl, arith, ap, length}
use Rattle.txn_phases.specs.declared.phase.Branch.{Branch}
use Rattle.txn_phases.specs.Phases.{marked}

pub marked_here : (place : ℕ) (begun : Bool) (branches : List Branch) (b : Branch) → b ≡ get_or branches place b → place < length branches → set branches place (record { server = b.server; xid = b.xid; begun = begun }) ≡ marked place begun branches
marked_here place begun [] b is inside = let no : ⊥ = omega arith in absurd no
marked_here zero begun (c ∷ bs) b is inside = ap (λ (d : Branch). record { server = d.server; xid = d.xid; begun = begun } ∷ bs) is
marked_here (suc place) begun (c ∷ bs) b is inside = ap (λ l. c ∷ l) (marked_here place begun bs b is (omega arith))

pub marked_past : (place : ℕ) (begun : Bool) (branches : List Branch) → length branches ≤ place → branches ≡ marked place begun branches
marked_past place begun [] past = refl
marked_past zero begun (c ∷ bs) past = let no : ⊥ = omega arith in absurd no
marked_past (suc place) begun (c ∷ bs) past = ap (λ l. c ∷ l) (marked_past place begun bs (omega arith))
