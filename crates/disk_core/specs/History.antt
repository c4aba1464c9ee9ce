-- Changes whose bytes stand one after the other.
use Rattle.std.specs.Prelude.{ℕ, ◌+◌, List, [], ◌∷◌, take, drop}
use Rattle.disk_core.specs.declared.recent.Call.{Call}
use Rattle.disk_core.specs.declared.recent.Call.TheVariants.{Write, Cut}
use Rattle.disk_core.specs.DiskModel.{Change, Wrote, CutTo}

-- How many bytes these calls wrote.
abbrev pub total : List Call → ℕ
total [] = 0
total (Write at len ∷ calls) = len + total calls
total (Cut len ∷ calls) = total calls

-- The changes that these calls made, in their order, where the pieces that they wrote stand one after the other.
abbrev pub changes : List Call → List ℕ → List Change
changes [] pieces = []
changes (Write at len ∷ calls) pieces = Wrote at (take len pieces) ∷ changes calls (drop len pieces)
changes (Cut len ∷ calls) pieces = CutTo len ∷ changes calls pieces
