use Rattle.std.proofs.Common.{◌≡◌, ◌+◌, ℕ, drop}
use Rattle.std.specs.Option.{option_map}
use Rattle.catalog.specs.Columns.{key_from}
use Rattle.catalog.proofs.columns.key_from.Given as goal

abbrev pub invariant-loop-i : goal.invariant-loop-i
invariant-loop-i l = option_map (λ (place : ℕ). l.i + place) (key_from l.name (drop l.i l.columns)) ≡ key_from l.name l.columns
