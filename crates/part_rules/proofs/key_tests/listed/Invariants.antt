use Rattle.std.proofs.Common.{◌≡◌, ℤ, FitsSigned, ◌||◌, drop}
use Rattle.std.specs.Int.{w64}
use Rattle.sql_values.specs.KeySets.{has_key}
use Rattle.part_rules.specs.Keeps.{is_listed}
use Rattle.part_rules.proofs.key_tests.listed.Given as goal

abbrev pub invariant-loop-literal : goal.invariant-loop-literal
invariant-loop-literal l = (key : ℤ) → FitsSigned w64 key → (has_key l.list.items key || is_listed key (drop l.literal-index l.literals)) ≡ is_listed key l.literals
