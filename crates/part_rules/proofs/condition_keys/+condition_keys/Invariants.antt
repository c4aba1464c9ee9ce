use Rattle.std.proofs.Common.{◌≡◌, ℤ, FitsSigned, not, ◌||◌, ◌&&◌, map, drop}
use Rattle.std.specs.Int.{w64}
use Rattle.std.specs.List.{list_all, list_any}
use Rattle.sql_values.specs.KeySets.{has_key}
use Rattle.part_rules.specs.Keeps.{keeps}
use Rattle.part_rules.proofs.condition_keys.+condition_keys.Given as goal

abbrev pub invariant-keys_of_all-loop-part : goal.invariant-keys_of_all-loop-part
invariant-keys_of_all-loop-part l = (key : ℤ) → FitsSigned w64 key → (not (has_key l.left_out.items key) && list_all (λ b. b) (map (keeps l.table key) (drop l.part-index l.parts))) ≡ list_all (λ b. b) (map (keeps l.table key) l.parts)

abbrev pub invariant-keys_of_any-loop-part : goal.invariant-keys_of_any-loop-part
invariant-keys_of_any-loop-part l = (key : ℤ) → FitsSigned w64 key → (has_key l.found.items key || list_any (λ b. b) (map (keeps l.table key) (drop l.part-index l.parts))) ≡ list_any (λ b. b) (map (keeps l.table key) l.parts)
