use Rattle.std.proofs.Common.{◌≡◌, drop, map}
use Rattle.std.specs.List.{list_all}
use Rattle.sql_values.specs.Checks.{is_number, expr_kind, kind_of_addend}
use Rattle.sql_values.proofs.checks.+kinds.Given as goal

abbrev pub invariant-are_addends-loop-part : goal.invariant-are_addends-loop-part
invariant-are_addends-loop-part l = list_all is_number (map (kind_of_addend l.tables) (drop l.part-index l.parts)) ≡ list_all is_number (map (kind_of_addend l.tables) l.parts)

abbrev pub invariant-are_factors-loop-part : goal.invariant-are_factors-loop-part
invariant-are_factors-loop-part l = list_all is_number (map (expr_kind l.tables) (drop l.part-index l.parts)) ≡ list_all is_number (map (expr_kind l.tables) l.parts)
