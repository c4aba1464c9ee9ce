use Rattle.std.proofs.Common.{◌≡◌, drop, map, fold, pos, Some}
use Rattle.std.specs.Option.{option_map}
use Rattle.sql_values.specs.Expressions.{with_addend, with_factor, number_of, expr_value, value_of_addend}
use Rattle.sql_values.proofs.expressions.+counting.Given as goal

abbrev pub invariant-sum-loop-part : goal.invariant-sum-loop-part
invariant-sum-loop-part l =
    fold with_addend l.total (map (value_of_addend l.table l.row) (drop l.part-index l.parts)) ≡ fold with_addend (Some (pos 0)) (map (value_of_addend l.table l.row) l.parts)

abbrev pub invariant-product-loop-part : goal.invariant-product-loop-part
invariant-product-loop-part l =
    fold (λ total part. with_factor total (option_map number_of part)) l.total (map (expr_value l.table l.row) (drop l.part-index l.parts))
    ≡ fold (λ total part. with_factor total (option_map number_of part)) (Some (pos 1)) (map (expr_value l.table l.row) l.parts)
