use Rattle.std.proofs.Common.{◌≡◌, drop, map}
use Rattle.std.specs.List.{flat_map}
use Rattle.sql_values.specs.Checks.{expr_columns, columns_of_addend, first_column}
use Rattle.sql_values.specs.Seeking.{has_trouble}
use Rattle.sql_values.proofs.checks.+seeking_in_expr.Given as goal

abbrev pub invariant-seek_in_addends-loop-part : goal.invariant-seek_in_addends-loop-part
invariant-seek_in_addends-loop-part l =
    first_column (has_trouble l.trouble l.tables) (flat_map (λ part. part) (map columns_of_addend (drop l.part-index l.parts)))
    ≡ first_column (has_trouble l.trouble l.tables) (flat_map (λ part. part) (map columns_of_addend l.parts))

abbrev pub invariant-seek_in_factors-loop-part : goal.invariant-seek_in_factors-loop-part
invariant-seek_in_factors-loop-part l =
    first_column (has_trouble l.trouble l.tables) (flat_map (λ part. part) (map expr_columns (drop l.part-index l.parts)))
    ≡ first_column (has_trouble l.trouble l.tables) (flat_map (λ part. part) (map expr_columns l.parts))
