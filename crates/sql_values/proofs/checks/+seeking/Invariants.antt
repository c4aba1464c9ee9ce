use Rattle.std.proofs.Common.{◌≡◌, drop, map}
use Rattle.std.specs.List.{flat_map}
use Rattle.sql_values.specs.Checks.{cond_columns, first_column}
use Rattle.sql_values.specs.Seeking.{has_trouble}
use Rattle.sql_values.proofs.checks.+seeking.Given as goal

abbrev pub invariant-seek_parts-loop-part : goal.invariant-seek_parts-loop-part
invariant-seek_parts-loop-part l =
    first_column (has_trouble l.trouble l.tables) (flat_map (λ part. part) (map cond_columns (drop l.part-index l.parts)))
    ≡ first_column (has_trouble l.trouble l.tables) (flat_map (λ part. part) (map cond_columns l.parts))
