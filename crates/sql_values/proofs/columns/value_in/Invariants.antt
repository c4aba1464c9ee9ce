use Rattle.std.proofs.Common.{◌≡◌, drop, find, nat_eq}
use Rattle.std.specs.List.{zip}
use Rattle.std.specs.Cmp.Lexicographic.{pointwise}
use Rattle.sql_values.proofs.columns.value_in.Given as goal

abbrev pub invariant-loop-column : goal.invariant-loop-column
invariant-loop-column l =
    find (λ cell. pointwise nat_eq cell.0.name l.name) (zip (drop l.column-index l.columns) l.left) ≡ find (λ cell. pointwise nat_eq cell.0.name l.name) (zip l.columns l.values)
