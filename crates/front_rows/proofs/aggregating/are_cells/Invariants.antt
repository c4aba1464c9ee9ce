use Rattle.std.proofs.Common.{◌≡◌, drop}
use Rattle.std.specs.Cmp.Lexicographic.{pointwise}
use Rattle.front_rows.specs.Aggregates.{is_cell}
use Rattle.front_rows.proofs.aggregating.are_cells.Given as goal

abbrev pub invariant-loop-place : goal.invariant-loop-place
invariant-loop-place l = pointwise is_cell (drop l.place l.aggregates) (drop l.place l.cells) ≡ pointwise is_cell l.aggregates l.cells
