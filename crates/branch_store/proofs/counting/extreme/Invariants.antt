use Rattle.std.proofs.Common.{drop, if◌then◌else◌}
use Rattle.front_rows.specs.Aggregates.{greater, lesser}
use Rattle.front_rows.specs.Cells.{cell_literal}
use Rattle.branch_store.proofs.Aggregated.{SoFar}
use Rattle.branch_store.proofs.counting.extreme.Given as goal

abbrev pub invariant-loop-row : goal.invariant-loop-row
invariant-loop-row l = SoFar (if l.least then lesser else greater) l.column (drop l.row-index l.rows) (cell_literal l.found) l.rows
