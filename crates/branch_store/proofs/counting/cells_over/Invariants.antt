use Rattle.std.proofs.Common.{◌≡◌, ◌++◌, drop, map}
use Rattle.front_rows.specs.Aggregates.{cells_over}
use Rattle.front_rows.specs.Laws.{AreSuited}
use Rattle.stmt_plan.specs.Selects.{aggregate_of}
use Rattle.branch_store.proofs.counting.cells_over.Given as goal

abbrev pub invariant-loop-call : goal.invariant-loop-call
invariant-loop-call l = record {
  suited : AreSuited (map (aggregate_of l.def) (drop l.call-index l.calls)) l.rows;
  so_far : l.cells ++ cells_over (map (aggregate_of l.def) (drop l.call-index l.calls)) l.rows ≡ cells_over (map (aggregate_of l.def) l.calls) l.rows;
}
