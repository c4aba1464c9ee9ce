use Rattle.std.proofs.Common.{◌≡◌, ◌++◌, take}
use Rattle.front_rows.specs.Aggregates.{results_at}
use Rattle.front_rows.proofs.aggregating.add_results.Given as goal

abbrev pub invariant-loop-row : goal.invariant-loop-row
invariant-loop-row l = l.results.items ≡ l.initial.results.items ++ results_at l.kind l.place (take l.row-index l.rows)
