use Rattle.std.proofs.Common.{◌≡◌, take}
use Rattle.front_rows.specs.Aggregates.{results_at}
use Rattle.front_rows.specs.Gathering.{all_cells}
use Rattle.front_rows.proofs.aggregating.results_of.Given as goal

abbrev pub invariant-loop-answer : goal.invariant-loop-answer
invariant-loop-answer l = l.results.items ≡ results_at l.kind l.place (all_cells (take l.answer-index l.parts))
