use Rattle.std.proofs.Common.{◌≡◌, cond}
use Rattle.front_rows.specs.Aggregates.{all_of, both, greater, lesser}
use Rattle.front_rows.proofs.aggregating.extreme.Given as goal

abbrev pub invariant-loop-literal : goal.invariant-loop-literal
invariant-loop-literal l = let f = cond l.least lesser greater in both f l.found (all_of f l.literal-iterator.rest.items) ≡ all_of f l.fn.results.items
