use Rattle.std.proofs.Common.{◌≡◌, map}
use Rattle.front_rows.specs.Aggregates.{all_of, both, number_in, plus, sums_fit}
use Rattle.front_rows.proofs.aggregating.sum.Given as goal

-- what is left, from the total on, is all from the first on
abbrev pub invariant-loop-literal : goal.invariant-loop-literal
invariant-loop-literal l =
    (sums_fit (number_in l.total) (map number_in l.literal-iterator.rest.items) ≡ sums_fit (number_in l.fn.first) (map number_in l.fn.results.items))
    × (both plus l.total (all_of plus l.literal-iterator.rest.items) ≡ both plus l.fn.first (all_of plus l.fn.results.items))
