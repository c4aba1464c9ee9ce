use Rattle.std.proofs.Common.{◌≡◌, subst, sym, true}
use Rattle.std.specs.Prelude.{IfSome}
use Rattle.front_rows.specs.Aggregates.{all_of, fits_sums, together}
use Rattle.front_rows.proofs.aggregating.together.Goals as goal

pub returns-in-Count-clause-some : goal.returns-in-Count-clause-some
unfolding all_of
returns-in-Count-clause-some c =
    subst (λ f. IfSome c.sum.result (λ all. (fits_sums f c.args.results.items ≡ true) × (all ≡ together f c.args.results.items))) (sym c.in-Count.is) c.sum.ensures.some
