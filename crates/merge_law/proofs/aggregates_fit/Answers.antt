use Rattle.merge_law.proofs.Counted.{plan_aggregates_fit}
use Rattle.merge_law.proofs.aggregates_fit.Goals as goal

pub returns : goal.returns
returns c = plan_aggregates_fit
