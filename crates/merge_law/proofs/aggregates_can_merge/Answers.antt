use Rattle.merge_law.proofs.Counted.{plan_aggregates_can_merge}
use Rattle.merge_law.proofs.aggregates_can_merge.Goals as goal

pub returns : goal.returns
returns c = plan_aggregates_can_merge
