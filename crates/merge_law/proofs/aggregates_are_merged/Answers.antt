use Rattle.merge_law.proofs.Counted.{aggregates_are_merged}
use Rattle.merge_law.proofs.aggregates_are_merged.Goals as goal

pub returns : goal.returns
returns c = aggregates_are_merged
