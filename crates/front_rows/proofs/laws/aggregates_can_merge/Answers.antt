use Rattle.front_rows.proofs.Parts.{aggregates_can_merge}
use Rattle.front_rows.proofs.laws.aggregates_can_merge.Goals as goal

pub returns : goal.returns
returns c = aggregates_can_merge
