use Rattle.front_rows.proofs.Parts.{aggregates_merge}
use Rattle.front_rows.proofs.laws.aggregates_merge.Goals as goal

pub returns : goal.returns
returns c = aggregates_merge
