use Rattle.merge_law.proofs.Merged.{statements_are_merged}
use Rattle.merge_law.proofs.statements_are_merged.Goals as goal

pub returns : goal.returns
returns c = statements_are_merged
