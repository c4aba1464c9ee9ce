use Rattle.merge_law.proofs.Ordered.{rows_are_merged}
use Rattle.merge_law.proofs.rows_are_merged.Goals as goal

pub returns : goal.returns
returns c = rows_are_merged
