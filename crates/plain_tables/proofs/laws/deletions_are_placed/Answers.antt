use Rattle.plain_tables.proofs.Deleted.{deletions_are_placed}
use Rattle.plain_tables.proofs.laws.deletions_are_placed.Goals as goal

pub returns : goal.returns
returns c = deletions_are_placed
