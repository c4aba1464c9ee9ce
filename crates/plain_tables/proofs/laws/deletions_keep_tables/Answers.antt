use Rattle.plain_tables.proofs.Deleted.{deletions_keep_tables}
use Rattle.plain_tables.proofs.laws.deletions_keep_tables.Goals as goal

pub returns : goal.returns
returns c = deletions_keep_tables
