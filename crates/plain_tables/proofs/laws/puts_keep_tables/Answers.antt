use Rattle.plain_tables.proofs.Inserted.{puts_keep_tables}
use Rattle.plain_tables.proofs.laws.puts_keep_tables.Goals as goal

pub returns : goal.returns
returns c = puts_keep_tables
