use Rattle.plain_tables.proofs.Inserted.{puts_are_placed}
use Rattle.plain_tables.proofs.laws.puts_are_placed.Goals as goal

pub returns : goal.returns
returns c = puts_are_placed
