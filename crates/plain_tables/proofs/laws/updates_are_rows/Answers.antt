use Rattle.plain_tables.proofs.Changed.{updates_are_rows}
use Rattle.plain_tables.proofs.laws.updates_are_rows.Goals as goal

pub returns : goal.returns
returns c = updates_are_rows
