use Rattle.plain_tables.proofs.Changed.{updates_keep_keys}
use Rattle.plain_tables.proofs.laws.updates_keep_keys.Goals as goal

pub returns : goal.returns
returns c = updates_keep_keys
