use Rattle.plain_tables.proofs.Inserted.{found_keys_tell}
use Rattle.plain_tables.proofs.laws.found_keys_tell.Goals as goal

pub returns : goal.returns
returns c = found_keys_tell
