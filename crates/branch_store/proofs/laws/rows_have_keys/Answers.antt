use Rattle.branch_store.proofs.Keys.{rows_have_keys}
use Rattle.branch_store.proofs.laws.rows_have_keys.Goals as goal

pub returns : goal.returns
returns c = rows_have_keys
