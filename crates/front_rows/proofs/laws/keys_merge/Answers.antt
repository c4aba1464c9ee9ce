use Rattle.front_rows.proofs.KeyOrder.{keys_merge}
use Rattle.front_rows.proofs.laws.keys_merge.Goals as goal

pub returns : goal.returns
returns c = keys_merge
