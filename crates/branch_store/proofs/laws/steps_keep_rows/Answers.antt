use Rattle.branch_store.proofs.Sounds.{steps_keep_rows}
use Rattle.branch_store.proofs.laws.steps_keep_rows.Goals as goal

pub returns : goal.returns
returns c = steps_keep_rows
