use Rattle.branch_store.proofs.Sounds.{hangups_keep_rows}
use Rattle.branch_store.proofs.laws.hangups_keep_rows.Goals as goal

pub returns : goal.returns
returns c = hangups_keep_rows
