use Rattle.branch_store.proofs.Alone.{commits_keep_puts}
use Rattle.branch_store.proofs.laws.commits_keep_puts.Goals as goal

pub returns : goal.returns
returns c = commits_keep_puts
