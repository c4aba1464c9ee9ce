use Rattle.branch_store.proofs.Alone.{rollbacks_leave_nothing}
use Rattle.branch_store.proofs.laws.rollbacks_leave_nothing.Goals as goal

pub returns : goal.returns
returns c = rollbacks_leave_nothing
