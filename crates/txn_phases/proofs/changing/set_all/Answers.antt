use Rattle.std.proofs.Common.{arith}
use Rattle.txn_phases.proofs.Changed.{row_done}
use Rattle.txn_phases.proofs.changing.set_all.Goals as goal

pub returns-clause-row : goal.returns-clause-row
returns-clause-row c = row_done c.args.def.now c.args.number c.args.sets.now c.loop-set.set-index c.loop-set.new _ (omega arith) c.loop-set.invariant
