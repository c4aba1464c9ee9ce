use Rattle.std.proofs.Common.{arith}
use Rattle.txn_phases.proofs.Changed.{changes_done}
use Rattle.txn_phases.proofs.changing.changes_of.Goals as goal

pub returns-clause-changes : goal.returns-clause-changes
returns-clause-changes c = changes_done c.args.changing.now c.args.rows.now c.loop-place.place c.loop-place.changes (omega arith) c.loop-place.invariant
