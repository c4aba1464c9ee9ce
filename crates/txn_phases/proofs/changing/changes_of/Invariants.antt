use Rattle.txn_phases.proofs.Changed.{Going}
use Rattle.txn_phases.proofs.changing.changes_of.Given as goal

abbrev pub invariant-loop-place : goal.invariant-loop-place
invariant-loop-place l = Going l.changing l.rows l.changes l.place
