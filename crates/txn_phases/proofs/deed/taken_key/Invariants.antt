use Rattle.txn_phases.proofs.Taken.{Looking}
use Rattle.txn_phases.proofs.deed.taken_key.Given as goal

abbrev pub invariant-loop-new : goal.invariant-loop-new
invariant-loop-new l = Looking l.place l.found l.news l.taken l.new-index
