use Rattle.std.proofs.Common.{◌≡◌, drop}
use Rattle.plain_tables.specs.Updates.{set_all}
use Rattle.txn_phases.proofs.changing.set_all.Given as goal

abbrev pub invariant-loop-set : goal.invariant-loop-set
invariant-loop-set l = set_all l.def l.number (drop l.set-index l.sets) l.new ≡ set_all l.def l.number l.sets l.row
