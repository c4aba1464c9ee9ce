use Rattle.std.proofs.Common.{◌≡◌, drop}
use Rattle.stmt_plan.specs.Settings.{sets_fault}
use Rattle.stmt_plan.proofs.setting.check_sets.Given as goal

abbrev pub invariant-loop-set : goal.invariant-loop-set
invariant-loop-set l = sets_fault l.table (drop l.set-index l.sets) ≡ sets_fault l.table l.sets
