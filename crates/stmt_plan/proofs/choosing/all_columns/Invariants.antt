use Rattle.std.proofs.Common.{◌≡◌, ◌++◌, drop}
use Rattle.stmt_plan.specs.Selects.{all_picks}
use Rattle.stmt_plan.proofs.choosing.all_columns.Given as goal

abbrev pub invariant-loop-i : goal.invariant-loop-i
invariant-loop-i l = l.picks ++ all_picks l.i (drop l.i l.columns) ≡ all_picks 0 l.columns
