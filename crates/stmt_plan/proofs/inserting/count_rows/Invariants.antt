use Rattle.std.proofs.Common.{◌≡◌, ◌+◌, drop}
use Rattle.stmt_plan.specs.Inserts.{miscounted}
use Rattle.stmt_plan.proofs.inserting.count_rows.Given as goal

abbrev pub invariant-loop-i : goal.invariant-loop-i
invariant-loop-i l = miscounted l.count (l.i + 1) (drop l.i l.rows) ≡ miscounted l.count 1 l.rows
