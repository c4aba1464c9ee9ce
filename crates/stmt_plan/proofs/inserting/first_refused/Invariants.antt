use Rattle.std.proofs.Common.{◌≡◌, ◌+◌, drop, map}
use Rattle.stmt_plan.specs.Inserts.{rows_fault}
use Rattle.stmt_plan.proofs.inserting.first_refused.Given as goal

abbrev pub invariant-loop-i : goal.invariant-loop-i
invariant-loop-i l = rows_fault (map (λ c. c.now) l.among) (l.i + 1) (drop l.i l.rows) ≡ rows_fault (map (λ c. c.now) l.among) 1 l.rows
