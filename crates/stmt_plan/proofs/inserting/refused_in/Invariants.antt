use Rattle.std.proofs.Common.{◌≡◌, drop, map}
use Rattle.std.specs.List.{zip}
use Rattle.stmt_plan.specs.Inserts.{row_fault}
use Rattle.stmt_plan.proofs.inserting.refused_in.Given as goal

abbrev pub invariant-loop-column : goal.invariant-loop-column
invariant-loop-column l = row_fault l.row (zip (map (λ c. c.now) (drop l.column-index l.among)) l.left) ≡ row_fault l.row (zip (map (λ c. c.now) l.among) l.literals)
