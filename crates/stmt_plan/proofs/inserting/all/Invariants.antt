use Rattle.std.proofs.Common.{◌≡◌, map, take}
use Rattle.stmt_plan.proofs.inserting.all.Given as goal

abbrev pub invariant-loop-column : goal.invariant-loop-column
invariant-loop-column l = map (λ c. c.now) l.among.items ≡ take l.column-index l.columns
