use Rattle.std.proofs.Common.{◌≡◌, take, map}
use Rattle.stmt_plan.specs.Inserts.{row_of}
use Rattle.stmt_plan.specs.Slots.{slot_shown}
use Rattle.stmt_plan.proofs.inserting.stored_rows.Given as goal

abbrev pub invariant-loop-literals : goal.invariant-loop-literals
invariant-loop-literals l = l.stored ≡ map (row_of (map slot_shown l.slots)) (take l.literals-index l.rows)
