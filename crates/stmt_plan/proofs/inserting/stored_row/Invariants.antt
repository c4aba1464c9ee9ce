use Rattle.std.proofs.Common.{◌≡◌, take, map}
use Rattle.stmt_plan.specs.Inserts.{row_of}
use Rattle.stmt_plan.specs.Slots.{slot_shown}
use Rattle.stmt_plan.proofs.inserting.stored_row.Given as goal

abbrev pub invariant-loop-slot : goal.invariant-loop-slot
invariant-loop-slot l = l.row ≡ row_of (map slot_shown (take l.slot-index l.slots)) l.literals
