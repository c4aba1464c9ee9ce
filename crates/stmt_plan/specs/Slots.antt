-- What the code keeps of the places of a row's literals.
use Rattle.std.specs.Prelude.{ℕ, Option, Some}
use Rattle.sql_values.specs.declared.table.ColumnDef.{ColumnDef}
use Rattle.stmt_plan.specs.declared.fault.StmtFault.{StmtFault}
use Rattle.stmt_plan.specs.declared.inserting.Refused.{Refused}
use Rattle.stmt_plan.specs.declared.inserting.Slot.{Slot}
use Rattle.stmt_plan.specs.Faults.{fault_of_store}

-- a slot as contracts see it
abbrev pub slot_shown : Slot → ColumnDef × Option ℕ
slot_shown slot = (slot.column.now, Some slot.source)

-- a refused literal as a statement's fault
abbrev pub refused_shown : Refused → StmtFault
refused_shown refused = fault_of_store refused.column.now.name refused.row refused.why
