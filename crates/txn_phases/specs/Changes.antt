-- What the code tells of rows that can't be changed, and keeps of those that can.
use Rattle.std.specs.Prelude.{List, [], ◌∷◌, Result, if◌then◌else◌}
use Rattle.stmt_plan.specs.declared.fault.RowFault.{RowFault}
use Rattle.plain_tables.specs.Updates.{is_same_row, map_err}
use Rattle.txn_phases.specs.declared.changing.ChangeFault.{ChangeFault}
use Rattle.txn_phases.specs.declared.changing.ChangeFault.TheVariants as change
use Rattle.txn_phases.specs.declared.changing.Changing.{Changing}
use Rattle.txn_phases.specs.declared.deed.PlacedRow.{PlacedRow}
use Rattle.txn_phases.specs.Deeds.{Row, placed}

-- as the code tells it, where memory wasn't wanting
abbrev pub told : {X : Type 0} → Result X RowFault → Result X ChangeFault
told meant = map_err change.Refused meant

-- the new row with its partition, unless it has the values of the old one
abbrev pub change_of : Changing → Row → Row → List PlacedRow
change_of c old new = if is_same_row old new then [] else placed c.table c.rule new ∷ []
