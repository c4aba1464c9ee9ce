use Rattle.std.proofs.Common.{◌≡◌, map, take}
use Rattle.sql_values.specs.declared.table.ColumnDef.{ColumnDef}
use Rattle.front_core.proofs.planning.kinds_of.Given as goal

abbrev pub invariant-loop-column : goal.invariant-loop-column
invariant-loop-column l = l.kinds ≡ map (λ (column : ColumnDef). column.kind) (take l.column-index l.def.columns)
