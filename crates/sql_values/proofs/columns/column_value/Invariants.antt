use Rattle.std.proofs.Common.{◌≡◌, drop}
use Rattle.sql_values.specs.Columns.{column_value}
use Rattle.sql_values.proofs.columns.column_value.Given as goal

abbrev pub invariant-loop-table : goal.invariant-loop-table
invariant-loop-table l = column_value (drop l.table-index l.tables) l.left l.name ≡ column_value l.tables l.row l.name
