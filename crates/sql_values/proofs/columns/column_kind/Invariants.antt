use Rattle.std.proofs.Common.{◌≡◌, drop}
use Rattle.sql_values.specs.Columns.{column_kind}
use Rattle.sql_values.proofs.columns.column_kind.Given as goal

abbrev pub invariant-loop-table : goal.invariant-loop-table
invariant-loop-table l = column_kind (drop l.table-index l.tables) l.name ≡ column_kind l.tables l.name
