-- A remote table: its definition, and its rows in the order of their keys.
use Rattle.std.specs.Prelude.{List}
use Rattle.sql_values.specs.declared.table.TableDef.{TableDef}
use Rattle.plain_tables.specs.Rows.{Row}

pub record Table : Type 0 where
  pub def : TableDef
  pub rows : List Row
