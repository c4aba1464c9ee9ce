-- What the code looks for in a name of a column.
use Rattle.std.specs.Prelude.{Bool, List}
use Rattle.sql_values.specs.declared.checks.Trouble.{Trouble}
use Rattle.sql_values.specs.declared.checks.Trouble.TheVariants.{Unknown, Ambiguous}
use Rattle.sql_values.specs.declared.table.TableDef.{TableDef}
use Rattle.sql_values.specs.declared.tree.ColumnName.{ColumnName}
use Rattle.sql_values.specs.Checks.{is_unknown, is_ambiguous}

abbrev pub has_trouble : Trouble → List TableDef → ColumnName → Bool
has_trouble Unknown = is_unknown
has_trouble Ambiguous = is_ambiguous
