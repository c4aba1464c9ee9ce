-- What a SELECT asks and does, beside what it was made of.
use Rattle.std.specs.Prelude.{◌≡◌, Bool, true, false}
use Rattle.std.specs.Option.{option_map}
use Rattle.sql_values.specs.declared.table.TableDef.{TableDef}
use Rattle.sql_text.specs.declared.statement.Select.{Select}
use Rattle.sql_text.specs.declared.statement.SelectItems.{SelectItems}
use Rattle.sql_text.specs.declared.statement.SelectItems.TheVariants as items
use Rattle.sql_text.specs.declared.statement.TableStatement.TheVariants as statement
use Rattle.stmt_plan.specs.declared.choosing.Choice.{Choice}
use Rattle.stmt_plan.specs.Plans.{items_of, limit_of, work_of}
use Rattle.stmt_plan.specs.Selects.{unqualified}

-- the choice is what the statement asks and does
pub record IsChoice (table : TableDef) (select : Select) (choice : Choice) : Type 0 where
  pub items_are : choice.items ≡ items_of (statement.Select select)
  pub cond_is : choice.cond ≡ option_map unqualified select.cond
  pub limit_is : choice.limit ≡ limit_of table (statement.Select select)
  pub work_is : choice.work ≡ work_of table (statement.Select select)

-- columns are asked for, and no aggregates
abbrev pub asks_rows : SelectItems → Bool
asks_rows items.All = true
asks_rows (items.Columns list) = true
asks_rows (items.Aggregates list) = false
