-- The faults of statements in the order in which the code finds them.
use Rattle.std.specs.Prelude.{Bool, true, false, ◌&&◌, [], ◌∷◌, List, Option, Some, None, option_and_then, if◌then◌else◌}
use Rattle.std.specs.List.{list_all}
use Rattle.std.specs.Option.{option_map, option_map_or, option_or}
use Rattle.std.specs.Result.{result_err}
use Rattle.sql_values.specs.declared.table.Kind.{Kind}
use Rattle.sql_values.specs.declared.table.Kind.TheVariants.{VarChar}
use Rattle.sql_values.specs.declared.table.TableDef.{TableDef}
use Rattle.sql_values.specs.declared.tree.ColumnName.{ColumnName}
use Rattle.sql_values.specs.declared.tree.Cond.{Cond}
use Rattle.sql_values.specs.Checks.{first_column, is_unknown, checked_cond, cond_fits}
use Rattle.sql_text.specs.declared.statement.Insert.{Insert}
use Rattle.sql_text.specs.declared.statement.Select.{Select}
use Rattle.sql_text.specs.declared.statement.SelectItems.{SelectItems}
use Rattle.sql_text.specs.declared.statement.Update.{Update}
use Rattle.front_rows.specs.declared.aggregate.AggFun.{AggFun}
use Rattle.front_rows.specs.declared.aggregate.AggFun.TheVariants as fun
use Rattle.stmt_plan.specs.declared.fault.StmtFault.{StmtFault}
use Rattle.stmt_plan.specs.declared.fault.StmtFault.TheVariants.{NoColumn, KeyChanged, TypeMismatch}
use Rattle.stmt_plan.specs.declared.planned.CellColumn.{CellColumn}
use Rattle.stmt_plan.specs.Faults.{fault_of_check}
use Rattle.stmt_plan.specs.Inserts.{targets, unknown_target, count_fault, rows_fault}
use Rattle.stmt_plan.specs.Selects.{known_as, item_columns, where_columns, order_columns, calls_fit}
use Rattle.stmt_plan.specs.Settings.{assigned_columns, settings, sets_key, sets_fault, sets_fit}

-- the first of these columns that the table, under its own name, doesn't have
abbrev pub unknown_fault : TableDef → List ColumnName → Option StmtFault
unknown_fault table names = option_map NoColumn (first_column (is_unknown (table ∷ [])) names)

-- the first item whose column the table doesn't have
abbrev pub items_fault : TableDef → SelectItems → Option StmtFault
items_fault table items = unknown_fault table (item_columns items)

-- what a condition is refused for
abbrev pub cond_fault : TableDef → Cond → Option StmtFault
cond_fault table cond = option_map fault_of_check (result_err (checked_cond cond (table ∷ [])))

abbrev pub where_fault : TableDef → Option Cond → Option StmtFault
where_fault table cond = option_and_then (cond_fault table) cond

-- a condition, where there is one, on values that can be compared
abbrev pub where_fits : TableDef → Option Cond → Bool
where_fits table cond = option_map_or (cond_fits (table ∷ [])) cond true

-- what comes behind the items: the columns of WHERE and of ORDER BY, and then types; it is known of the items whether they go with their columns' types
abbrev pub rest_fault : TableDef → Select → Bool → Option StmtFault
rest_fault table select fit =
    option_or (unknown_fault table (where_columns select.cond))
    (option_or (unknown_fault table (order_columns select.order))
    (if fit && where_fits table select.cond then None else Some TypeMismatch))

-- why a SELECT can't be planned, by its table under the name by which it knows that
abbrev pub chosen_by : TableDef → Select → Option StmtFault
chosen_by table select = option_or (items_fault table select.items) (rest_fault table select (calls_fit table select.items))

abbrev pub chosen_fault : TableDef → Select → Option StmtFault
chosen_fault table select = chosen_by (known_as table select.tab) select

-- the same of the answer's columns, where all their names are known
abbrev pub sums_number : AggFun → Kind → Bool
sums_number fun.Sum (VarChar most) = false
sums_number _ _ = true

abbrev pub column_fits : CellColumn → Bool
column_fits column = sums_number column.aggregate.fun column.aggregate.kind

abbrev pub columns_fit : List CellColumn → Bool
columns_fit columns = list_all column_fits columns

-- why the rows of an INSERT can't be stored
abbrev pub stored_fault : TableDef → Insert → Option StmtFault
stored_fault table insert =
    option_or (option_map NoColumn (unknown_target table.columns insert.columns))
    (option_or (count_fault table.columns (targets table.columns insert.columns) insert.rows) (rows_fault (targets table.columns insert.columns) 1 insert.rows))

-- why an UPDATE can't be planned
abbrev pub update_fault : TableDef → Update → Option StmtFault
update_fault table update =
    option_or (unknown_fault table (assigned_columns update.sets))
    (option_or (unknown_fault table (where_columns update.cond))
    (option_or (if sets_key table (settings table update.sets) then Some KeyChanged else None)
    (option_or (sets_fault table (settings table update.sets))
    (if sets_fit table (settings table update.sets) && where_fits table update.cond then None else Some TypeMismatch))))
