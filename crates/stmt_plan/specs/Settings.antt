-- What an UPDATE sets: MySQL Reference Manual, "UPDATE Statement".
use Rattle.std.specs.Prelude.{ℕ, ◌==◌, Bool, List, [], ◌∷◌, ◌++◌, Option, Some, None, map, slice_get, option_and_then}
use Rattle.std.specs.List.{flat_map, list_all, list_any}
use Rattle.std.specs.Option.{option_map, option_or}
use Rattle.std.specs.Result.{result_err}
use Rattle.sql_values.specs.declared.literal.Literal.{Literal as SqlLiteral}
use Rattle.sql_values.specs.declared.storage.StoreFault.{StoreFault}
use Rattle.sql_values.specs.declared.storage.StoreFault.TheVariants as store
use Rattle.sql_values.specs.declared.table.ColumnDef.{ColumnDef}
use Rattle.sql_values.specs.declared.table.TableDef.{TableDef}
use Rattle.sql_values.specs.declared.tree.ColumnName.{ColumnName}
use Rattle.sql_values.specs.declared.tree.Expr.{Expr, Expr-F}
use Rattle.sql_values.specs.declared.tree.Expr.TheFolds.{fold-Expr}
use Rattle.sql_values.specs.declared.tree.Expr.TheOpen.{Literal}
use Rattle.sql_values.specs.Checks.{expr_columns, expr_kind}
use Rattle.sql_values.specs.Kinds.{are_comparable}
use Rattle.sql_values.specs.Storing.{stored}
use Rattle.sql_text.specs.declared.statement.Assignment.{Assignment}
use Rattle.sql_text.specs.declared.statement.Update.{Update}
use Rattle.stmt_plan.specs.declared.fault.StmtFault.{StmtFault}
use Rattle.stmt_plan.specs.declared.fault.StmtFault.TheVariants.{IsNull, TypeMismatch}
use Rattle.stmt_plan.specs.declared.planned.SetColumn.{SetColumn}
use Rattle.stmt_plan.specs.Selects.{place_of, where_columns}

abbrev pub lone_layer : Expr-F (Option SqlLiteral) (Option SqlLiteral) → Option SqlLiteral
lone_layer (Literal l) = Some l
lone_layer _ = None

-- the literal that stands alone
abbrev pub lone_literal : Expr → Option SqlLiteral
lone_literal = fold-Expr (Option SqlLiteral) (Option SqlLiteral) lone_layer (λ part. None)

-- the column of an assignment, which stands without its table
abbrev pub name_set : Assignment → ColumnName
name_set a = record { table = None; column = a.column }

-- the columns that assignments name, in the order of the text: each its own, and then those of its expression
abbrev pub assigned_columns : List Assignment → List ColumnName
assigned_columns sets = flat_map (λ (a : Assignment). name_set a ∷ expr_columns a.value) sets

-- the columns that the statement names: those of its assignments, then those of WHERE
abbrev pub update_columns : Update → List ColumnName
update_columns update = assigned_columns update.sets ++ where_columns update.cond

-- what an assignment sets: the place of its column, to what its expression is
abbrev pub setting : TableDef → Assignment → SetColumn
setting table a = record { column = place_of table (name_set a); value = a.value }

abbrev pub settings : TableDef → List Assignment → List SetColumn
settings table sets = map (setting table) sets

-- the key column is set
abbrev pub sets_key : TableDef → List SetColumn → Bool
sets_key table sets = list_any (λ (s : SetColumn). s.column == table.key) sets

-- why a literal that stands alone is refused before the statement runs: NULL, or of another type. That it is out of range or too long is told of a row
abbrev pub told_before_rows : List ℕ → StoreFault → Option StmtFault
told_before_rows column store.IsNull = Some (IsNull column)
told_before_rows column store.TypeMismatch = Some TypeMismatch
told_before_rows column _ = None

abbrev pub literal_fault : ColumnDef → SqlLiteral → Option StmtFault
literal_fault column l = option_and_then (told_before_rows column.name) (result_err (stored l column.kind))

abbrev pub set_fault : TableDef → SetColumn → Option StmtFault
set_fault table s = option_and_then (λ (column : ColumnDef). option_and_then (literal_fault column) (lone_literal s.value)) (slice_get table.columns s.column)

-- the first of the literals that stand alone that is refused
abbrev pub sets_fault : TableDef → List SetColumn → Option StmtFault
sets_fault table [] = None
sets_fault table (s ∷ sets) = option_or (set_fault table s) (sets_fault table sets)

-- the expression has the type of its column: both are numbers, or both are texts
abbrev pub fits_column : TableDef → SetColumn → Bool
fits_column table s = are_comparable (expr_kind (table ∷ []) s.value) (option_map (λ (column : ColumnDef). column.kind) (slice_get table.columns s.column))

abbrev pub sets_fit : TableDef → List SetColumn → Bool
sets_fit table sets = list_all (fits_column table) sets
