-- The columns of tables, and what a statement's name of a column means among them.
use Rattle.std.specs.Prelude.{ℕ, Bool, true, ◌&&◌, List, Option, Some, None, map, nat_eq}
use Rattle.std.specs.List.{flat_map, filter, find, zip}
use Rattle.std.specs.Option.{option_map}
use Rattle.std.specs.Cmp.Lexicographic.{pointwise}
use Rattle.sql_values.specs.declared.table.Kind.{Kind}
use Rattle.sql_values.specs.declared.table.ColumnDef.{ColumnDef}
use Rattle.sql_values.specs.declared.table.TableDef.{TableDef}
use Rattle.sql_values.specs.declared.tree.ColumnName.{ColumnName}
use Rattle.sql_values.specs.declared.value.Value.{Value}

-- the columns of these tables, each beside its table's name, in the order in which a row of all of them has its values
abbrev pub columns_of : List TableDef → List (List ℕ × ColumnDef)
columns_of = flat_map (λ (table : TableDef). map (λ (column : ColumnDef). (table.name, column)) table.columns)

-- a name's qualifier, where it has one, is this table's name
abbrev pub may_qualify : Option (List ℕ) → List ℕ → Bool
may_qualify None table = true
may_qualify (Some qualifier) table = pointwise nat_eq qualifier table

-- the name may mean this column of this table
abbrev pub may_mean : ColumnName → List ℕ × ColumnDef → Bool
may_mean name (table, column) = may_qualify name.table table && pointwise nat_eq column.name name.column

-- all columns that the name may mean
unfoldable pub columns_meant : ColumnName → List TableDef → List (List ℕ × ColumnDef)
columns_meant name tables = filter (may_mean name) (columns_of tables)

-- the kind of the column that the name means
unfoldable pub column_kind : List TableDef → ColumnName → Option Kind
column_kind tables name = option_map (λ (found : List ℕ × ColumnDef). found.1.kind) (find (may_mean name) (columns_of tables))

-- the value that a row of these tables has in that column
unfoldable pub column_value : List TableDef → List Value → ColumnName → Option Value
column_value tables row name =
    option_map (λ (found : (List ℕ × ColumnDef) × Value). found.1)
    (find (λ (cell : (List ℕ × ColumnDef) × Value). may_mean name cell.0) (zip (columns_of tables) row))
