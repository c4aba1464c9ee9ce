-- A table's columns and its key.
use Rattle.std.specs.Prelude.{ℕ, suc, ◌^◌, Bool, true, false, ◌&&◌, not, List, [], ◌∷◌, Option, Some, None, option_and_then, if◌then◌else◌, nat_lt, nat_eq}
use Rattle.std.specs.List.{list_any}
use Rattle.std.specs.Option.{option_map}
use Rattle.std.specs.Cmp.Lexicographic.{pointwise}
use Rattle.sql_values.specs.declared.table.ColumnDef.{ColumnDef}
use Rattle.sql_values.specs.declared.table.TableDef.{TableDef}
use Rattle.sql_values.specs.declared.table.Kind.{Kind}
use Rattle.sql_values.specs.declared.table.Kind.TheVariants.{BigInt, VarChar}
use Rattle.conf_file.specs.declared.entries.TableEntry.{TableEntry}
use Rattle.conf_file.specs.Columns.{column_of}
use Rattle.catalog.specs.Searches.{each, name_of}

-- the column that a text writes
unfoldable pub column_text : List ℕ → Option ColumnDef
column_text text = column_of text

abbrev pub columns_of : TableEntry → Option (List ColumnDef)
columns_of table = each column_text table.columns

abbrev pub is_named : List ℕ → ColumnDef → Bool
is_named name column = pointwise nat_eq column.name name

abbrev pub is_big_int : Kind → Bool
is_big_int BigInt = true
is_big_int (VarChar most) = false

-- the place of the only column of this name, where it is a BIGINT
abbrev pub key_from : List ℕ → List ColumnDef → Option ℕ
key_from name [] = None
key_from name (c ∷ cs) =
    if is_named name c then (if is_big_int c.kind && not (list_any (is_named name) cs) then Some 0 else None)
    else option_map suc (key_from name cs)

-- a place that can be numbered
abbrev pub numbered : ℕ → Option ℕ
numbered place = if nat_lt place (2 ^ 32) then Some place else None

abbrev pub key_place : List ℕ → List ColumnDef → Option ℕ
key_place name columns = option_and_then numbered (key_from name columns)

abbrev pub keyed : List ℕ → List ℕ → List ColumnDef → Option TableDef
keyed name key columns = option_map (λ (place : ℕ). record { name = name; columns = columns; key = place }) (key_place key columns)

abbrev pub defined : TableEntry → List ℕ → Option TableDef
defined table name = option_and_then (keyed name table.key) (columns_of table)

-- the definition that an entry gives
unfoldable pub def_of : TableEntry → Option TableDef
def_of table = option_and_then (defined table) (name_of table.name)

-- the place of the key, where the columns are read
abbrev pub key_of : TableEntry → Option ℕ
key_of table = option_and_then (key_place table.key) (columns_of table)
