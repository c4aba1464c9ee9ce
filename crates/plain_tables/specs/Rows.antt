-- A plain table: rows in the order of their keys.
use Rattle.std.specs.Prelude.{◌≡◌, ◌==◌, ℤ, Bool, true, ◌&&◌, List, [], ◌∷◌, Option, Some, length, slice_get, FitsSigned}
use Rattle.std.specs.Int.{w64}
use Rattle.std.specs.List.{filter, list_all, zip}
use Rattle.std.specs.List.Sorted.{IsStrictlySortedBy}
use Rattle.std.specs.Option.{option_map_or}
use Rattle.std.specs.Ordering.{int_cmp}
use Rattle.std.specs.Result.{is_ok}
use Rattle.std.specs.declared.cmp.Ordering.{Ordering}
use Rattle.sql_values.specs.declared.table.ColumnDef.{ColumnDef}
use Rattle.sql_values.specs.declared.table.TableDef.{TableDef}
use Rattle.sql_values.specs.declared.tree.Cond.{Cond}
use Rattle.sql_values.specs.declared.value.Value.{Value}
use Rattle.sql_values.specs.declared.value.Value.TheVariants as value
use Rattle.sql_values.specs.Conditions.{cond_holds, literal_of}
use Rattle.sql_values.specs.Storing.{stored}
use Rattle.stmt_plan.specs.Inserts.{row_key}

abbrev pub Row : Type 0
Row = List Value

-- what stands in the key column of a row
abbrev pub key_of : TableDef → Row → ℤ
key_of def row = row_key def.key row

-- the key column of the row has a BIGINT
pub record HasKey (def : TableDef) (row : Row) : Type 0 where
  pub stands : slice_get row def.key ≡ Some (value.Number (key_of def row))
  pub fits : FitsSigned w64 (key_of def row)

-- a column of this kind can hold the value
abbrev pub can_hold : ColumnDef × Value → Bool
can_hold (column, v) = is_ok (stored (literal_of v) column.kind)

-- the row has a value for each column of the table, which the column can hold
abbrev pub fits_columns : TableDef → Row → Bool
fits_columns def row = (length row == length def.columns) && list_all can_hold (zip def.columns row)

abbrev pub FitsColumns : TableDef → Row → Type 0
FitsColumns def row = fits_columns def row ≡ true

-- the order of two rows by their keys
abbrev pub by_key : TableDef → Row → Row → Ordering
by_key def a b = int_cmp (key_of def a) (key_of def b)

-- each row's key is below those of the rows after it
abbrev pub Rises : TableDef → List Row → Type 0
Rises def = IsStrictlySortedBy (by_key def)

-- the condition, where there is one, holds on the row
abbrev pub holds_on : TableDef → Option Cond → Row → Bool
holds_on def cond row = option_map_or (cond_holds (def ∷ []) row) cond true

-- the rows on which the condition holds
abbrev pub kept : TableDef → Option Cond → List Row → List Row
kept def cond rows = filter (holds_on def cond) rows
