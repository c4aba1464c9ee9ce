-- What an UPDATE makes of rows: MySQL Reference Manual, "UPDATE Statement". Columns are set one after the other, and later ones see earlier ones.
use Rattle.std.specs.Prelude.{◌≡◌, ℕ, zero, suc, ◌+◌, Bool, false, not, List, [], ◌∷◌, Option, Some, None, Result, Ok, Err, map, nat_eq, slice_get}
use Rattle.std.specs.List.{AllByRecursion, filter, zip}
use Rattle.std.specs.Option.{option_map, option_map_or, option_or}
use Rattle.std.specs.Ordering.{int_eq}
use Rattle.std.specs.Cmp.Lexicographic.{pointwise}
use Rattle.sql_values.specs.declared.literal.Literal.{Literal}
use Rattle.sql_values.specs.declared.storage.StoreFault.{StoreFault}
use Rattle.sql_values.specs.declared.storage.StoreFault.TheVariants as store
use Rattle.sql_values.specs.declared.table.ColumnDef.{ColumnDef}
use Rattle.sql_values.specs.declared.table.TableDef.{TableDef}
use Rattle.sql_values.specs.declared.tree.Expr.{Expr}
use Rattle.sql_values.specs.declared.value.Value.{Value}
use Rattle.sql_values.specs.declared.value.Value.TheVariants.{Number, Text}
use Rattle.sql_values.specs.Conditions.{literal_of}
use Rattle.sql_values.specs.Expressions.{expr_value}
use Rattle.sql_values.specs.Storing.{stored}
use Rattle.part_rules.specs.declared.rule.Rule.{Rule}
use Rattle.stmt_plan.specs.declared.fault.RowFault.{RowFault}
use Rattle.stmt_plan.specs.declared.fault.RowFault.TheVariants.{Arithmetic, OutOfRange, TooLong}
use Rattle.stmt_plan.specs.declared.planned.SetColumn.{SetColumn}
use Rattle.stmt_plan.specs.Settings.{lone_literal, sets_key}
use Rattle.plain_tables.specs.Inserts.{AreRows}
use Rattle.plain_tables.specs.Rows.{Row, key_of, FitsColumns}

-- RESULTS

abbrev pub map_ok : {T U E : Type 0} → (T → U) → Result T E → Result U E
map_ok f (Ok x) = Ok (f x)
map_ok f (Err e) = Err e

abbrev pub map_err : {T E F : Type 0} → (E → F) → Result T E → Result T F
map_err f (Ok x) = Ok x
map_err f (Err e) = Err (f e)

abbrev pub and_then : {T U E : Type 0} → Result T E → (T → Result U E) → Result U E
and_then (Ok x) f = f x
and_then (Err e) f = Err e

-- ROWS AS THEY ARE SET

-- why a column can't hold a literal in the row of this number; NULL and values of another type, which no plan has, count as out of range
abbrev pub fault_in_row : List ℕ → ℕ → StoreFault → RowFault
fault_in_row column number store.TooLong = TooLong column number
fault_in_row column number _ = OutOfRange column number

-- what a column is set to: the literal that stands alone, or what the expression is on the row; none where that can't be counted
abbrev pub set_to : TableDef → Row → Expr → Option Literal
set_to def row value = option_or (lone_literal value) (option_map literal_of (expr_value def row value))

-- what the column holds of it
abbrev pub held_in : ColumnDef → ℕ → Option Literal → Result Value RowFault
held_in column number None = Err Arithmetic
held_in column number (Some l) = map_err (fault_in_row column.name number) (stored l column.kind)

-- the row with this value in that place
abbrev pub with_value : Row → ℕ → Value → Row
with_value [] place value = []
with_value (old ∷ row) zero value = value ∷ row
with_value (old ∷ row) (suc place) value = old ∷ with_value row place value

-- the row of this number with one column set
abbrev pub set_one : TableDef → ℕ → SetColumn → Row → Result Row RowFault
set_one def number s row =
    option_map_or (λ (column : ColumnDef). map_ok (with_value row s.column) (held_in column number (set_to def row s.value))) (slice_get def.columns s.column) (Ok row)

-- with all of them set, from the left, or the first that can't be
unfoldable pub set_all : TableDef → ℕ → List SetColumn → Row → Result Row RowFault
set_all def number [] row = Ok row
set_all def number (s ∷ sets) row = and_then (set_one def number s row) (set_all def number sets)

-- rows, counted from this number on, as they are afterwards, or why the first row that can't be changed can't
unfoldable pub set_rows : TableDef → List SetColumn → ℕ → List Row → Result (List Row) RowFault
set_rows def sets number [] = Ok []
set_rows def sets number (row ∷ rows) = and_then (set_all def number sets row) (λ new. map_ok (λ news. new ∷ news) (set_rows def sets (number + 1) rows))

abbrev pub is_same_value : Value → Value → Bool
is_same_value (Number m) (Number n) = int_eq m n
is_same_value (Text s) (Text t) = pointwise nat_eq s t
is_same_value _ _ = false

-- the rows have the same values
abbrev pub is_same_row : Row → Row → Bool
is_same_row a b = pointwise is_same_value a b

-- the new rows whose values aren't those of the old ones
abbrev pub changed : List Row → List Row → List Row
changed olds news = map (λ (p : Row × Row). p.1) (filter (λ (p : Row × Row). not (is_same_row p.0 p.1)) (zip olds news))

-- rows whose key column isn't set keep their keys
abbrev pub UpdatesKeepKeys : Type 0
UpdatesKeepKeys =
    (def : TableDef) (sets : List SetColumn) (number : ℕ) (olds news : List Row) → sets_key def sets ≡ false → set_rows def sets number olds ≡ Ok news →
    map (key_of def) news ≡ map (key_of def) olds

-- where the old rows may be put, so may the new ones whose values changed
abbrev pub UpdatesAreRows : Type 0
UpdatesAreRows =
    (def : TableDef) (rule : Rule) (sets : List SetColumn) (number : ℕ) (olds news : List Row) → sets_key def sets ≡ false →
    set_rows def sets number olds ≡ Ok news → AreRows def rule olds → AreRows def rule (changed olds news)

-- where the old rows fit the table's columns, so do the new ones
abbrev pub UpdatesFitColumns : Type 0
UpdatesFitColumns =
    (def : TableDef) (sets : List SetColumn) (number : ℕ) (olds news : List Row) → set_rows def sets number olds ≡ Ok news →
    AllByRecursion (FitsColumns def) olds → AllByRecursion (FitsColumns def) news
