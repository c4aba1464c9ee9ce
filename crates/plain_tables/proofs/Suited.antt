-- Aggregates of known columns may be counted over rows of their table, which are no more than its keys.
use Rattle.std.proofs.Common.{◌≡◌, ℕ, suc, zero, ◌==◌, ◌+◌, ◌^◌, ◌<◌, ◌≤◌, ℤ, pos, negsuc, ◌+ℤ◌, ◌≤ℤ◌, ◌<ℤ◌, Bool, true, false, ◌&&◌, not, cond, List, [], ◌∷◌, find, map, length, refl, ap, sym, subst, ◌∙◌, arith, Option, Some, None, Result, Ok, Err}
use Rattle.std.specs.Prelude.{FitsSigned, nat_lt, slice_get}
use Rattle.std.specs.Int.{w64}
use Rattle.std.specs.List.{AllByRecursion, list_all, zip}
use Rattle.std.specs.List.Sorted.{IsStrictlySortedBy}
use Rattle.std.specs.Option.{option_map, option_map_or}
use Rattle.std.specs.Result.{is_ok}
use Rattle.std.specs.Cmp.{int_ranked}
use Rattle.std.specs.declared.cmp.Ordering.TheVariants.{Less}
use Rattle.std.proofs.lemmas.Bool.{and_from, and_parts, false≢true}
use Rattle.std.proofs.lemmas.Bool.Decides.{nat_tests}
use Rattle.std.proofs.lemmas.Int.{ints}
use Rattle.sql_values.specs.declared.storage.StoreFault.{StoreFault}
use Rattle.sql_values.specs.declared.storage.StoreFault.TheVariants.{OutOfRange, TooLong}
use Rattle.sql_values.specs.declared.table.ColumnDef.{ColumnDef}
use Rattle.sql_values.specs.declared.table.Kind.{Kind}
use Rattle.sql_values.specs.declared.table.Kind.TheVariants.{BigInt, VarChar}
use Rattle.sql_values.specs.declared.table.TableDef.{TableDef}
use Rattle.sql_values.specs.declared.tree.ColumnName.{ColumnName}
use Rattle.sql_values.specs.declared.value.Value.{Value}
use Rattle.sql_values.specs.declared.value.Value.TheVariants.{Number, Text}
use Rattle.sql_values.specs.Checks.{is_unknown}
use Rattle.sql_values.specs.Columns.{column_kind}
use Rattle.sql_values.specs.Conditions.{literal_of}
use Rattle.sql_values.specs.Kinds.{are_comparable, is_alike}
use Rattle.sql_values.specs.Expressions.{is_big_int}
use Rattle.sql_values.specs.Laws.{is_of}
use Rattle.sql_values.specs.Storing.{is_within, stored}
use Rattle.sql_text.specs.declared.link.AggregateCall.{AggregateCall}
use Rattle.sql_text.specs.declared.link.AggregateCall.TheVariants as call
use Rattle.front_rows.specs.declared.aggregate.AggFun.{AggFun}
use Rattle.front_rows.specs.declared.aggregate.AggFun.TheVariants as fun
use Rattle.front_rows.specs.Laws.{AreSuited, CanStand, can_stand, gives_kind, looks_at, suits}
use Rattle.stmt_plan.specs.Selects.{aggregate_of, call_columns, call_fits, kind_at, of_column, place_of}
use Rattle.plain_tables.specs.Rows.{Row, FitsColumns, HasKey, Rises, can_hold, key_of}
use Rattle.plain_tables.proofs.Naming.{column_at, kind_is, known_column, means}

-- VALUES

value_of : (kind : Kind) (v : Value) → is_ok (stored (literal_of v) kind) ≡ true → is_of kind v ≡ true
value_of BigInt (Number n) fit = refl
value_of BigInt (Text t) fit = absurd (false≢true fit)
value_of (VarChar most) (Number n) fit = absurd (false≢true fit)
value_of (VarChar most) (Text t) fit = refl

value_in : (columns : List ColumnDef) (row : Row) (place : ℕ) (column : ColumnDef) → length row ≡ length columns → list_all can_hold (zip columns row) ≡ true → slice_get columns place ≡ Some column
    → option_map_or (is_of column.kind) (slice_get row place) false ≡ true
value_in [] row place column long fit at = let no : ⊥ = cc in absurd no
value_in (c ∷ columns) [] place column long fit at = let no : ⊥ = omega arith in absurd no
value_in (c ∷ columns) (v ∷ row) zero column long fit at =
    let same : c ≡ column = cc in
    subst (λ (d : ColumnDef). is_of d.kind v ≡ true) same (value_of c.kind v (and_parts (can_hold (c, v)) (list_all can_hold (zip columns row)) fit).0)
value_in (c ∷ columns) (v ∷ row) (suc place) column long fit at = value_in columns row place column (omega arith) (and_parts (can_hold (c, v)) (list_all can_hold (zip columns row)) fit).1 at

same_length : (m n : ℕ) → (m == n) ≡ true → m ≡ n
same_length m n is = grind (arith, nat_tests)

has_value : (def : TableDef) (place : ℕ) (column : ColumnDef) (row : Row) → slice_get def.columns place ≡ Some column → FitsColumns def row → option_map_or (is_of column.kind) (slice_get row place) false ≡ true
has_value def place column row at fit =
    let each = and_parts (length row == length def.columns) (list_all can_hold (zip def.columns row)) fit in
    value_in def.columns row place column (same_length (length row) (length def.columns) each.0) each.1 at

-- what is stored under a condition met it
passed : {X E : Type 0} (b : Bool) (x : X) (e : E) → is_ok (cond {A = Result X E} b (Ok x) (Err e)) ≡ true → b ≡ true
passed true x e is = refl
passed false x e is = absurd (false≢true is)

value_stands : (kind : Kind) (v : Value) → is_ok (stored (literal_of v) kind) ≡ true → can_stand v ≡ true
value_stands BigInt (Number n) fit = passed (is_big_int n) (Number n) OutOfRange fit
value_stands BigInt (Text t) fit = absurd (false≢true fit)
value_stands (VarChar most) (Number n) fit = absurd (false≢true fit)
value_stands (VarChar most) (Text t) fit = (and_parts _ _ (passed (is_within most t) (Text t) TooLong fit)).0

row_stands : (columns : List ColumnDef) (row : Row) → length row ≡ length columns → list_all can_hold (zip columns row) ≡ true → CanStand row
row_stands columns [] long fit = refl
row_stands [] (v ∷ row) long fit = let no : ⊥ = omega arith in absurd no
row_stands (c ∷ columns) (v ∷ row) long fit =
    let each = and_parts (can_hold (c, v)) (list_all can_hold (zip columns row)) fit in
    and_from _ _ (value_stands c.kind v each.0) (row_stands columns row (omega arith) each.1)

-- the values of rows that fit can stand in columns
pub rows_stand : (def : TableDef) (rows : List Row) → AllByRecursion (FitsColumns def) rows → AllByRecursion CanStand rows
rows_stand def [] fit = tt
rows_stand def (row ∷ rows) fit =
    let each = and_parts (length row == length def.columns) (list_all can_hold (zip def.columns row)) fit.0 in
    (row_stands def.columns row (same_length (length row) (length def.columns) each.0) each.1, rows_stand def rows fit.1)

-- AGGREGATES

-- the column that a call names is one of the table, and a sum is one of numbers
abbrev pub is_meant : TableDef → AggregateCall → Bool
is_meant def c = list_all (λ name. not (is_unknown (def ∷ []) name)) (call_columns c) && call_fits def c

abbrev pub IsMeant : TableDef → AggregateCall → Type 0
IsMeant def c = is_meant def c ≡ true

looked_at : (f : AggFun) (kind : Kind) (value : Option Value) → option_map_or (is_of kind) value false ≡ true → looks_at f kind value ≡ true
looked_at fun.Count kind value is = refl
looked_at fun.Sum kind value is = is
looked_at fun.Min kind value is = is
looked_at fun.Max kind value is = is

all_looked_at : (f : AggFun) (def : TableDef) (place : ℕ) (column : ColumnDef) (rows : List Row) → slice_get def.columns place ≡ Some column → AllByRecursion (FitsColumns def) rows
    → list_all (λ (row : Row). looks_at f column.kind (slice_get row place)) rows ≡ true
all_looked_at f def place column [] at fit = refl
all_looked_at f def place column (row ∷ rows) at fit =
    and_from _ _ (looked_at f column.kind (slice_get row place) (has_value def place column row at fit.0)) (all_looked_at f def place column rows at fit.1)

column_suits : (f : AggFun) (def : TableDef) (name : ColumnName) (column : ColumnDef) (rows : List Row) → find (means def name) def.columns ≡ Some column → gives_kind f column.kind ≡ true
    → AllByRecursion (FitsColumns def) rows → suits rows (of_column def f name) ≡ true
column_suits f def name column rows found gives fit =
    let place = place_of def name in
    let at = column_at def name column found in
    let kind : column.kind ≡ kind_at def place = sym (ap (λ (o : Option ColumnDef). option_map_or (λ (c : ColumnDef). c.kind) o BigInt) at) in
    let both = and_from _ _ gives (all_looked_at f def place column rows at fit) in
    subst (λ (k : Kind). (gives_kind f k && list_all (λ (row : Row). looks_at f k (slice_get row place)) rows) ≡ true) kind both

-- a sum that fits is one of numbers
gives_number : (kind : Kind) → is_alike kind BigInt ≡ true → gives_kind fun.Sum kind ≡ true
gives_number BigInt alike = refl
gives_number (VarChar most) alike = absurd (false≢true alike)

sum_is : (def : TableDef) (name : ColumnName) (column : ColumnDef) → find (means def name) def.columns ≡ Some column → call_fits def (call.Sum name) ≡ true → gives_kind fun.Sum column.kind ≡ true
sum_is def name column found fits =
    let kind : column_kind (def ∷ []) name ≡ Some column.kind = kind_is def name ∙ ap (option_map (λ (c : ColumnDef). c.kind)) found in
    gives_number column.kind (ap (λ (k : Option Kind). are_comparable k (Some BigInt)) (sym kind) ∙ fits)

all_pass : (rows : List Row) → list_all (λ (row : Row). true) rows ≡ true
all_pass [] = refl
all_pass (row ∷ rows) = all_pass rows

known : (def : TableDef) (name : ColumnName) (fits : Bool) → ((not (is_unknown (def ∷ []) name) && true) && fits) ≡ true → (is_unknown (def ∷ []) name ≡ false) × (fits ≡ true)
known def name fits is =
    let both = and_parts (not (is_unknown (def ∷ []) name) && true) fits is in
    (not_true (is_unknown (def ∷ []) name) (and_parts (not (is_unknown (def ∷ []) name)) true both.0).0, both.1)
  where
    not_true : (b : Bool) → not b ≡ true → b ≡ false
    not_true true is = absurd (false≢true is)
    not_true false is = refl

call_suits : (def : TableDef) (rows : List Row) (c : AggregateCall) → AllByRecursion (FitsColumns def) rows → IsMeant def c → suits rows (aggregate_of def c) ≡ true
call_suits def rows call.Count fit meant = all_pass rows
call_suits def rows (call.Sum name) fit meant =
    let both = known def name (call_fits def (call.Sum name)) meant in
    let column = known_column def name both.0 in
    column_suits fun.Sum def name column.0 rows column.1 (sum_is def name column.0 column.1 both.1) fit
call_suits def rows (call.Min name) fit meant = let column = known_column def name (known def name true meant).0 in column_suits fun.Min def name column.0 rows column.1 refl fit
call_suits def rows (call.Max name) fit meant = let column = known_column def name (known def name true meant).0 in column_suits fun.Max def name column.0 rows column.1 refl fit

-- calls on known columns may be counted over rows that fit
pub calls_suit : (def : TableDef) (calls : List AggregateCall) (rows : List Row) → AllByRecursion (IsMeant def) calls → AllByRecursion (FitsColumns def) rows → AreSuited (map (aggregate_of def) calls) rows
calls_suit def [] rows meant fit = refl
calls_suit def (c ∷ calls) rows meant fit = and_from _ _ (call_suits def rows c fit meant.0) (calls_suit def calls rows meant.1 fit)

-- HOW MANY ROWS

-- a key, and as many above it, are no more than a BIGINT has
highest : (key : ℤ) → FitsSigned w64 key → key ≤ℤ pos 9223372036854775807
highest (pos n) fits = let small = fits.sfits in omega (arith, ints, small)
highest (negsuc n) fits = omega (arith, ints)

lowest : (key : ℤ) → FitsSigned w64 key → negsuc 9223372036854775807 ≤ℤ key
lowest (pos n) fits = omega (arith, ints)
lowest (negsuc n) fits = let small = fits.sfits in omega (arith, ints, small)

rows_above : (def : TableDef) (row : Row) (rows : List Row) → Rises def (row ∷ rows) → AllByRecursion (HasKey def) (row ∷ rows) → (key_of def row +ℤ pos (length rows)) ≤ℤ pos 9223372036854775807
unfolding IsStrictlySortedBy
rows_above def row [] rises keyed = let high = highest (key_of def row) keyed.0.fits in omega (arith, ints, high)
rows_above def row (next ∷ rows) rises keyed =
    let below : key_of def row <ℤ key_of def next = int_ranked (key_of def row) (key_of def next) Less (sym rises.0.0) in
    let rest = rows_above def next rows rises.1 keyed.1 in
    omega (arith, ints, below, rest)

-- the rows of a table are no more than its keys
pub few_rows : (def : TableDef) (rows : List Row) → Rises def rows → AllByRecursion (HasKey def) rows → length rows ≤ 2 ^ 64
few_rows def [] rises keyed = omega arith
few_rows def (row ∷ rows) rises keyed =
    let low = lowest (key_of def row) keyed.0.fits in
    let high = rows_above def row rows rises keyed in
    omega (arith, ints, low, high)
