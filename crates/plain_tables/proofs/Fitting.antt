-- The rows that an UPDATE makes fit the columns of their table.
use Rattle.std.proofs.Common.{◌≡◌, ℕ, zero, suc, ◌==◌, Bool, true, false, List, [], ◌∷◌, Option, Some, None, Result, Ok, Err, refl, sym, ◌∙◌, ap, subst, cond, length}
use Rattle.std.specs.Prelude.{slice_get}
use Rattle.std.specs.List.{list_all, zip}
use Rattle.std.specs.Option.{option_map_or}
use Rattle.std.specs.Result.{is_ok, result_err}
use Rattle.std.proofs.lemmas.Bool.{and_parts, and_from}
use Rattle.sql_values.specs.declared.literal.Literal.{Literal}
use Rattle.sql_values.specs.declared.literal.Literal.TheVariants as literal
use Rattle.sql_values.specs.declared.storage.StoreFault.{StoreFault}
use Rattle.sql_values.specs.declared.storage.StoreFault.TheVariants as store
use Rattle.sql_values.specs.declared.table.ColumnDef.{ColumnDef}
use Rattle.sql_values.specs.declared.table.Kind.{Kind}
use Rattle.sql_values.specs.declared.table.Kind.TheVariants.{BigInt, VarChar}
use Rattle.sql_values.specs.declared.table.TableDef.{TableDef}
use Rattle.sql_values.specs.declared.value.Value.{Value}
use Rattle.sql_values.specs.declared.value.Value.TheVariants as value
use Rattle.sql_values.specs.Conditions.{literal_of}
use Rattle.sql_values.specs.Expressions.{is_big_int}
use Rattle.sql_values.specs.Storing.{stored, is_within}
use Rattle.stmt_plan.specs.declared.fault.RowFault.TheVariants.{Arithmetic}
use Rattle.stmt_plan.specs.declared.planned.SetColumn.{SetColumn}
use Rattle.plain_tables.specs.Rows.{Row, can_hold, FitsColumns}
use Rattle.plain_tables.specs.Updates.{map_ok, map_err, fault_in_row, set_to, held_in, with_value, set_one, set_all, UpdatesFitColumns}
use Rattle.plain_tables.proofs.Changed.{same_value, then_ok, mapped_ok, rows_keep}

-- VALUES

-- what is stored may be stored again
stored_by : (b : Bool) (v w : Value) (fault : StoreFault) → cond {A = Result Value StoreFault} b (Ok v) (Err fault) ≡ Ok w → (b ≡ true) × (v ≡ w)
stored_by true v w fault is = (refl, same_value v w is)
stored_by false v w fault is = let no : Some fault ≡ None = ap result_err is in cc

pub stored_again : (l : Literal) (kind : Kind) (v : Value) → stored l kind ≡ Ok v → is_ok (stored (literal_of v) kind) ≡ true
stored_again literal.Null kind v is = let no : Some store.IsNull ≡ None = ap result_err is in cc
stored_again (literal.Number z) BigInt v is =
    let both = stored_by (is_big_int z) (value.Number z) v store.OutOfRange is in
    subst (λ w. is_ok (stored (literal_of w) BigInt) ≡ true) both.1 (ap (λ b. is_ok (cond {A = Result Value StoreFault} b (Ok (value.Number z)) (Err store.OutOfRange))) both.0)
stored_again (literal.Number z) (VarChar most) v is = let no : Some store.TypeMismatch ≡ None = ap result_err is in cc
stored_again (literal.Text t) BigInt v is = let no : Some store.TypeMismatch ≡ None = ap result_err is in cc
stored_again (literal.Text t) (VarChar most) v is =
    let both = stored_by (is_within most t) (value.Text t) v store.TooLong is in
    subst (λ w. is_ok (stored (literal_of w) (VarChar most)) ≡ true) both.1 (ap (λ b. is_ok (cond {A = Result Value StoreFault} b (Ok (value.Text t)) (Err store.TooLong))) both.0)

without_fault : {T E F : Type 0} (r : Result T E) (f : E → F) (x : T) → map_err f r ≡ Ok x → r ≡ Ok x
without_fault (Ok y) f x is = ap (λ z. Ok z) (same_value y x is)
without_fault (Err e) f x is = let no : Some (f e) ≡ None = ap result_err is in cc

held_fits : (column : ColumnDef) (number : ℕ) (o : Option Literal) (v : Value) → held_in column number o ≡ Ok v → can_hold (column, v) ≡ true
held_fits column number None v is = let no : Some Arithmetic ≡ None = ap result_err is in cc
held_fits column number (Some l) v is = stored_again l column.kind v (without_fault (stored l column.kind) (fault_in_row column.name number) v is)

-- ONE ROW

same_length : (row : Row) (place : ℕ) (v : Value) → length (with_value row place v) ≡ length row
same_length [] place v = refl
same_length (old ∷ row) zero v = refl
same_length (old ∷ row) (suc place) v = ap (λ (n : ℕ). suc n) (same_length row place v)

-- a value that its column can hold
value_fits : (columns : List ColumnDef) (row : Row) (place : ℕ) (column : ColumnDef) (v : Value) → slice_get columns place ≡ Some column → can_hold (column, v) ≡ true
    → list_all can_hold (zip columns row) ≡ true → list_all can_hold (zip columns (with_value row place v)) ≡ true
value_fits [] row place column v at holds all = refl
value_fits (c ∷ columns) [] place column v at holds all = refl
value_fits (c ∷ columns) (old ∷ row) zero column v at holds all =
    let same : c ≡ column = let there : Some c ≡ Some column = at in cc in
    let parts = and_parts (can_hold (c, old)) (list_all can_hold (zip columns row)) all in
    and_from _ _ (subst (λ (d : ColumnDef). can_hold (d, v) ≡ true) (sym same) holds) parts.1
value_fits (c ∷ columns) (old ∷ row) (suc place) column v at holds all =
    let parts = and_parts (can_hold (c, old)) (list_all can_hold (zip columns row)) all in
    and_from _ _ parts.0 (value_fits columns row place column v at holds parts.1)

-- by cases on the column
set_fits : (def : TableDef) (number : ℕ) (s : SetColumn) (row new : Row) (o : Option ColumnDef) → slice_get def.columns s.column ≡ o
    → option_map_or (λ (column : ColumnDef). map_ok (with_value row s.column) (held_in column number (set_to def row s.value))) o (Ok row) ≡ Ok new
    → FitsColumns def row → FitsColumns def new
set_fits def number s row new None at is fit = subst (FitsColumns def) (same_value row new is) fit
set_fits def number s row new (Some column) at is fit =
    let held = mapped_ok (held_in column number (set_to def row s.value)) (with_value row s.column) new is in
    let parts = and_parts (length row == length def.columns) (list_all can_hold (zip def.columns row)) fit in
    subst (FitsColumns def) held.2
    (and_from _ _ (ap (λ (n : ℕ). n == length def.columns) (same_length row s.column held.0) ∙ parts.0)
    (value_fits def.columns row s.column column held.0 at (held_fits column number (set_to def row s.value) held.0 held.1) parts.1))

all_fit : (def : TableDef) (sets : List SetColumn) (number : ℕ) (row new : Row) → set_all def number sets row ≡ Ok new → FitsColumns def row → FitsColumns def new
unfolding set_all
all_fit def [] number row new is fit = subst (FitsColumns def) (same_value row new is) fit
all_fit def (s ∷ sets) number row new is fit =
    let step = then_ok (set_one def number s row) (set_all def number sets) new is in
    all_fit def sets number step.0 new step.2 (set_fits def number s row step.0 (slice_get def.columns s.column) refl step.1 fit)

-- ROWS

pub updates_fit_columns : UpdatesFitColumns
updates_fit_columns def sets number olds news is all = rows_keep (FitsColumns def) def sets (all_fit def sets) number olds news is all
