-- The key of a row.
use Rattle.std.proofs.Common.{◌≡◌, ℕ, zero, suc, ◌==◌, ℤ, pos, negsuc, Bool, true, false, List, [], ◌∷◌, Some, Result, Ok, Err, refl, arith, cond, length, w64}
use Rattle.std.specs.Prelude.{FitsSigned, slice_get}
use Rattle.std.specs.List.{list_all, zip}
use Rattle.std.specs.Option.{option_map_or}
use Rattle.std.specs.Result.{is_ok}
use Rattle.std.proofs.lemmas.Bool.{false≢true}
use Rattle.std.proofs.lemmas.Bool.Decides.{nat_tests}
use Rattle.std.proofs.lemmas.Int.{ints}
use Rattle.sql_values.specs.declared.storage.StoreFault.{StoreFault}
use Rattle.sql_values.specs.declared.storage.StoreFault.TheVariants.{OutOfRange}
use Rattle.sql_values.specs.declared.table.ColumnDef.{ColumnDef}
use Rattle.sql_values.specs.declared.table.Kind.{Kind}
use Rattle.sql_values.specs.declared.table.Kind.TheVariants.{BigInt, VarChar}
use Rattle.sql_values.specs.declared.value.Value.{Value}
use Rattle.sql_values.specs.declared.value.Value.TheVariants.{Number, Text}
use Rattle.sql_values.specs.Conditions.{literal_of}
use Rattle.sql_values.specs.Expressions.{is_big_int, number_of}
use Rattle.sql_values.specs.Storing.{stored}
use Rattle.stmt_plan.specs.Apart.{has_number_key, is_number_kind}
use Rattle.stmt_plan.specs.Inserts.{row_key}
use Rattle.plain_tables.specs.Rows.{Row, can_hold}
use Rattle.branch_store.specs.Sound.{RowsHaveKeys}
use Rattle.branch_store.proofs.Sounds.{both_of}

in_range : (z : ℤ) → is_big_int z ≡ true → FitsSigned w64 z
in_range (pos n) small = grind (arith, ints, nat_tests)
in_range (negsuc n) small = grind (arith, ints, nat_tests)

stored_by : (z : ℤ) (b : Bool) → is_ok (cond {A = Result Value StoreFault} b (Ok (Number z)) (Err OutOfRange)) ≡ true → b ≡ true
stored_by z true is = refl
stored_by z false is = absurd (false≢true is)

number_of_key : (kind : Kind) (v : Value) → is_ok (stored (literal_of v) kind) ≡ true → is_number_kind kind ≡ true → (Some v ≡ Some (Number (number_of v))) × FitsSigned w64 (number_of v)
number_of_key BigInt (Number n) fit is = (refl, in_range n (stored_by n (is_big_int n) fit))
number_of_key BigInt (Text t) fit is = absurd (false≢true fit)
number_of_key (VarChar most) v fit is = absurd (false≢true is)

key_in : (columns : List ColumnDef) (row : Row) (key : ℕ) → length row ≡ length columns → list_all can_hold (zip columns row) ≡ true → option_map_or (λ (c : ColumnDef). is_number_kind c.kind) (slice_get columns key) false ≡ true
    → (slice_get row key ≡ Some (Number (row_key key row))) × FitsSigned w64 (row_key key row)
key_in [] row key long fit is = absurd (false≢true is)
key_in (c ∷ columns) [] key long fit is = let no : ⊥ = omega arith in absurd no
key_in (c ∷ columns) (v ∷ row) zero long fit is = number_of_key c.kind v (both_of (can_hold (c, v)) (list_all can_hold (zip columns row)) fit).0 is
key_in (c ∷ columns) (v ∷ row) (suc key) long fit is = key_in columns row key (omega arith) (both_of (can_hold (c, v)) (list_all can_hold (zip columns row)) fit).1 is

same_length : (m n : ℕ) → (m == n) ≡ true → m ≡ n
same_length m n is = grind (arith, nat_tests)

pub rows_have_keys : RowsHaveKeys
rows_have_keys def row is fit =
    let each = both_of (length row == length def.columns) (list_all can_hold (zip def.columns row)) fit in
    let key = key_in def.columns row def.key (same_length (length row) (length def.columns) each.0) each.1 (both_of _ (has_number_key def) is).1 in
    record { stands = key.0; fits = key.1 }
