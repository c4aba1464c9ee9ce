-- Names that differ, as a test and as a fact of places.
use Rattle.std.proofs.Common.{◌≡◌, ℕ, suc, zero, ◌<◌, ◌^◌, Bool, true, false, List, [], ◌∷◌, length, find, Option, Some, None, IsSomeAnd, refl, arith, sym, ap, ◌∙◌, inl, inr, subst}
use Rattle.std.specs.Prelude.{slice_get}
use Rattle.std.specs.Option.{is_none, option_map_or}
use Rattle.std.specs.Cmp.Lexicographic.{bytes_decides}
use Rattle.std.proofs.lemmas.Bool.{cases_Bool, both_ways, and_parts}
use Rattle.sql_values.specs.declared.table.ColumnDef.{ColumnDef}
use Rattle.sql_values.specs.declared.table.Kind.{Kind}
use Rattle.sql_values.specs.declared.table.Kind.TheVariants.{BigInt, VarChar}
use Rattle.sql_values.specs.declared.table.TableDef.{TableDef}
use Rattle.stmt_plan.specs.Apart.{are_apart, is_number_kind, has_number_key}
use Rattle.stmt_plan.specs.Inserts.{is_named}
use Rattle.stmt_plan.specs.Plans.{IsTable}

abbrev Apart : List ColumnDef → Type 0
Apart columns = (i j : ℕ) (a b : ColumnDef) → slice_get columns i ≡ Some a → slice_get columns j ≡ Some b → a.name ≡ b.name → i ≡ j

-- where none is found, none has the name
none_named : (name : List ℕ) (columns : List ColumnDef) (j : ℕ) (b : ColumnDef) → is_none (find (is_named name) columns) ≡ true →
    slice_get columns j ≡ Some b → b.name ≡ name → ⊥
none_named name [] j b none at same = let no : None ≡ Some b = at in cc
none_named name (c ∷ columns) zero b none at same =
    let named : is_named name c ≡ true = (bytes_decides c.name name).1 (let is : c ≡ b = cc in ap (λ (d : ColumnDef). d.name) is ∙ same) in
    both_ways (is_none (find (is_named name) (c ∷ columns))) (rw named refl) none
none_named name (c ∷ columns) (suc j) b none at same =
    elim (cases_Bool (is_named name c)) [
      | inl named ↦ both_ways (is_none (find (is_named name) (c ∷ columns))) (rw named refl) none
      | inr other ↦ none_named name columns j b (rw other at none) at same
    ]

apart_from : (columns : List ColumnDef) → are_apart columns ≡ true → Apart columns
apart_from [] test i j a b at there same = let no : None ≡ Some a = at in absurd (cc)
apart_from (c ∷ columns) test zero zero a b at there same = refl
apart_from (c ∷ columns) test zero (suc j) a b at there same =
    let both = and_parts (is_none (find (is_named c.name) columns)) (are_apart columns) test in
    absurd (none_named c.name columns j b both.0 there (let is : c ≡ a = cc in sym same ∙ sym (ap (λ (d : ColumnDef). d.name) is)))
apart_from (c ∷ columns) test (suc i) zero a b at there same =
    let both = and_parts (is_none (find (is_named c.name) columns)) (are_apart columns) test in
    absurd (none_named c.name columns i a both.0 at (let is : c ≡ b = cc in same ∙ sym (ap (λ (d : ColumnDef). d.name) is)))
apart_from (c ∷ columns) test (suc i) (suc j) a b at there same =
    let both = and_parts (is_none (find (is_named c.name) columns)) (are_apart columns) test in
    let places : i ≡ j = apart_from columns both.1 i j a b at there same in
    ap (λ (n : ℕ). suc n) places

-- what is found has the name, and stands somewhere
found_named : (name : List ℕ) (columns : List ColumnDef) → is_none (find (is_named name) columns) ≡ false →
    (j : ℕ) × (b : ColumnDef) × (slice_get columns j ≡ Some b) × (b.name ≡ name)
found_named name [] found = absurd (both_ways true found refl)
found_named name (c ∷ columns) found =
    elim (cases_Bool (is_named name c)) [
      | inl named ↦ (0, c, refl, (bytes_decides c.name name).0 named)
      | inr other ↦
          let later = found_named name columns (rw other at found) in
          (suc later.0, later.1, later.2, later.3)
    ]

apart_test : (columns : List ColumnDef) → Apart columns → are_apart columns ≡ true
apart_test [] apart = refl
apart_test (c ∷ columns) apart =
    elim (cases_Bool (is_none (find (is_named c.name) columns))) [
      | inl none ↦ rw none (apart_test columns (λ i j a b at there same. let places : suc i ≡ suc j = apart (suc i) (suc j) a b at there same in omega arith))
      | inr found ↦
          let there = found_named c.name columns found in
          let places : 0 ≡ suc there.0 = apart 0 (suc there.0) c there.1 refl there.2 (sym there.3) in
          absurd (omega arith)
    ]

kind_is : (kind : Kind) → is_number_kind kind ≡ true → kind ≡ BigInt
kind_is BigInt test = refl
kind_is (VarChar most) test = absurd (both_ways false refl test)

key_from : (found : Option ColumnDef) → option_map_or (λ (column : ColumnDef). is_number_kind column.kind) found false ≡ true →
    IsSomeAnd found (λ (column : ColumnDef). column.kind ≡ BigInt)
key_from None test = absurd (both_ways false refl test)
key_from (Some column) test = kind_is column.kind test

key_test : (found : Option ColumnDef) → IsSomeAnd found (λ (column : ColumnDef). column.kind ≡ BigInt) →
    option_map_or (λ (column : ColumnDef). is_number_kind column.kind) found false ≡ true
key_test None is = absurd is
key_test (Some column) is = ap is_number_kind is

pub IsTable-from_tests : (table : TableDef) → length table.columns < 2 ^ 32 → has_number_key table ≡ true → are_apart table.columns ≡ true →
    IsTable table
IsTable-from_tests table few key apart = record {
  apart = apart_from table.columns apart;
  few = few;
  key = key_from (slice_get table.columns table.key) key;
}

pub key_of_table : (table : TableDef) → IsTable table → has_number_key table ≡ true
key_of_table table is = key_test (slice_get table.columns table.key) is.key

pub apart_of_table : (table : TableDef) → IsTable table → are_apart table.columns ≡ true
apart_of_table table is = apart_test table.columns is.apart

-- the tests together
pub IsTable-decided : (table : TableDef) (columns : List ColumnDef) (differ key : Bool) → columns ≡ table.columns → length columns < 2 ^ 32 →
    key ≡ true → key ≡ has_number_key table → differ ≡ are_apart columns
    → (differ ≡ true → IsTable table) × (IsTable table → differ ≡ true)
IsTable-decided table columns differ key same few is_key key_test apart_test =
    let apart : differ ≡ are_apart table.columns = apart_test ∙ ap are_apart same in
    let within : length table.columns < 2 ^ 32 = subst (λ (cs : List ColumnDef). length cs < 2 ^ 32) same few in
    (λ so. IsTable-from_tests table within (sym key_test ∙ is_key) (sym apart ∙ so), λ is. apart ∙ apart_of_table table is)
