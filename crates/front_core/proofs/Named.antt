-- The table that a statement names, as it is planned and as the front's definition finds it.
use Rattle.std.proofs.Common.{◌≡◌, ◌^◌, ◌&&◌, ℕ, Bool, true, List, Option, Some, None, map, length, cond, refl, ◌∙◌, ap, arith, inl, inr, nat_lt}
use Rattle.std.specs.Prelude.{slice_get, option_and_then}
use Rattle.std.proofs.lemmas.Bool.{cases_Bool, and_parts}
use Rattle.sql_values.specs.declared.table.TableDef.{TableDef}
use Rattle.catalog.specs.declared.tables.Table.{Table}
use Rattle.catalog.specs.Index.{place_in}
use Rattle.catalog.specs.Views.{table_name}
use Rattle.catalog_plan.specs.Plans.{IsFound}
use Rattle.stmt_plan.specs.Apart.{are_apart, has_number_key}
use Rattle.stmt_plan.specs.Plans.{IsTable}
use Rattle.stmt_plan.proofs.Apart.{IsTable-from_tests, key_of_table, apart_of_table}
use Rattle.front_core.specs.Core.{is_table, table_at, table_named}

passes : (def : TableDef) → IsTable def → is_table def ≡ true
passes def is =
    let few : nat_lt (length def.columns) (2 ^ 32) ≡ true = grind (arith, is.few) in
    rw (few, apart_of_table def is, key_of_table def is) refl

pub is_definition : (def : TableDef) → is_table def ≡ true → IsTable def
is_definition def test =
    let both = and_parts (nat_lt (length def.columns) (2 ^ 32)) (are_apart def.columns && has_number_key def) test in
    let names = and_parts (are_apart def.columns) (has_number_key def) both.1 in
    IsTable-from_tests def (grind (arith, both.0)) names.1 names.0

pub found_is_named : (tables : List Table) (name : List ℕ) (number : ℕ) (table : Table) → IsFound tables name number table → table_named tables name ≡ Some (number, table)
found_is_named tables name number table found =
    ap (λ (place : Option ℕ). option_and_then (table_at tables) place) found.place
    ∙ ap (λ (at : Option Table). option_and_then (λ (t : Table). cond {A = Option (ℕ × Table)} (is_table t.def) (Some (number, t)) None) at) found.at
    ∙ ap (λ (b : Bool). cond {A = Option (ℕ × Table)} b (Some (number, table)) None) (passes table.def found.definition)

none_at : (tables : List Table) (name : List ℕ) (number : ℕ) (at : Option Table) → place_in (map table_name tables) name ≡ Some number → slice_get tables number ≡ at →
    ((n : ℕ) (table : Table) → IsFound tables name n table → ⊥) → option_and_then (λ (t : Table). cond {A = Option (ℕ × Table)} (is_table t.def) (Some (number, t)) None) at ≡ None
none_at tables name number None place is absent = refl
none_at tables name number (Some table) place is absent = elim (cases_Bool (is_table table.def)) [
  | inl yes_table ↦ absurd (absent number table (record { place = place; at = is; definition = is_definition table.def yes_table }))
  | inr not_table ↦ rw not_table refl
]

none_in : (tables : List Table) (name : List ℕ) (place : Option ℕ) → place_in (map table_name tables) name ≡ place →
    ((n : ℕ) (table : Table) → IsFound tables name n table → ⊥) → option_and_then (table_at tables) place ≡ None
none_in tables name None is absent = refl
none_in tables name (Some number) is absent = none_at tables name number (slice_get tables number) is refl absent

pub not_found_not_named : (tables : List Table) (name : List ℕ) → ((n : ℕ) (table : Table) → IsFound tables name n table → ⊥) → table_named tables name ≡ None
not_found_not_named tables name absent = none_in tables name (place_in (map table_name tables) name) refl absent
