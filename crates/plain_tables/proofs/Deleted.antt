-- What a DELETE leaves.
use Rattle.std.proofs.Common.{◌≡◌, ℕ, ◌==◌, ℤ, Bool, ◌||◌, true, false, not, List, [], ◌∷◌, map, Option, refl, sym, ◌∙◌, ap, subst, inl, inr, cond}
use Rattle.std.specs.Prelude.{IsSome}
use Rattle.std.specs.List.{AllByRecursion, Contains, filter, list_any}
use Rattle.std.specs.List.Sorted.{IsStrictlySortedBy}
use Rattle.std.specs.Option.{option_map_or}
use Rattle.std.specs.Ordering.{int_cmp, int_eq}
use Rattle.std.specs.Cmp.{both_ways}
use Rattle.std.specs.declared.cmp.Ordering.TheVariants.{Less}
use Rattle.std.proofs.lemmas.Bool.{cases_Bool, false≢true}
use Rattle.std.proofs.lemmas.Bool.Decides.{Decides-int_eq}
use Rattle.std.proofs.lemmas.Cmp.{int_eq_equiv}
use Rattle.std.proofs.lemmas.List.Kept.{IsStrictlySortedBy-filter}
use Rattle.std.proofs.lemmas.Map.Views.{list_any-from_Contains, Contains-from_any}
use Rattle.sql_values.specs.declared.table.TableDef.{TableDef}
use Rattle.sql_values.specs.declared.tree.Cond.{Cond}
use Rattle.part_rules.specs.Placing.{part}
use Rattle.stmt_plan.proofs.Covered.{Contains-map}
use Rattle.plain_tables.specs.Inserts.{without, keys_in, DeletionsKeepTables, DeletionsArePlaced}
use Rattle.plain_tables.specs.Partitions.{lies_in}
use Rattle.plain_tables.specs.Rows.{Row, key_of, HasKey, by_key, Rises, holds_on, kept}
use Rattle.plain_tables.proofs.Members.{at_front, behind, either, nothing, all_of, all_by, kept_passes, passes_kept, mapped_from, not_below}
use Rattle.plain_tables.proofs.Merged.{keys_in_order}

-- TABLES

-- what holds of all elements holds of those that pass a test
filter_all : {X : Type 0} (P : X → Type 0) (test : X → Bool) (xs : List X) → AllByRecursion P xs → AllByRecursion P (filter test xs)
filter_all P test xs all = all_by P (filter test xs) (λ z c. all_of P xs z all (kept_passes test xs z c).0)

pub deletions_keep_tables : DeletionsKeepTables
deletions_keep_tables def rule rows keys table =
    let stays : Row → Bool = λ row. not (list_any (int_eq (key_of def row)) keys) in
    record {
      rises = IsStrictlySortedBy-filter (by_key def) stays rows table.rises;
      keyed = filter_all (HasKey def) stays rows table.keyed;
      placed = filter_all (λ row. IsSome (part rule (key_of def row))) stays rows table.placed;
    }

-- PLACES

-- a key that passes a test is in a list where it is among those of the list that pass
listed_alike : (test : ℤ → Bool) (key : ℤ) (keys : List ℤ) → test key ≡ true → list_any (int_eq key) keys ≡ list_any (int_eq key) (filter test keys)
listed_alike test key [] pass = refl
listed_alike test key (k ∷ keys) pass =
    let rest = listed_alike test key keys pass in
    elim (cases_Bool (test k)) [
      | inl stays ↦ rw stays (ap (λ b. int_eq key k || b) rest)
      | inr goes ↦
          let other : int_eq key k ≡ false = elim (cases_Bool (int_eq key k)) [
            | inl same ↦ let is : key ≡ k = (Decides-int_eq key k).0 same in absurd (false≢true (sym goes ∙ (ap test (sym is) ∙ pass)))
            | inr apart ↦ apart
          ] in
          rw (goes, other) rest
    ]

-- by what two tests say of the first element; the second may be another where the first passes
tested : {X : Type 0} (p q r : X → Bool) (x : X) (xs : List X) (b c : Bool) → p x ≡ b → q x ≡ c → (b ≡ true → r x ≡ c) → filter p (filter q xs) ≡ filter r (filter p xs)
    → filter p (cond (q x) (x ∷ filter q xs) (filter q xs)) ≡ filter r (cond (p x) (x ∷ filter p xs) (filter p xs))
tested p q r x xs true true b c same rest = let d : r x ≡ true = same refl in rw (b, c) (rw (b, d) (ap (λ l. x ∷ l) rest))
tested p q r x xs true false b c same rest = let d : r x ≡ false = same refl in rw (b, c) (rw d rest)
tested p q r x xs false true b c same rest = rw (b, c) (rw b rest)
tested p q r x xs false false b c same rest = rw (b, c) rest

pub deletions_are_placed : DeletionsArePlaced
deletions_are_placed def rule [] keys p = refl
deletions_are_placed def rule (row ∷ rows) keys p =
    tested (lies_in def rule p) (λ r. not (list_any (int_eq (key_of def r)) keys)) (λ r. not (list_any (int_eq (key_of def r)) (keys_in rule p keys))) row rows
    (lies_in def rule p row) (not (list_any (int_eq (key_of def row)) keys)) refl refl
    (λ inside. ap not (sym (listed_alike (λ key. option_map_or (λ (q : ℕ). q == p) (part rule key) false) (key_of def row) keys inside)))
    (deletions_are_placed def rule rows keys p)

-- ROWS OF A CONDITION

-- rows of a table with one key are one
one_row : (def : TableDef) (rows : List Row) (a b : Row) → Rises def rows → Contains rows a → Contains rows b → key_of def a ≡ key_of def b → a ≡ b
unfolding IsStrictlySortedBy
one_row def [] a b rises left right same = nothing a left
one_row def (x ∷ xs) a b rises left right same = elim (either x a xs left) [
  | inl first ↦ elim (either x b xs right) [
    | inl too ↦ sym first ∙ too
    | inr later ↦ no_loop b (subst (λ k. int_cmp k (key_of def b) ≡ Less) (ap (key_of def) first ∙ same) (all_of (λ z. by_key def x z ≡ Less) xs b rises.0 later))
  ]
  | inr later ↦ elim (either x b xs right) [
    | inl first ↦ no_loop a (subst (λ k. int_cmp k (key_of def a) ≡ Less) (ap (key_of def) first ∙ sym same) (all_of (λ z. by_key def x z ≡ Less) xs a rises.0 later))
    | inr too ↦ one_row def xs a b rises.1 later too same
  ]
]
  where
    no_loop : {P : Type 0} (z : Row) → by_key def z z ≡ Less → P
    no_loop z loop = not_below (by_key def) (keys_in_order def) z z loop loop

-- a row of the table has one of the keys of the rows that a condition keeps exactly where the condition holds on it
key_tells : (def : TableDef) (c : Option Cond) (rows : List Row) (row : Row) → Rises def rows → Contains rows row →
    holds_on def c row ≡ list_any (int_eq (key_of def row)) (map (key_of def) (kept def c rows))
key_tells def c rows row rises there =
    both_ways (holds_on def c row) (list_any (int_eq (key_of def row)) (map (key_of def) (kept def c rows)))
    (λ holds. list_any-from_Contains int_eq_equiv (key_of def row) (map (key_of def) (kept def c rows)) (Contains-map (key_of def) (kept def c rows) row (passes_kept (holds_on def c) rows row there holds)))
    (λ found.
    let at = mapped_from (key_of def) (kept def c rows) (key_of def row) (Contains-from_any (λ x y is. (Decides-int_eq x y).0 is) (key_of def row) (map (key_of def) (kept def c rows)) found) in
    let passes = kept_passes (holds_on def c) rows at.0 at.1 in
    subst (λ r. holds_on def c r ≡ true) (one_row def rows at.0 row rises passes.0 there at.2) passes.1)

-- tests that agree on the elements of a list keep the same of them
filter_alike : {X : Type 0} (p q : X → Bool) (xs : List X) → ((x : X) → Contains xs x → p x ≡ q x) → filter p xs ≡ filter q xs
filter_alike p q [] same = refl
filter_alike p q (x ∷ xs) same =
    let here : p x ≡ q x = same x (at_front x xs) in
    rw here (ap (λ l. cond (q x) (x ∷ l) l) (filter_alike p q xs (λ z c. same z (behind x z xs c))))

-- the rows on which the condition holds go, or those with their keys
pub rows_with_keys_go : (def : TableDef) (c : Option Cond) (rows : List Row) → Rises def rows →
    filter (λ row. not (holds_on def c row)) rows ≡ without def (map (key_of def) (kept def c rows)) rows
rows_with_keys_go def c rows rises =
    filter_alike (λ row. not (holds_on def c row)) (λ row. not (list_any (int_eq (key_of def row)) (map (key_of def) (kept def c rows)))) rows
    (λ row there. ap not (key_tells def c rows row rises there))
