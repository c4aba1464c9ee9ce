-- Rows that rise by key.
use Rattle.std.proofs.Common.{◌≡◌, ℕ, suc, zero, ◌≤◌, ℤ, ◌<ℤ◌, ◌≤ℤ◌, Bool, true, false, not, cond, List, [], ◌∷◌, Some, filter, length, refl, sym, ◌∙◌, ap, subst, arith, inl, inr, add-one}
use Rattle.std.specs.Prelude.{slice_get}
use Rattle.std.specs.Cmp.{IsStrictWeakOrder}
use Rattle.std.specs.List.{Contains}
use Rattle.std.specs.List.Sorted.{IsPermutation, IsSortedBy, ties}
use Rattle.std.specs.Ordering.{int_cmp, is_lt, ordering_then}
use Rattle.std.specs.declared.cmp.Ordering.TheVariants.{Equal}
use Rattle.std.proofs.lemmas.Bool.{cases_Bool, both_ways, and_parts}
use Rattle.std.proofs.lemmas.Int.{ints}
use Rattle.std.proofs.lemmas.List.Sorted.{Contains-permutation, sum_by-IsPermutation}
use Rattle.std.proofs.lemmas.List.Sums.{length-filter}
use Rattle.sql_values.specs.declared.value.Value.{Value}
use Rattle.sql_values.specs.declared.value.Value.TheVariants.{Number}
use Rattle.front_rows.specs.declared.order.Sort.{Sort}
use Rattle.front_rows.specs.Comparing.{before}
use Rattle.front_rows.specs.Laws.{OneOrder, KeysMerge, Rises, RisesFrom}
use Rattle.front_rows.proofs.OneList.{one_list, found_in}
use Rattle.front_rows.proofs.Orders.{before_ranks}

pub one_order : OneOrder
one_order order rows first second one other =
    one_list (before order) (before_ranks order) first second one.sorted_by other.sorted_by (λ z. one.stable z ∙ sym (other.stable z))

-- by the key column alone, rising
abbrev pub by_key : ℕ → List Sort
by_key column = record { column = column; rising = true } ∷ []

below_so : (a b : ℤ) → a <ℤ b → is_lt (ordering_then (int_cmp a b) Equal) ≡ true
below_so a b below = grind (arith, ints)

pub key_before : (column : ℕ) (x y : List Value) (a b : ℤ) → slice_get x column ≡ Some (Number a) → slice_get y column ≡ Some (Number b) → a <ℤ b →
    before (by_key column) x y ≡ true
key_before column x y a b at there below = rw (at, there) (below_so a b below)

-- one more element in front of a sorted list
sorted_more : {X : Type 0} (lt : X → X → Bool) (x y : X) (ys : List X) → lt y x ≡ false → IsSortedBy lt (y ∷ ys) → IsSortedBy lt (x ∷ y ∷ ys)
sorted_more lt x y ys first rest zero d from within = first
sorted_more lt x y ys first rest (suc k) d from within = rw (add-one (suc k)) (rw (add-one k) at (rest k d (omega arith) (omega arith)))

-- the order puts a row with a lower key first
abbrev pub PutsKeysFirst : ℕ → List Sort → Type 0
PutsKeysFirst column order = (x y : List Value) (a b : ℤ) → slice_get x column ≡ Some (Number a) → slice_get y column ≡ Some (Number b) → a <ℤ b → before order x y ≡ true

sorted_rise : (column : ℕ) (order : List Sort) (x : List Value) (low : ℤ) (rows : List (List Value)) → PutsKeysFirst column order → slice_get x column ≡ Some (Number low) →
    RisesFrom column low rows → IsSortedBy (before order) (x ∷ rows)
sorted_rise column order x low [] keys at rise = λ k d from within. absurd (omega arith)
sorted_rise column order x low (row ∷ rows) keys at (key, there, above, rest) =
    sorted_more (before order) x row rows ((before_ranks order).one_way x row (keys x row low key at there above)) (sorted_rise column order row key rows keys there rest)

-- rows that rise by the key are in such an order
pub sorted_rows : (column : ℕ) (order : List Sort) (rows : List (List Value)) → PutsKeysFirst column order → Rises column rows → IsSortedBy (before order) rows
sorted_rows column order [] keys rise = λ k d from within. absurd (omega arith)
sorted_rows column order (row ∷ rows) keys (key, at, rest) = sorted_rise column order row key rows keys at rest

-- nothing ties with what stands before it
tied_both : {X : Type 0} (lt : X → X → Bool) → IsStrictWeakOrder lt → (z x y : X) → ties lt z x ≡ true → ties lt z y ≡ true → lt x y ≡ false
tied_both lt o z x y first second =
    let one = and_parts (not (lt z x)) (not (lt x z)) first in
    let other = and_parts (not (lt z y)) (not (lt y z)) second in
    let back : lt x z ≡ false = grind (arith, one.1) in
    let on : lt z y ≡ false = grind (arith, other.0) in
    o.chain x z y back on

none_tie : (column : ℕ) (z x : List Value) (low key : ℤ) (rows : List (List Value)) → slice_get x column ≡ Some (Number key) →
    ties (before (by_key column)) z x ≡ true → RisesFrom column low rows → key ≤ℤ low →
    filter (ties (before (by_key column)) z) rows ≡ []
none_tie column z x low key [] at tied rise below = refl
none_tie column z x low key (row ∷ rows) at tied (next, there, above, rest) below =
    elim (cases_Bool (ties (before (by_key column)) z row)) [
      | inl again ↦
          absurd (both_ways (before (by_key column) x row) (tied_both (before (by_key column)) (before_ranks (by_key column)) z x row tied again) (key_before column x row key next at there (omega (arith, ints))))
      | inr other ↦ rw other (none_tie column z x next key rows at tied rest (omega (arith, ints)))
    ]

few_from : (column : ℕ) (z : List Value) (low : ℤ) (rows : List (List Value)) → RisesFrom column low rows →
    length (filter (ties (before (by_key column)) z) rows) ≤ 1
few_from column z low [] rise = omega arith
few_from column z low (row ∷ rows) (key, at, above, rest) =
    elim (cases_Bool (ties (before (by_key column)) z row)) [
      | inl tied ↦
          let none : filter (ties (before (by_key column)) z) rows ≡ [] = none_tie column z row key key rows at tied rest (omega (arith, ints)) in
          rw (tied, none) (omega arith)
      | inr other ↦ rw other (few_from column z key rows rest)
    ]

pub few_tie : (column : ℕ) (z : List Value) (rows : List (List Value)) → Rises column rows → length (filter (ties (before (by_key column)) z) rows) ≤ 1
few_tie column z [] rise = omega arith
few_tie column z (row ∷ rows) (key, at, rest) =
    elim (cases_Bool (ties (before (by_key column)) z row)) [
      | inl tied ↦
          let none : filter (ties (before (by_key column)) z) rows ≡ [] = none_tie column z row key key rows at tied rest (omega (arith, ints)) in
          rw (tied, none) (omega arith)
      | inr other ↦ rw other (few_from column z key rows rest)
    ]

-- what passes and is an element is among those that pass
passes_among : {X : Type 0} (p : X → Bool) (ys : List X) (x : X) → Contains ys x → p x ≡ true → Contains (filter p ys) x
passes_among p [] x there pass = absurd (omega (arith, there.1))
passes_among p (y ∷ ys) x (zero, within, is) pass =
    let here : p y ≡ true = ap p is ∙ pass in
    rw here (0, omega arith, is)
passes_among p (y ∷ ys) x (suc k, within, is) pass =
    let later : Contains (filter p ys) x = passes_among p ys x (k, omega arith, is) pass in
    elim (cases_Bool (p y)) [
      | inl here ↦ rw here (suc later.0, omega (arith, later.1), later.2)
      | inr other ↦ rw other later
    ]

passes_first : {X : Type 0} (p : X → Bool) (ys : List X) (x : X) (rest : List X) → filter p ys ≡ x ∷ rest → p x ≡ true
passes_first p [] x rest found = absurd (let no : [] ≡ x ∷ rest = found in cc)
passes_first p (y ∷ ys) x rest found =
    elim (cases_Bool (p y)) [
      | inl pass ↦
          let kept : y ∷ filter p ys ≡ x ∷ rest = rw pass at found in
          let same : y ≡ x = cc in
          sym (ap p same) ∙ pass
      | inr other ↦ passes_first p ys x rest (rw other at found)
    ]

only_one : {X : Type 0} (x y : X) → Contains (y ∷ []) x → y ∷ [] ≡ x ∷ []
only_one x y (zero, within, is) = ap (λ z. z ∷ []) is
only_one x y (suc k, within, is) = absurd (omega arith)

-- lists with the same elements have the same one that passes, where there is one at most
same_one : {X : Type 0} (p : X → Bool) (xs ys kept few : List X) → IsPermutation xs ys → filter p xs ≡ kept → filter p ys ≡ few → length few ≤ 1 →
    length few ≡ length kept → few ≡ kept
same_one p xs ys [] [] moved is_kept is_few small count = refl
same_one p xs ys [] (y ∷ few) moved is_kept is_few small count = absurd (omega arith)
same_one p xs ys (x ∷ kept) [] moved is_kept is_few small count = absurd (omega arith)
same_one p xs ys (x ∷ kept) (y ∷ b ∷ few) moved is_kept is_few small count = absurd (omega arith)
same_one p xs ys (x ∷ a ∷ kept) (y ∷ []) moved is_kept is_few small count = absurd (omega arith)
same_one p xs ys (x ∷ []) (y ∷ []) moved is_kept is_few small count =
    only_one x y (subst (λ l. Contains l x) is_few (passes_among p ys x (Contains-permutation xs ys x moved (found_in p xs x [] is_kept)) (passes_first p xs x [] is_kept)))

pub same_few : {X : Type 0} (p : X → Bool) (xs ys : List X) → IsPermutation xs ys → length (filter p ys) ≤ 1 → filter p ys ≡ filter p xs
same_few p xs ys moved small =
    same_one p xs ys (filter p xs) (filter p ys) moved refl refl small
    (length-filter p ys ∙ sum_by-IsPermutation (λ x. cond (p x) 1 0) xs ys moved ∙ sym (length-filter p xs))

pub keys_merge : KeysMerge
keys_merge column rows sorted rising order moved rise =
    one_order (by_key column) rows sorted rising order (record {
      same_rows = moved;
      sorted_by = sorted_rows column (by_key column) rising (key_before column) rise;
      stable = λ z. same_few (ties (before (by_key column)) z) rows rising moved (few_tie column z rising rise);
    })
