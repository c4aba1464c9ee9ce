-- Rows that rise by key, in an order in which the key decides last.
use Rattle.std.proofs.Common.{◌≡◌, ℕ, suc, zero, ◌≤◌, ℤ, ◌<ℤ◌, Bool, true, false, not, ◌&&◌, cond, List, [], ◌∷◌, ◌++◌, Some, filter, length, refl, sym, ◌∙◌, ap, subst, arith, inl, inr}
use Rattle.std.specs.Prelude.{slice_get}
use Rattle.std.specs.Cmp.{IsStrictWeakOrder, IsTotalOrder}
use Rattle.std.specs.List.{AllByRecursion}
use Rattle.std.specs.List.Sorted.{IsPermutation, IsSortedBy, ties}
use Rattle.std.specs.Ordering.{int_cmp, is_lt, ordering_reverse, ordering_then}
use Rattle.std.specs.declared.cmp.Ordering.{Ordering}
use Rattle.std.specs.declared.cmp.Ordering.TheVariants.{Less, Equal, Greater}
use Rattle.std.proofs.lemmas.Bool.{cases_Bool, false≢true}
use Rattle.std.proofs.lemmas.Int.{ints}
use Rattle.sql_values.specs.declared.value.Value.{Value}
use Rattle.sql_values.specs.declared.value.Value.TheVariants.{Number}
use Rattle.front_rows.specs.declared.order.Sort.{Sort}
use Rattle.front_rows.specs.Comparing.{before, rows_cmp, sort_cmp}
use Rattle.front_rows.specs.Laws.{Rises}
use Rattle.front_rows.specs.Sorting.{sorted_by}
use Rattle.front_rows.proofs.KeyOrder.{PutsKeysFirst, by_key, few_tie, key_before, same_few, sorted_rows}
use Rattle.front_rows.proofs.Orders.{before_ranks, rows_total}
use Rattle.front_rows.proofs.Sorted.{is_sorted_list, sorted_is_sorted, sorted_keeps}

abbrev Row : Type 0
Row = List Value

-- ORDERS THAT END WITH THE KEY

-- what is equal by columns and then by others is so by the others
then_last : (o p : Ordering) → ordering_then o p ≡ Equal → p ≡ Equal
then_last Less p tied = let never : Less ≡ Equal = tied in cc
then_last Equal p tied = tied
then_last Greater p tied = let never : Greater ≡ Equal = tied in cc

last_equal : (front order : List Sort) (x y : Row) → rows_cmp (front ++ order) x y ≡ Equal → rows_cmp order x y ≡ Equal
last_equal [] order x y tied = tied
last_equal (sort ∷ front) order x y tied = last_equal front order x y (then_last (sort_cmp sort x y) (rows_cmp (front ++ order) x y) tied)

tied_by : (o : Ordering) → not (is_lt o) && not (is_lt (ordering_reverse o)) ≡ true → o ≡ Equal
tied_by Less tied = absurd (false≢true tied)
tied_by Equal tied = refl
tied_by Greater tied = absurd (false≢true tied)

-- rows tie where they are equal
tied_equal : (order : List Sort) (x y : Row) → ties (before order) x y ≡ true → rows_cmp order x y ≡ Equal
tied_equal order x y tied =
    let back : rows_cmp order y x ≡ ordering_reverse (rows_cmp order x y) = (rows_total order).antisymm y x in
    tied_by (rows_cmp order x y) (subst (λ o. not (is_lt (rows_cmp order x y)) && not (is_lt o) ≡ true) back tied)

equal_tied : (order : List Sort) (x y : Row) → rows_cmp order x y ≡ Equal → ties (before order) x y ≡ true
equal_tied order x y tied =
    let back : rows_cmp order y x ≡ Equal = (rows_total order).antisymm y x ∙ ap ordering_reverse tied in
    rw (tied, back) refl

fewer : {X : Type 0} (p q : X → Bool) (xs : List X) → ((x : X) → p x ≡ true → q x ≡ true) → length (filter p xs) ≤ length (filter q xs)
fewer p q [] only = omega arith
fewer p q (x ∷ xs) only = elim (cases_Bool (p x)) [
  | inl here ↦ rw (here, only x here) (omega (arith, fewer p q xs only))
  | inr other ↦ elim (cases_Bool (q x)) [
    | inl more ↦ rw (other, more) (omega (arith, fewer p q xs only))
    | inr neither ↦ rw (other, neither) (fewer p q xs only)
  ]
]

-- no two rows of different keys tie
few_tied : (column : ℕ) (front : List Sort) (z : Row) (rows : List Row) → Rises column rows → length (filter (ties (before (front ++ by_key column)) z) rows) ≤ 1
few_tied column front z rows rise =
    let few = few_tie column z rows rise in
    let fewer_here = fewer (ties (before (front ++ by_key column)) z) (ties (before (by_key column)) z) rows
    (λ x tied. equal_tied (by_key column) z x (last_equal front (by_key column) z x (tied_equal (front ++ by_key column) z x tied))) in
    omega (arith, few, fewer_here)

-- so the same rows are one list in that order, however they came
pub sorted_alike : (column : ℕ) (front : List Sort) (rows rising : List Row) → IsPermutation rows rising → Rises column rising → sorted_by (before (front ++ by_key column)) rows ≡ sorted_by (before (front ++ by_key column)) rising
sorted_alike column front rows rising moved rise =
    let lt = before (front ++ by_key column) in
    let ranks = before_ranks (front ++ by_key column) in
    sym (is_sorted_list lt ranks rows (sorted_by lt rising) (sorted_is_sorted lt ranks rising)
    (λ z. sorted_keeps lt ranks z rising ∙ same_few (ties lt z) rows rising moved (few_tied column front z rising rise)))

-- ORDERS BY THE KEY ALONE

-- each column is the key, and rises
pub record IsKeySort (column : ℕ) (sort : Sort) : Type 0 where
  pub here : sort.column ≡ column
  pub up : sort.rising ≡ true

first_lower : (a b : ℤ) (o : Ordering) → a <ℤ b → is_lt (ordering_then (int_cmp a b) o) ≡ true
first_lower a b o below = grind (arith, ints)

sort_first : (column : ℕ) (sort : Sort) (order : List Sort) → IsKeySort column sort → PutsKeysFirst column (sort ∷ order)
sort_first column sort order is x y a b at there below =
    let one : slice_get x sort.column ≡ Some (Number a) = ap (slice_get x) is.here ∙ at in
    let other : slice_get y sort.column ≡ Some (Number b) = ap (slice_get y) is.here ∙ there in
    rw (is.up, one, other) (first_lower a b (rows_cmp order x y) below)

keys_first : (column : ℕ) (front : List Sort) → AllByRecursion (IsKeySort column) front → PutsKeysFirst column (front ++ by_key column)
keys_first column [] all = key_before column
keys_first column (sort ∷ front) all = sort_first column sort (front ++ by_key column) all.0

pub rising_sorted : (column : ℕ) (front : List Sort) (rows : List Row) → AllByRecursion (IsKeySort column) front → Rises column rows → IsSortedBy (before (front ++ by_key column)) rows
rising_sorted column front rows all rise = sorted_rows column (front ++ by_key column) rows (keys_first column front all) rise

-- rows that rise are in order by the key as they are
pub rising_stays : (column : ℕ) (rows : List Row) → Rises column rows → sorted_by (before (by_key column)) rows ≡ rows
rising_stays column rows rise = sym (is_sorted_list (before (by_key column)) (before_ranks (by_key column)) rows rows (rising_sorted column [] rows tt rise) (λ z. refl))
