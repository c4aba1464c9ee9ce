use Rattle.std.proofs.Common.{suc, add-one, ◌≡◌, ℕ, ◌<◌, ℤ, ◌≤ℤ◌, Bool, true, false, List, [], ◌∷◌, length, get_or, arith, sym, ◌∙◌}
use Rattle.std.specs.Prelude.{int_le}
use Rattle.std.specs.List.{All, filter}
use Rattle.std.specs.List.Sorted.{IsPermutation, IsSortedByKey}
use Rattle.std.specs.Ordering.{int_cmp, is_lt}
use Rattle.std.proofs.lemmas.Int.{ints}
use Rattle.std.proofs.lemmas.List.Elements.{All-head, All-tail, filter_passes}
use Rattle.std.proofs.lemmas.List.Sorted.{list_any-IsPermutation, All-permutation}
use Rattle.std.proofs.lemmas.Map.Views.{any-filter_same}
use Rattle.sql_values.specs.declared.places.Interval.{Interval}
use Rattle.sql_values.specs.KeySets.{has_key, is_within}
use Rattle.sql_values.specs.Merging.{Ascends, IsAscending}
use Rattle.sql_values.proofs.KeyLists.{no_interval}

-- the interval has a key
abbrev pub is_filled : Interval → Bool
is_filled i = int_le i.low i.high

-- each begins no earlier than its neighbour before it
abbrev RiseByLow : List Interval → Type 0
RiseByLow is = (k : ℕ) → suc k < length is → (get_or is k no_interval).low ≤ℤ (get_or is (suc k) no_interval).low

rise_tail : (x : Interval) (is : List Interval) → RiseByLow (x ∷ is) → RiseByLow is
rise_tail x is rise k within = rise (suc k) (omega arith)

rise_head : (x y : Interval) (is : List Interval) → RiseByLow (x ∷ y ∷ is) → x.low ≤ℤ y.low
rise_head x y is rise = rise 0 (omega arith)

filled_is : (i : Interval) → is_filled i ≡ true → i.low ≤ℤ i.high
filled_is i filled = grind (arith, ints)

ascends_all : (x : Interval) (is : List Interval) → RiseByLow (x ∷ is) → All (λ i. is_filled i ≡ true) is → Ascends x.low is
ascends_all x [] rise filled = tt
ascends_all x (y ∷ is) rise filled =
    (rise_head x y is rise, filled_is y (All-head (λ i. is_filled i ≡ true) y is filled), ascends_all y is (rise_tail x (y ∷ is) rise) (All-tail (λ i. is_filled i ≡ true) y is filled))

is_ascending : (is : List Interval) → RiseByLow is → All (λ i. is_filled i ≡ true) is → IsAscending is
is_ascending [] rise filled = tt
is_ascending (x ∷ is) rise filled = (filled_is x (All-head (λ i. is_filled i ≡ true) x is filled), ascends_all x is rise (All-tail (λ i. is_filled i ≡ true) x is filled))

not_below : (a b : ℤ) → is_lt (int_cmp b a) ≡ false → a ≤ℤ b
not_below a b test = grind (arith, ints)

-- what is left after empty ones are taken out and a sort by the beginnings
pub IsAscending-sorted : (list kept sorted : List Interval) → kept ≡ filter is_filled list → IsPermutation kept sorted → IsSortedByKey (λ i. i.low) int_cmp sorted → IsAscending sorted
IsAscending-sorted list kept sorted is_kept moved rise =
    is_ascending sorted
    (λ k within. not_below (get_or sorted k no_interval).low (get_or sorted (suc k) no_interval).low (rw (add-one k) at (rise k no_interval (omega arith) (omega arith))))
    (All-permutation (λ i. is_filled i ≡ true) kept sorted moved (rw is_kept (filter_passes is_filled list)))

within_filled : (key : ℤ) (i : Interval) → is_within key i ≡ true → is_filled i ≡ true
within_filled key i within = grind (arith, ints)

pub has_key-sorted : (list kept sorted : List Interval) (key : ℤ) → kept ≡ filter is_filled list → IsPermutation kept sorted → has_key sorted key ≡ has_key list key
has_key-sorted list kept sorted key is_kept moved =
    sym (list_any-IsPermutation (is_within key) kept sorted moved) ∙ rw is_kept (any-filter_same (is_within key) is_filled true (within_filled key) list)
