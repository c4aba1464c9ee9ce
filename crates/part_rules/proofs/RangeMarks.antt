-- By RANGE: the marks are those of the partitions of the set's keys.
use Rattle.std.proofs.Common.{◌≡◌, ℕ, suc, zero, ◌<◌, ◌≤◌, ℤ, pos, ◌+ℤ◌, ◌≤ℤ◌, ◌<ℤ◌, Bool, true, false, List, [], ◌∷◌, ◌++◌, length, drop, get_or, Some, refl, arith, inl, inr, sym, ◌∙◌, subst}
use Rattle.std.specs.Prelude.{int_le}
use Rattle.std.specs.List.Sorted.{IsPartitionedBy, IsPartitionPoint}
use Rattle.std.proofs.lemmas.Bool.{and_parts, cases_Bool, both_ways}
use Rattle.std.proofs.lemmas.Int.{ints, by_lt_z}
use Rattle.std.proofs.lemmas.List.{drop_all, append-nil}
use Rattle.sql_values.specs.declared.places.Interval.{Interval}
use Rattle.part_rules.specs.declared.bounds.Bound.{Bound}
use Rattle.part_rules.specs.declared.bounds.Bound.TheVariants.{Below, MaxValue}
use Rattle.sql_values.specs.KeySets.{has_key, is_within, RisesFrom, IsNormal}
use Rattle.part_rules.specs.Rules.{is_below, is_lower, rises_above, rises, range_part}
use Rattle.part_rules.specs.Marking.{IsMarked, AreMarks, begins_below, behind, range_marks}
use Rattle.sql_values.proofs.KeyLists.{IsNormal-from, has_key-before, RisesFrom-earlier}
use Rattle.sql_values.proofs.OneList.{at_first}
use Rattle.part_rules.proofs.Positions.{position-first, position-behind, position-behind_of}
use Rattle.part_rules.proofs.RangeParts.{below_higher, rises_behind}

below_earlier : (a b : ℤ) (bound : Bound) → a ≤ℤ b → is_below b bound ≡ true → is_below a bound ≡ true
below_earlier a b (Below n) order below = grind (arith, ints)
below_earlier a b MaxValue order below = refl

high_rises : (x : Interval) (is : List Interval) (j : ℕ) (d : Interval) → RisesFrom (x.high +ℤ pos 2) is → j < length is → x.high ≤ℤ (get_or is j d).high
high_rises x [] j d rises within = absurd (omega arith)
high_rises x (y ∷ is) zero d rises within = omega (arith, ints)
high_rises x (y ∷ is) (suc j) d rises within =
    let later : y.high ≤ℤ (get_or is j d).high = high_rises y is j d rises.2 (omega arith) in omega (arith, ints)

-- no interval that ends below the bound stands behind one that doesn't
partitioned : (bound : Bound) (low : ℤ) (is : List Interval) → RisesFrom low is → IsPartitionedBy (λ i. is_below i.high bound) is
partitioned bound low [] rises i j d order within below = absurd (omega arith)
partitioned bound low (x ∷ is) rises zero zero d order within below = below
partitioned bound low (x ∷ is) rises (suc i) zero d order within below = absurd (omega arith)
partitioned bound low (x ∷ is) rises zero (suc j) d order within below = below_earlier x.high (get_or is j d).high bound (high_rises x is j d rises.2 (omega arith)) below
partitioned bound low (x ∷ is) rises (suc i) (suc j) d order within below = partitioned bound (x.high +ℤ pos 2) is rises.2 i j d (omega arith) (omega arith) below

pub partitioned_by_end : (bound : Bound) (is : List Interval) → IsNormal is → IsPartitionedBy (λ i. is_below i.high bound) is
partitioned_by_end bound [] normal i j d order within below = absurd (omega arith)
partitioned_by_end bound (x ∷ is) normal i j d order within below = partitioned bound x.low (x ∷ is) normal i j d order within below

-- what a binary search leaves
behind_is : (bound : Bound) (is : List Interval) (n : ℕ) → n ≤ length is → ((k : ℕ) (d : Interval) → k < n → is_below (get_or is k d).high bound ≡ true) → ((d : Interval) → n < length is → is_below (get_or is n d).high bound ≡ false) → drop n is ≡ behind bound is
behind_is bound [] zero within before here = refl
behind_is bound [] (suc n) within before here = absurd (omega arith)
behind_is bound (x ∷ is) zero within before here = let test : is_below x.high bound ≡ false = here x (omega arith) in rw test refl
behind_is bound (x ∷ is) (suc n) within before here =
    let test : is_below x.high bound ≡ true = before 0 x (omega arith) in
    rw test (behind_is bound is n (omega arith) (λ k d l. before (suc k) d (omega arith)) (λ d l. here d (omega arith)))

pub behind_at : (bound : Bound) (is : List Interval) (n : ℕ) → n ≤ length is → IsPartitionPoint (λ i. is_below i.high bound ≡ true) (λ i. is_below i.high bound ≡ false) is n → drop n is ≡ behind bound is
behind_at bound is n within point = behind_is bound is n within (λ k d l. point.0 k d (omega arith) l) (λ d l. point.1 n d (omega arith) l)

RisesFrom-behind : (bound : Bound) (low : ℤ) (is : List Interval) → RisesFrom low is → RisesFrom low (behind bound is)
RisesFrom-behind bound low [] rises = tt
RisesFrom-behind bound low (x ∷ is) rises =
    elim (cases_Bool (is_below x.high bound)) [
      | inl below ↦ rw below (RisesFrom-earlier (x.high +ℤ pos 2) low (behind bound is) (RisesFrom-behind bound (x.high +ℤ pos 2) is rises.2) (omega (arith, ints)))
      | inr reaches ↦ rw reaches rises
    ]

pub IsNormal-behind : (bound : Bound) (is : List Interval) → IsNormal is → IsNormal (behind bound is)
IsNormal-behind bound [] normal = tt
IsNormal-behind bound (x ∷ is) normal = IsNormal-from x.low (behind bound (x ∷ is)) (RisesFrom-behind bound x.low (x ∷ is) normal)

in_tail : (x : Interval) (is : List Interval) (key : ℤ) → has_key is key ≡ true → has_key (x ∷ is) key ≡ true
in_tail x is key there = grind (arith, there)

-- what is left is part of the set
behind_in : (bound : Bound) (is : List Interval) (key : ℤ) → has_key (behind bound is) key ≡ true → has_key is key ≡ true
behind_in bound [] key there = there
behind_in bound (x ∷ is) key there =
    elim (cases_Bool (is_below x.high bound)) [
      | inl below ↦ in_tail x is key (behind_in bound is key (rw below at there))
      | inr reaches ↦ rw reaches at there
    ]

-- and has its keys that aren't below the bound
in_behind : (bound : Bound) (is : List Interval) (key : ℤ) → is_below key bound ≡ false → has_key is key ≡ true → has_key (behind bound is) key ≡ true
in_behind bound [] key above there = there
in_behind bound (x ∷ is) key above there =
    elim (cases_Bool (is_below x.high bound)) [
      | inl below ↦
          let outside : is_within key x ≡ false = by_lt_z x.high key
          (λ l. let past : int_le key x.high ≡ false = grind (arith, ints) in grind (arith, past))
          (λ l. absurd (both_ways (is_below key bound) above (below_earlier key x.high bound l below))) in
          let later : has_key is key ≡ true = rw outside at there in
          rw below (in_behind bound is key above later)
      | inr reaches ↦ rw reaches there
    ]

-- where a key below an end is left, so is the end
end_in : (n low : ℤ) (is : List Interval) (key : ℤ) → RisesFrom low is → key <ℤ n → has_key (behind (Below n) is) key ≡ true → has_key is n ≡ true
end_in n low [] key rises before there = there
end_in n low (x ∷ is) key rises before there =
    elim (cases_Bool (is_below x.high (Below n))) [
      | inl below ↦ in_tail x is n (end_in n (x.high +ℤ pos 2) is key rises.2 before (rw below at there))
      | inr reaches ↦
          let ends : n ≤ℤ x.high = grind (arith, ints) in
          let here : has_key (x ∷ is) key ≡ true = rw reaches at there in
          let none : has_key is key ≡ false = has_key-before (x.high +ℤ pos 2) is key rises.2 (omega (arith, ints)) in
          let within : is_within key x ≡ true = grind (arith, here, none) in
          let begins : x.low ≤ℤ key = grind (arith, ints) in
          at_first x is n (omega (arith, ints)) ends
    ]

-- what a binary search for the first that doesn't end below the bound leaves
pub behind_found : (bound : Bound) (is rest : List Interval) (n : ℕ) → IsNormal is → n ≤ length is → IsPartitionPoint (λ i. is_below i.high bound ≡ true) (λ i. is_below i.high bound ≡ false) is n → rest ≡ drop n is → (rest ≡ behind bound is) × IsNormal rest
behind_found bound is rest n normal within point left =
    let found : rest ≡ behind bound is = left ∙ behind_at bound is n within point in
    (found, rw found (IsNormal-behind bound is normal))

end_below : (n : ℤ) (bound : Bound) → is_lower (Below n) bound ≡ true → is_below n bound ≡ true
end_below n (Below m) lower = lower
end_below n MaxValue lower = refl

-- a key below a bound, in an interval that reaches it: then the bound's own key lies in the next partition
owned_at_end : (low : ℤ) (b : Bound) (bs : List Bound) (is : List Interval) (p : ℕ) (key : ℤ) → rises (b ∷ bs) ≡ true → RisesFrom low is → has_key (behind b is) key ≡ true → range_part bs key ≡ Some p → is_below key b ≡ true → (key : ℤ) × (has_key is key ≡ true) × (range_part (b ∷ bs) key ≡ Some (suc p))
owned_at_end low b [] is p key rising rises there place below = cc
owned_at_end low MaxValue (c ∷ cs) is p key rising rises there place below = absurd (both_ways false refl rising)
owned_at_end low (Below n) (c ∷ cs) is p key rising rises there place below =
    let lower : is_lower (Below n) c ≡ true = (and_parts (is_lower (Below n) c) (rises_above c cs) rising).0 in
    let first : range_part (c ∷ cs) key ≡ Some 0 = position-first (is_below key) c cs (below_higher key (Below n) c lower below) in
    let is_first : 0 ≡ p = cc in
    let before : key <ℤ n = grind (arith, ints) in
    let at_end : is_below n (Below n) ≡ false = grind (arith, ints) in
    let next : range_part (Below n ∷ c ∷ cs) n ≡ Some 1 = position-behind (is_below n) (Below n) (c ∷ cs) 0 at_end (position-first (is_below n) c cs (end_below n c lower)) in
    (n, end_in n low is key rises before there, subst (λ (q : ℕ). range_part (Below n ∷ c ∷ cs) n ≡ Some (suc q)) is_first next)

owned : (low : ℤ) (bs : List Bound) (is : List Interval) (p : ℕ) → rises bs ≡ true → RisesFrom low is → IsMarked (range_marks bs is) p → (key : ℤ) × (has_key is key ≡ true) × (range_part bs key ≡ Some p)
owned low [] is p rising rises mark = absurd (both_ways false refl mark)
owned low (b ∷ bs) [] zero rising rises mark = absurd (both_ways false refl mark)
owned low (b ∷ bs) (x ∷ is) zero rising rises mark = (x.low, at_first x is x.low (omega (arith, ints)) rises.1, position-first (is_below x.low) b bs mark)
owned low (b ∷ bs) is (suc p) rising rises mark =
    let later = owned low bs (behind b is) p (rises_behind b bs rising) (RisesFrom-behind b low is rises) mark in
    elim (cases_Bool (is_below later.0 b)) [
      | inl below ↦ owned_at_end low b bs is p later.0 rising rises later.1 later.2 below
      | inr above ↦ (later.0, behind_in b is later.0 later.1, position-behind (is_below later.0) b bs p above later.2)
    ]

-- the first interval begins no later than a key of the set
first_begins : (low : ℤ) (is : List Interval) (key : ℤ) (b : Bound) → RisesFrom low is → has_key is key ≡ true → is_below key b ≡ true → begins_below b is ≡ true
first_begins low [] key b rises there below = absurd (both_ways false refl there)
first_begins low (x ∷ is) key b rises there below =
    by_lt_z key x.low
    (λ before. absurd (both_ways (has_key (x ∷ is) key) (has_key-before x.low (x ∷ is) key (omega (arith, ints), rises.1, rises.2) before) there))
    (λ from. below_earlier x.low key b from below)

all_marked : (low : ℤ) (bs : List Bound) (is : List Interval) (key : ℤ) (p : ℕ) → rises bs ≡ true → RisesFrom low is → has_key is key ≡ true → range_part bs key ≡ Some p → IsMarked (range_marks bs is) p
all_marked low [] is key p rising rises there place = cc
all_marked low (b ∷ bs) is key p rising rises there place =
    elim (cases_Bool (is_below key b)) [
      | inl below ↦
          let first : range_part (b ∷ bs) key ≡ Some 0 = position-first (is_below key) b bs below in
          let is_first : 0 ≡ p = cc in
          subst (λ (q : ℕ). IsMarked (range_marks (b ∷ bs) is) q) is_first (first_begins low is key b rises there below)
      | inr above ↦
          let next = position-behind_of (is_below key) b bs p above place in
          subst (λ (q : ℕ). IsMarked (range_marks (b ∷ bs) is) q) (sym next.1)
          (all_marked low bs (behind b is) key next.0 (rises_behind b bs rising) (RisesFrom-behind b low is rises) (in_behind b is key above there) next.2)
    ]

from_first : (is : List Interval) → IsNormal is → (low : ℤ) × RisesFrom low is
from_first [] normal = (pos 0, tt)
from_first (x ∷ is) normal = (x.low, normal)

pub AreMarks-range : (bounds : List Bound) (keys : List Interval) → rises bounds ≡ true → IsNormal keys → AreMarks (range_part bounds) keys (range_marks bounds keys)
AreMarks-range bounds keys rising normal =
    let from = from_first keys normal in
    record {
      owners = λ p mark. owned from.0 bounds keys p rising from.1 mark;
      all = λ key p there place. all_marked from.0 bounds keys key p rising from.1 there place;
    }

-- after the last bound
pub all_read : (marks all : List Bool) (bs : List Bound) (i : ℕ) (rest : List Interval) → length bs ≤ i → marks ++ range_marks (drop i bs) rest ≡ all → marks ≡ all
all_read marks all bs i rest end whole =
    let read : marks ++ [] ≡ all = rw (drop_all i bs end) at whole in
    sym (append-nil marks) ∙ read

pub length-range_marks : (bs : List Bound) (is : List Interval) → length (range_marks bs is) ≡ length bs
length-range_marks [] is = refl
length-range_marks (b ∷ bs) is = let rest : length (range_marks bs (behind b is)) ≡ length bs = length-range_marks bs (behind b is) in omega (arith, rest)
