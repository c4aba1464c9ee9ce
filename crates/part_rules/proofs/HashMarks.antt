-- By HASH: so many keys in a row lie in all partitions.
use Rattle.std.proofs.Common.{◌≡◌, ℕ, suc, zero, ◌+◌, ◌-◌, ◌*◌, ◌/◌, ◌%◌, ◌<◌, ◌≤◌, ℤ, pos, negsuc, ◌+ℤ◌, ◌-ℤ◌, ◌≤ℤ◌, neg_ℤ, Bool, true, false, List, length, get_or, replicate, Some, refl, arith, inl, inr, ◌∙◌, ap, subst}
use Rattle.std.specs.Prelude.{unsigned_abs}
use Rattle.std.proofs.lemmas.Bool.{both_ways, cases_lt}
use Rattle.std.proofs.lemmas.Int.{ints}
use Rattle.std.proofs.lemmas.Nat.{mod-mul-add, div-add-mod', mod_below}
use Rattle.std.proofs.lemmas.List.Folds.{list_any_at}
use Rattle.sql_values.specs.declared.places.Interval.{Interval}
use Rattle.sql_values.specs.KeySets.{is_within}
use Rattle.part_rules.specs.Rules.{hash_part}
use Rattle.part_rules.specs.Marking.{IsMarked, AreMarks}
use Rattle.part_rules.proofs.Marks.{within_from, all_marked}

abs_neg : (n : ℕ) → unsigned_abs (neg_ℤ (pos n)) ≡ n
abs_neg zero = refl
abs_neg (suc n) = refl

pub hash_of_negative : (n m : ℕ) → hash_part n (negsuc m) ≡ suc m % n
hash_of_negative n m = abs_neg (suc m % n)

-- of n numbers in a row one has the remainder p
remainder_in_row : (a n p : ℕ) → p < n → (k : ℕ) × (k < n) × ((a + k) % n ≡ p)
remainder_in_row a n p within =
    let whole : a / n * n + a % n ≡ a = div-add-mod' a n in
    let below : a % n < n = mod_below a n (omega arith) in
    elim (cases_lt p (a % n)) [
      | inl before ↦
          let sum : a + (p + n - a % n) ≡ (a / n + 1) * n + p = omega arith in
          (p + n - a % n, omega arith, rw sum (mod-mul-add (a / n + 1) n p within))
      | inr from ↦
          let sum : a + (p - a % n) ≡ a / n * n + p = omega arith in
          (p - a % n, omega arith, rw sum (mod-mul-add (a / n) n p within))
    ]

mod_of_small : (n p : ℕ) → p < n → p % n ≡ p
mod_of_small n p within =
    let sum : 0 * n + p ≡ p = omega arith in
    let reduced : (0 * n + p) % n ≡ p = mod-mul-add 0 n p within in
    subst (λ (m : ℕ). m % n ≡ p) sum reduced

-- of so many keys in a row one lies in partition p
every_part : (n p : ℕ) (low high : ℤ) → p < n → (low +ℤ pos (2 * (n - 1))) ≤ℤ high → (key : ℤ) × (low ≤ℤ key) × (key ≤ℤ high) × (hash_part n key ≡ p)
every_part n p (pos a) high within long =
    let found = remainder_in_row a n p within in
    (pos (a + found.0), omega (arith, ints), omega (arith, ints, found.1), found.2)
every_part n p (negsuc a) (negsuc b) within long =
    let found = remainder_in_row (suc b) n p within in
    let same : suc (b + found.0) ≡ suc b + found.0 = omega arith in
    (negsuc (b + found.0), omega (arith, ints, found.1), omega (arith, ints), hash_of_negative n (b + found.0) ∙ rw same found.2)
every_part n p (negsuc a) (pos b) within long =
    elim (cases_lt b (n - 1)) [
      | inl short ↦ below_zero p short within
      | inr far ↦ (pos p, omega (arith, ints), omega (arith, ints), mod_of_small n p within)
    ]
  where
    below_zero : (p : ℕ) → b < n - 1 → p < n → (key : ℤ) × (negsuc a ≤ℤ key) × (key ≤ℤ pos b) × (hash_part n key ≡ p)
    below_zero zero short l = (pos 0, omega (arith, ints), omega (arith, ints), mod_of_small n 0 l)
    below_zero (suc p) short l = (negsuc p, omega (arith, ints), omega (arith, ints), hash_of_negative n p ∙ mod_of_small n (suc p) l)

marked_below : (n p : ℕ) → IsMarked (replicate n true) p → p < n
marked_below zero p mark = absurd (both_ways false refl mark)
marked_below (suc n) zero mark = omega arith
marked_below (suc n) (suc p) mark = omega (arith, marked_below n p mark)

-- where an interval has so many keys, all partitions are marked
pub AreMarks-full : (n : ℕ) (keys : List Interval) (i : ℕ) (d : Interval) (marks : List Bool) → 0 < n → i < length keys → ((get_or keys i d).low +ℤ pos (2 * (n - 1))) ≤ℤ (get_or keys i d).high → marks ≡ replicate n true → AreMarks (λ key. Some (hash_part n key)) keys marks
AreMarks-full n keys i d marks some within long full = record {
  owners = λ p mark.
      let found = every_part n p (get_or keys i d).low (get_or keys i d).high (marked_below n p (rw full at mark)) long in
      (found.0, list_any_at (is_within found.0) keys i d within (within_from found.0 (get_or keys i d) found.1 found.2), ap (λ (q : ℕ). Some q) found.3);
  all = λ key p there place.
      let is_place : hash_part n key ≡ p = cc in
      let below : hash_part n key < n = hash_within n key some in
      rw full (all_marked n p (omega (arith, is_place, below)));
}
  where
    hash_within : (n : ℕ) (key : ℤ) → 0 < n → hash_part n key < n
    hash_within n (pos a) some = mod_below a n some
    hash_within n (negsuc a) some = rw (hash_of_negative n a) (mod_below (suc a) n some)

-- the difference of the ends, as the code measures it
pub is_long : (low high : ℤ) (n : ℕ) → low ≤ℤ high → n ≤ unsigned_abs (high -ℤ low) → (low +ℤ pos n) ≤ℤ high
is_long low high n filled long = grind (arith, ints)
