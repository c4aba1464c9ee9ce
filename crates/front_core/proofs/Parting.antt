-- The partitions that a statement asks, as they are planned and as they are defined.
use Rattle.std.proofs.Common.{◌≡◌, ◌+◌, ◌-◌, ◌<◌, ◌≤◌, ◌^◌, ◌==◌, ◌&&◌, ℕ, ℤ, zero, suc, pos, negsuc, ◌-ℤ◌, Bool, true, false, List, [], ◌∷◌, Option, Some, None, map, length, get_or, take, refl, sym, ◌∙◌, ap, arith, inl, inr, subst}
use Rattle.std.specs.Prelude.{FitsSigned, int_rem, unsigned_abs}
use Rattle.std.specs.Int.{w64}
use Rattle.std.specs.List.{Contains, filter, list_any, range_with_len}
use Rattle.std.specs.List.Sorted.{IsStrictlyIncreasing}
use Rattle.std.specs.Option.{option_map_or}
use Rattle.std.specs.Ordering.{nat_cmp}
use Rattle.std.proofs.lemmas.Bool.{cases_Bool, both_ways, and_parts}
use Rattle.std.proofs.lemmas.Cmp.{nat_cmp_total}
use Rattle.std.proofs.lemmas.Int.{ints, rem_below}
use Rattle.std.proofs.lemmas.List.FromFn.{length-range_with_len, get_or-range_with_len}
use Rattle.std.proofs.lemmas.List.Kept.{IsStrictlyIncreasing-filter}
use Rattle.std.proofs.lemmas.List.Quantifiers.{position-Some}
use Rattle.std.proofs.lemmas.Map.Keys.{sorted_from_strictly_increasing}
use Rattle.sql_values.specs.declared.places.Interval.{Interval}
use Rattle.sql_values.specs.KeySets.{has_key, is_within, AreKeys, AreBigInts}
use Rattle.part_rules.specs.declared.bounds.Bound.TheVariants.{MaxValue}
use Rattle.part_rules.specs.declared.rule.Rule.{Rule}
use Rattle.part_rules.specs.declared.rule.Rule.TheVariants as rule_is
use Rattle.part_rules.specs.Placing.{part, part_count, IsRule}
use Rattle.part_rules.specs.Pruned.{IsPruned, Owns}
use Rattle.part_rules.specs.Rules.{is_below, lists_key}
use Rattle.plain_tables.proofs.Members.{at_front, behind, either, nothing, kept_passes, passes_kept, one_list}
use Rattle.front_core.specs.Asked.{bigints, lies_at, owns, parts_with}

-- RANGES OF NUMBERS

in_range : (a n k : ℕ) → a ≤ k → k < a + n → Contains (range_with_len a n) k
in_range a zero k from below = let no : ⊥ = omega arith in absurd no
in_range a (suc n) k from below = elim (cases_Bool (a == k)) [
  | inl first ↦ let same : a ≡ k = grind (arith, first) in subst (λ (z : ℕ). Contains (a ∷ range_with_len (a + 1) n) z) same (at_front a (range_with_len (a + 1) n))
  | inr later ↦ let apart : a + 1 ≤ k = grind (arith, later) in behind a k (range_with_len (a + 1) n) (in_range (a + 1) n k apart (omega arith))
]

from_range : (a n k : ℕ) → Contains (range_with_len a n) k → (a ≤ k) × (k < a + n)
from_range a zero k there = nothing k there
from_range a (suc n) k there = elim (either a k (range_with_len (a + 1) n) there) [
  | inl same ↦ (omega arith, omega arith)
  | inr later ↦ let rest = from_range (a + 1) n k later in (omega (arith, rest.0), omega (arith, rest.1))
]

below_there : (n k : ℕ) → k < n → Contains (range_with_len 0 n) k
below_there n k below = in_range 0 n k (omega arith) (omega arith)

there_below : (n k : ℕ) → Contains (range_with_len 0 n) k → k < n
there_below n k there = omega (arith, (from_range 0 n k there).1)

-- KEYS OF A BIGINT

-- its place among all keys
abbrev place : ℤ → ℕ
place (pos n) = n + 2 ^ 63
place (negsuc n) = 2 ^ 63 - 1 - n

abbrev key_at : ℕ → ℤ
key_at = λ n. pos n -ℤ pos (2 ^ 63)

place_within : (k : ℤ) → FitsSigned w64 k → place k < 2 ^ 64
place_within (pos n) fits = omega (arith, ints, fits)
place_within (negsuc n) fits = omega (arith, ints, fits)

placed : (k : ℤ) → FitsSigned w64 k → key_at (place k) ≡ k
placed (pos n) fits = omega (arith, ints, fits)
placed (negsuc n) fits = omega (arith, ints, fits)

key_fits : (n : ℕ) → n < 2 ^ 64 → FitsSigned w64 (key_at n)
key_fits n within = omega (arith, ints)

mapped_fit : (xs : List ℕ) (k : ℤ) → ((m : ℕ) → Contains xs m → m < 2 ^ 64) → Contains (map key_at xs) k → FitsSigned w64 k
mapped_fit [] k below there = nothing k there
mapped_fit (x ∷ xs) k below there = elim (either (key_at x) k (map key_at xs) there) [
  | inl same ↦ subst (FitsSigned w64) same (key_fits x (below x (at_front x xs)))
  | inr later ↦ mapped_fit xs k (λ m c. below m (behind x m xs c)) later
]

-- a key of all is one of a BIGINT
pub bigint_fits : (k : ℤ) → Contains bigints k → FitsSigned w64 k
unfolding bigints
bigint_fits k there = mapped_fit (range_with_len 0 (2 ^ 64)) k (there_below (2 ^ 64)) there

-- a test on the keys of a BIGINT
module _ (test : ℤ → Bool) where
  mapped_any : (f : ℕ → ℤ) (xs : List ℕ) (n : ℕ) → Contains xs n → test (f n) ≡ true → list_any test (map f xs) ≡ true
  mapped_any f [] n there pass = nothing n there
  mapped_any f (x ∷ xs) n there pass = elim (either x n xs there) [
    | inl same ↦ let here : test (f x) ≡ true = ap (λ (m : ℕ). test (f m)) same ∙ pass in rw here refl
    | inr later ↦ elim (cases_Bool (test (f x))) [
      | inl yes_here ↦ rw yes_here refl
      | inr not_here ↦ rw not_here (mapped_any f xs n later pass)
    ]
  ]

  any_mapped : (f : ℕ → ℤ) (xs : List ℕ) → list_any test (map f xs) ≡ true → (n : ℕ) × Contains xs n × (test (f n) ≡ true)
  any_mapped f [] any = absurd (both_ways false refl any)
  any_mapped f (x ∷ xs) any = elim (cases_Bool (test (f x))) [
    | inl yes_here ↦ (x, at_front x xs, yes_here)
    | inr not_here ↦ let rest = any_mapped f xs (rw not_here at any) in (rest.0, behind x rest.0 xs rest.1, rest.2)
  ]

  -- where a key of a BIGINT passes, one of all does
  pub some_bigint : (k : ℤ) → FitsSigned w64 k → test k ≡ true → list_any test bigints ≡ true
  unfolding bigints
  some_bigint k fits pass = mapped_any key_at (range_with_len 0 (2 ^ 64)) (place k) (below_there (2 ^ 64) (place k) (place_within k fits)) (ap test (placed k fits) ∙ pass)

  pub bigint_some : list_any test bigints ≡ true → (k : ℤ) × FitsSigned w64 k × (test k ≡ true)
  unfolding bigints
  bigint_some any =
      let found = any_mapped key_at (range_with_len 0 (2 ^ 64)) any in
      (key_at found.0, key_fits found.0 (there_below (2 ^ 64) found.0 found.1), found.2)

-- a key of a set whose intervals end at keys of a BIGINT is one
within_fits : (k : ℤ) (i : Interval) → FitsSigned w64 i.low → FitsSigned w64 i.high → is_within k i ≡ true → FitsSigned w64 k
within_fits k i low high inside = grind (arith, ints)

key_of_set_fits : (keys : List Interval) (k : ℤ) → AreBigInts keys → has_key keys k ≡ true → FitsSigned w64 k
key_of_set_fits [] k ends there = absurd (both_ways false refl there)
key_of_set_fits (i ∷ is) k ends there = elim (cases_Bool (is_within k i)) [
  | inl inside ↦ within_fits k i ends.0 ends.1 inside
  | inr outside ↦ key_of_set_fits is k ends.2 (rw outside at there)
]

-- PARTITIONS

part_below : (rule : Rule) (k : ℤ) (p : ℕ) → IsRule rule → part rule k ≡ Some p → p < part_count rule
part_below rule_is.Whole k p is at = let zero_is : 0 ≡ p = cc in omega arith
part_below (rule_is.Range bounds) k p is at = (position-Some (is_below k) bounds p MaxValue at).0
part_below (rule_is.List lists) k p is at = (position-Some (lists_key k) lists p [] at).0
part_below (rule_is.Hash parts) k p is at =
    let there : unsigned_abs (int_rem k (pos parts)) ≡ p = cc in
    omega (arith, there, rem_below k (pos parts) (omega (arith, is.0)))

lies_there : (found : Option ℕ) (p : ℕ) → option_map_or (λ q. q == p) found false ≡ true → found ≡ Some p
lies_there None p lies = absurd (both_ways false refl lies)
lies_there (Some q) p lies = let same : q ≡ p = grind (arith, lies) in ap (λ (n : ℕ). Some n) same

there_lies : (found : Option ℕ) (p : ℕ) → found ≡ Some p → option_map_or (λ q. q == p) found false ≡ true
there_lies None p at = let no : None ≡ Some p = at in absurd (cc)
there_lies (Some q) p at = let same : q ≡ p = cc in grind (arith, same)

range_rises : (n : ℕ) → IsStrictlyIncreasing (range_with_len 0 n)
range_rises n k within =
    let long : length (range_with_len 0 n) ≡ n = length-range_with_len 0 n in
    omega (arith, get_or-range_with_len 0 n k 0 (omega (arith, long)), get_or-range_with_len 0 n (k + 1) 0 (omega (arith, long)))

-- WHAT IS ASKED

module _ (rule : Rule) (test : ℤ → Bool) (keys : List Interval) (is_rule : IsRule rule) (ends : AreBigInts keys) (are : AreKeys keys test) where
  -- a key that passes lies there
  abbrev Passes : ℕ → ℤ → Bool
  Passes p key = test key && lies_at rule p key

  both : (a b : Bool) → a ≡ true → b ≡ true → (a && b) ≡ true
  both a b x y = rw (x, y) refl

  owned : (p : ℕ) → Owns rule keys p → owns rule test p ≡ true
  owned p (key, there, lies) =
      let fits : FitsSigned w64 key = key_of_set_fits keys key ends there in
      some_bigint (Passes p) key fits (both (test key) (lies_at rule p key) (sym (are key fits) ∙ there) (there_lies (part rule key) p lies))

  owner : (p : ℕ) → owns rule test p ≡ true → Owns rule keys p
  owner p any =
      let found = bigint_some (Passes p) any in
      let parts = and_parts (test found.0) (lies_at rule p found.0) found.2 in
      (found.0, are found.0 found.1 ∙ parts.0, lies_there (part rule found.0) p parts.1)

  -- the partitions of a set of keys are those with a key that passes
  pub parts_are : (parts : List ℕ) → IsPruned rule keys parts → parts ≡ parts_with rule test
  unfolding parts_with
  parts_are parts pruned =
      one_list nat_cmp nat_cmp_total parts (filter (owns rule test) (range_with_len 0 (part_count rule)))
      (sorted_from_strictly_increasing parts pruned.rising)
      (sorted_from_strictly_increasing (filter (owns rule test) (range_with_len 0 (part_count rule))) (IsStrictlyIncreasing-filter (owns rule test) (range_with_len 0 (part_count rule)) (range_rises (part_count rule))))
      (λ p there. let own = pruned.owners p there in
      passes_kept (owns rule test) (range_with_len 0 (part_count rule)) p (below_there (part_count rule) p (part_below rule own.0 p is_rule own.2)) (owned p own))
      (λ p there. pruned.all p (owner p (kept_passes (owns rule test) (range_with_len 0 (part_count rule)) p there).1))

  -- and these are the partitions that own a key of the set
  pub are_pruned : IsPruned rule keys (parts_with rule test)
  unfolding parts_with
  are_pruned =
      let all : List ℕ = range_with_len 0 (part_count rule) in
      record {
        rising = IsStrictlyIncreasing-filter (owns rule test) all (range_rises (part_count rule));
        owners = λ p there. owner p (kept_passes (owns rule test) all p there).1;
        all = λ p own. passes_kept (owns rule test) all p (below_there (part_count rule) p (part_below rule own.0 p is_rule own.2)) (owned p own);
      }

-- a partition that owns a key which passes is asked, where it is one of the rule's
pub asked_there : (rule : Rule) (test : ℤ → Bool) (p : ℕ) → IsRule rule → owns rule test p ≡ true → Contains (parts_with rule test) p
unfolding parts_with
asked_there rule test p is_rule own =
    let found = bigint_some (λ key. test key && lies_at rule p key) own in
    let both = and_parts (test found.0) (lies_at rule p found.0) found.2 in
    passes_kept (owns rule test) (range_with_len 0 (part_count rule)) p
    (below_there (part_count rule) p (part_below rule found.0 p is_rule (lies_there (part rule found.0) p both.1))) own

-- INTERVALS THAT END AT KEYS OF A BIGINT

ends_up : (keys : List Interval) (i : ℕ) (d : Interval) → i < length keys → FitsSigned w64 (get_or keys i d).low → FitsSigned w64 (get_or keys i d).high → AreBigInts (take i keys) → AreBigInts (take (suc i) keys)
ends_up [] i d inside low high so_far = let no : ⊥ = omega arith in absurd no
ends_up (x ∷ xs) zero d inside low high so_far = (low, high, tt)
ends_up (x ∷ xs) (suc i) d inside low high so_far = (so_far.0, so_far.1, ends_up xs i d (omega arith) low high so_far.2)

-- one interval more
pub ends_more : (keys : List Interval) (i : ℕ) (d : Interval) → i < length keys → FitsSigned w64 (get_or keys i d).low → FitsSigned w64 (get_or keys i d).high → AreBigInts (take i keys) → AreBigInts (take (i + 1) keys)
ends_more keys i d inside low high so_far = let same : suc i ≡ i + 1 = omega arith in subst (λ (n : ℕ). AreBigInts (take n keys)) same (ends_up keys i d inside low high so_far)
