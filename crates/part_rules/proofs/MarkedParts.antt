-- The places of marks, as a rising list.
use Rattle.std.proofs.Common.{◌≡◌, ℕ, suc, zero, ◌+◌, ◌<◌, ◌≤◌, Bool, true, false, not, List, [], ◌∷◌, length, get_or, Some, refl, arith, ◌⊎◌, inl, inr, ap, subst, add-zero, zero-add, add-one}
use Rattle.std.specs.List.{Contains}
use Rattle.std.specs.List.Sorted.{IsStrictlyIncreasing}
use Rattle.std.proofs.lemmas.Bool.{both_ways, cases_Bool, not_from_true, not-false}
use Rattle.std.proofs.lemmas.Int.{ints}
use Rattle.sql_values.specs.declared.places.Interval.{Interval}
use Rattle.part_rules.specs.declared.rule.Rule.{Rule}
use Rattle.part_rules.specs.declared.rule.Rule.TheVariants.{Whole}
use Rattle.sql_values.specs.KeySets.{IsNormal}
use Rattle.part_rules.specs.Placing.{part}
use Rattle.part_rules.specs.Pruned.{IsPruned}
use Rattle.part_rules.specs.Marking.{IsMarked, AreMarks, marked_from}
use Rattle.part_rules.proofs.ListMarks.{first_in, later_in}
use Rattle.sql_values.proofs.OneList.{at_first}

-- an element of a list is the first or one behind it
in_cases : {X : Type 0} (y x : X) (xs : List X) → Contains (y ∷ xs) x → (y ≡ x) ⊎ Contains xs x
in_cases y x xs there = by_place there.0 there.1 there.2
  where
    by_place : (k : ℕ) → k < suc (length xs) → get_or (y ∷ xs) k x ≡ x → (y ≡ x) ⊎ Contains xs x
    by_place zero within is = inl is
    by_place (suc k) within is = inr (k, omega arith, is)

listed : (i : ℕ) (marks : List Bool) (k : ℕ) → IsMarked marks k → Contains (marked_from i marks) (i + k)
listed i [] k mark = absurd (both_ways false refl mark)
listed i (m ∷ marks) zero mark = rw (mark, add-zero i) (first_in i (marked_from (i + 1) marks))
listed i (m ∷ marks) (suc k) mark =
    let same : i + 1 + k ≡ i + suc k = omega arith in
    let later : Contains (marked_from (i + 1) marks) (i + suc k) = subst (λ (p : ℕ). Contains (marked_from (i + 1) marks) p) same (listed (i + 1) marks k mark) in
    elim (cases_Bool m) [
      | inl set ↦ rw set (later_in i (i + suc k) (marked_from (i + 1) marks) later)
      | inr clear ↦ rw clear later
    ]

mark_of : (i : ℕ) (marks : List Bool) (p : ℕ) → Contains (marked_from i marks) p → (k : ℕ) × (p ≡ i + k) × IsMarked marks k
mark_of i [] p there = absurd (omega (arith, there.1))
mark_of i (m ∷ marks) p there =
    elim (cases_Bool m) [
      | inl set ↦
          elim (in_cases i p (marked_from (i + 1) marks) (rw set at there)) [
            | inl first ↦ (0, omega arith, set)
            | inr later ↦ let found = mark_of (i + 1) marks p later in (suc found.0, omega (arith, found.1), found.2)
          ]
      | inr clear ↦ let found = mark_of (i + 1) marks p (rw clear at there) in (suc found.0, omega (arith, found.1), found.2)
    ]

-- a rising list, all of which is at i or above
abbrev RisesAt : ℕ → List ℕ → Type 0
RisesAt i xs = IsStrictlyIncreasing xs × ((k : ℕ) → k < length xs → i ≤ get_or xs k 0)

rises_below : (i : ℕ) (xs : List ℕ) → RisesAt (i + 1) xs → RisesAt i (i ∷ xs)
rises_below i xs rises = (steps, least)
  where
    steps : IsStrictlyIncreasing (i ∷ xs)
    steps zero within = let next : i + 1 ≤ get_or xs 0 0 = rises.1 0 (omega arith) in omega arith
    steps (suc k) within =
        let next : get_or xs k 0 < get_or xs (suc k) 0 = rw (add-one k) at (rises.0 k (omega arith)) in
        rw (add-one (suc k)) next

    least : (k : ℕ) → k < length (i ∷ xs) → i ≤ get_or (i ∷ xs) k 0
    least zero within = omega arith
    least (suc k) within = let next : i + 1 ≤ get_or xs k 0 = rises.1 k (omega arith) in omega arith

rising : (i : ℕ) (marks : List Bool) → RisesAt i (marked_from i marks)
rising i [] = (λ k within. absurd (omega arith), λ k within. absurd (omega arith))
rising i (m ∷ marks) =
    let later = rising (i + 1) marks in
    elim (cases_Bool m) [
      | inl set ↦ rw set (rises_below i (marked_from (i + 1) marks) later)
      | inr clear ↦ rw clear (later.0, λ k within. let next : i + 1 ≤ get_or (marked_from (i + 1) marks) k 0 = later.1 k within in omega arith)
    ]

pub IsPruned-marked : (rule : Rule) (keys : List Interval) (marks : List Bool) (parts : List ℕ) → AreMarks (part rule) keys marks → parts ≡ marked_from 0 marks → IsPruned rule keys parts
IsPruned-marked rule keys marks parts are is_parts = record {
  rising = rw is_parts (rising 0 marks).0;
  owners = λ p there.
      let found = mark_of 0 marks p (rw is_parts at there) in
      let same : found.0 ≡ p = omega (arith, found.1) in
      are.owners p (subst (λ (q : ℕ). IsMarked marks q) same found.2);
  all = λ p owner.
      let mark : IsMarked marks p = are.all owner.0 p owner.1 owner.2 in
      rw is_parts (subst (λ (q : ℕ). Contains (marked_from 0 marks) q) (zero-add p) (listed 0 marks p mark));
}

-- one partition has all keys
pub AreMarks-whole_rule : (keys : List Interval) (some : Bool) → IsNormal keys → (keys ≡ [] → some ≡ false) → (some ≡ false → keys ≡ []) → AreMarks (λ key. Some 0) keys (some ∷ [])
AreMarks-whole_rule [] some normal none empty = record {
  owners = λ p mark. absurd (no_mark p mark);
  all = λ key p there place. absurd (both_ways false refl there);
}
  where
    no_mark : (p : ℕ) → IsMarked (some ∷ []) p → ⊥
    no_mark zero mark = both_ways some (none refl) mark
    no_mark (suc p) mark = both_ways false refl mark
AreMarks-whole_rule (x ∷ is) some normal none empty = record {
  owners = λ p mark. (x.low, at_first x is x.low (omega (arith, ints)) normal.1, ap (λ (q : ℕ). Some q) (first p mark));
  all = λ key p there place. let is_first : 0 ≡ p = cc in subst (λ (q : ℕ). IsMarked (some ∷ []) q) is_first is_some;
}
  where
    first : (p : ℕ) → IsMarked (some ∷ []) p → 0 ≡ p
    first zero mark = refl
    first (suc p) mark = absurd (both_ways false refl mark)

    is_some : some ≡ true
    is_some = elim (cases_Bool some) [ inl set ↦ set | inr clear ↦ let gone : x ∷ is ≡ [] = empty clear in cc ]

pub AreMarks-by_whole : (rule : Rule) (keys : List Interval) (empty : Bool) (marks : List Bool) → rule ≡ Whole → IsNormal keys → (empty ≡ true → keys ≡ []) → (keys ≡ [] → empty ≡ true) → marks ≡ not empty ∷ [] → AreMarks (part rule) keys marks
AreMarks-by_whole rule keys empty marks is_whole normal gone none is_marks =
    rw (is_whole, is_marks)
    (AreMarks-whole_rule keys (not empty) normal (λ e. not_from_true empty (none e)) (λ e. gone (not-false empty e)))
