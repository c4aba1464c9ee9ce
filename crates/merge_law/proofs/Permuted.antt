-- Lists of the elements that lie in each part, one after the other, have all elements.
use Rattle.std.proofs.Common.{◌≡◌, ℕ, suc, ◌+◌, ◌<◌, Bool, true, false, not, List, [], ◌∷◌, ◌++◌, refl, arith, sym, ◌∙◌, ap, subst, inl, inr, cond, slice_index}
use Rattle.std.specs.List.{AllByRecursion, Contains, filter, flat_map}
use Rattle.std.specs.List.Sorted.{IsPermutation, IsStrictlyIncreasing}
use Rattle.std.proofs.lemmas.Bool.{cases_Bool, false≢true}
use Rattle.std.proofs.lemmas.List.Sorted.{IsPermutation-refl, IsPermutation-sym, IsPermutation-trans, IsPermutation-append_right, IsPermutation-filter_both}
use Rattle.plain_tables.proofs.Members.{at_front, behind, either, nothing, all_of, all_by, kept_passes}

next : (k : ℕ) → suc k + 1 ≡ suc (k + 1)
next k = omega arith

-- a number that rising numbers begin with is below all others
pub below_all : (q : ℕ) (qs : List ℕ) → IsStrictlyIncreasing (q ∷ qs) → AllByRecursion (λ r. q < r) qs × IsStrictlyIncreasing qs
below_all q [] rises = (tt, λ k inside. let no : ⊥ = omega arith in absurd no)
below_all q (r ∷ rs) rises =
    let first : q < r = rises 0 (omega arith) in
    let tail : IsStrictlyIncreasing (r ∷ rs) = λ k inside. subst (λ n. slice_index (r ∷ rs) k < slice_index (q ∷ r ∷ rs) n) (next k) (rises (suc k) (omega arith)) in
    let later = below_all r rs tail in
    ((first, all_by (λ s. q < s) rs (λ s c. let above : r < s = all_of (λ t. r < t) rs s later.0 c in omega arith)), tail)

module _ {X : Type 0} (lies : ℕ → X → Bool) where
  -- the elements of a part are those that no earlier part has
  same_part : (q r : ℕ) (xs : List X) → ((x : X) → Contains xs x → lies q x ≡ true → lies r x ≡ true → q ≡ r) → q < r → filter (lies r) xs ≡ filter (lies r) (filter (λ x. not (lies q x)) xs)
  same_part q r [] apart below = refl
  same_part q r (x ∷ xs) apart below =
      let rest = same_part q r xs (λ y c. apart y (behind x y xs c)) below in
      elim (cases_Bool (lies q x)) [
        | inl first ↦
            let other : lies r x ≡ false = elim (cases_Bool (lies r x)) [
              | inl too ↦ let same : q ≡ r = apart x (at_front x xs) first too in let no : ⊥ = omega arith in absurd no
              | inr apart_there ↦ apart_there
            ] in
            rw (first, other) rest
        | inr elsewhere ↦ rw elsewhere (ap (λ l. cond (lies r x) (x ∷ l) l) rest)
      ]

  same_parts : (q : ℕ) (qs : List ℕ) (xs : List X) → ((r : ℕ) (x : X) → Contains xs x → lies q x ≡ true → lies r x ≡ true → q ≡ r) → AllByRecursion (λ r. q < r) qs
      → flat_map (λ r. filter (lies r) xs) qs ≡ flat_map (λ r. filter (lies r) (filter (λ x. not (lies q x)) xs)) qs
  same_parts q [] xs apart below = refl
  same_parts q (r ∷ rs) xs apart below =
      rw (same_part q r xs (λ x c. apart r x c) below.0, same_parts q rs xs apart below.1) refl

  -- each element lies in exactly one of the parts, so the parts, one after the other, have each once
  pub parts_permute : (qs : List ℕ) (xs : List X) → IsStrictlyIncreasing qs → ((q r : ℕ) (x : X) → Contains xs x → lies q x ≡ true → lies r x ≡ true → q ≡ r)
      → ((x : X) → Contains xs x → (q : ℕ) × Contains qs q × (lies q x ≡ true)) → IsPermutation (flat_map (λ q. filter (lies q) xs) qs) xs
  parts_permute [] [] rises apart placed = IsPermutation-refl []
  parts_permute [] (x ∷ xs) rises apart placed = nothing (placed x (at_front x xs)).0 (placed x (at_front x xs)).1
  parts_permute (q ∷ qs) xs rises apart placed =
      let order = below_all q qs rises in
      let others : List X = filter (λ x. not (lies q x)) xs in
      let rest : IsPermutation (flat_map (λ r. filter (lies r) others) qs) others = parts_permute qs others order.1
      (λ r s x c. apart r s x (kept_passes (λ y. not (lies q y)) xs x c).0)
      (λ x c.
      let at = kept_passes (λ y. not (lies q y)) xs x c in
      let place = placed x at.0 in
      elim (either q place.0 qs place.1) [
        | inl same ↦ let here : lies q x ≡ true = subst (λ r. lies r x ≡ true) (sym same) place.2 in absurd (false≢true (sym (ap not here) ∙ at.1))
        | inr later ↦ (place.0, later, place.2)
      ]) in
      let split : IsPermutation (filter (lies q) xs ++ others) xs = IsPermutation-sym _ _ (IsPermutation-filter_both (lies q) (λ x. not (lies q x)) (λ x. refl) xs) in
      IsPermutation-trans _ _ _
      (subst (λ l. IsPermutation (filter (lies q) xs ++ l) (filter (lies q) xs ++ others)) (sym (same_parts q qs xs (λ r x c. apart q r x c) order.0)) (IsPermutation-append_right (filter (lies q) xs) _ _ rest))
      split
