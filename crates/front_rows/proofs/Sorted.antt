-- Insertion sorts, and keeps elements that tie in their order.
use Rattle.std.proofs.Common.{◌≡◌, ℕ, suc, zero, ◌+◌, ◌<◌, ◌≤◌, Bool, true, false, not, cond, List, [], ◌∷◌, filter, length, get_or, refl, sym, ◌∙◌, ap, arith, inl, inr, add-one}
use Rattle.std.specs.Cmp.{IsStrictWeakOrder}
use Rattle.std.specs.List.Sorted.{IsSortedBy, IsStableBy, ties}
use Rattle.std.proofs.lemmas.Bool.{cases_Bool, false≢true, and_parts}
use Rattle.front_rows.specs.Comparing.{before}
use Rattle.front_rows.specs.Gathering.{all_rows}
use Rattle.front_rows.specs.Laws.{MergedRowsAreSorted}
use Rattle.front_rows.specs.Merging.{cut}
use Rattle.front_rows.proofs.OneList.{one_list}
use Rattle.front_rows.proofs.Orders.{before_ranks}
use Rattle.front_rows.specs.Sorting.{insert_by, sorted_by}

-- no element comes before the one in front of it
abbrev Rises : {X : Type 0} → (X → X → Bool) → List X → Type 0
Rises lt [] = Unit {0}
Rises lt (x ∷ []) = Unit {0}
Rises lt (x ∷ y ∷ ys) = (lt y x ≡ false) × Rises lt (y ∷ ys)

sorted_from : {X : Type 0} (lt : X → X → Bool) (xs : List X) → Rises lt xs → (k : ℕ) (d : X) → 0 ≤ k → k + 1 < length xs → lt (get_or xs (k + 1) d) (get_or xs k d) ≡ false
sorted_from lt [] up k d low within = let no : ⊥ = omega arith in absurd no
sorted_from lt (x ∷ []) up k d low within = let no : ⊥ = omega arith in absurd no
sorted_from lt (x ∷ y ∷ ys) up zero d low within = up.0
sorted_from lt (x ∷ y ∷ ys) up (suc k) d low within = rw (add-one (suc k)) (rw (add-one k) at (sorted_from lt (y ∷ ys) up.1 k d (omega arith) (omega arith)))

module _ {X : Type 0} (lt : X → X → Bool) (o : IsStrictWeakOrder lt) where
  rises_tail : (x : X) (xs : List X) → Rises lt (x ∷ xs) → Rises lt xs
  rises_tail x [] up = tt
  rises_tail x (y ∷ ys) up = up.1

  -- what is inserted behind an element that comes before it
  behind_first : (x y : X) (ys : List X) → lt y x ≡ true → Rises lt (y ∷ ys) → Rises lt (insert_by lt x ys) → Rises lt (y ∷ insert_by lt x ys)
  behind_first x y [] first up rest = (o.one_way y x first, tt)
  behind_first x y (z ∷ zs) first up rest = by_next (lt z x) refl
    where
      by_next : (b : Bool) → lt z x ≡ b → Rises lt (y ∷ cond (lt z x) (z ∷ insert_by lt x zs) (x ∷ z ∷ zs))
      by_next true next = rw next (up.0, rw next at rest)
      by_next false next = rw next (o.one_way y x first, rw next at rest)

  insert_rises : (x : X) (xs : List X) → Rises lt xs → Rises lt (insert_by lt x xs)
  insert_rises x [] up = tt
  insert_rises x (y ∷ ys) up = elim (cases_Bool (lt y x)) [
    | inl first ↦ rw first (behind_first x y ys first up (insert_rises x ys (rises_tail y ys up)))
    | inr not_first ↦ rw not_first (not_first, up)
  ]

  sorted_rises : (xs : List X) → Rises lt (sorted_by lt xs)
  unfolding sorted_by
  sorted_rises [] = tt
  sorted_rises (x ∷ xs) = insert_rises x (sorted_by lt xs) (sorted_rises xs)

  -- an element passes only those that don't tie where it does
  not_both : (z x y : X) → lt y x ≡ true → ties lt z x ≡ true → ties lt z y ≡ false
  not_both z x y first tied = elim (cases_Bool (ties lt z y)) [
    | inl too ↦
        let one = and_parts (not (lt z x)) (not (lt x z)) tied in
        let other = and_parts (not (lt z y)) (not (lt y z)) too in
        let below : lt y z ≡ false = grind (arith, other.1) in
        let above : lt z x ≡ false = grind (arith, one.0) in
        absurd (false≢true (sym (o.chain y z x below above) ∙ first))
    | inr apart ↦ apart
  ]

  passing : (z x y : X) (more ys : List X) → lt y x ≡ true → filter (ties lt z) more ≡ filter (ties lt z) (x ∷ ys) → filter (ties lt z) (y ∷ more) ≡ filter (ties lt z) (x ∷ y ∷ ys)
  passing z x y more ys first same = elim (cases_Bool (ties lt z x)) [
    | inl tied ↦ let apart : ties lt z y ≡ false = not_both z x y first tied in rw (apart, tied) (rw tied at same)
    | inr other ↦ rw other (ap (λ l. cond (ties lt z y) (y ∷ l) l) (rw other at same))
  ]

  insert_keeps : (z x : X) (xs : List X) → filter (ties lt z) (insert_by lt x xs) ≡ filter (ties lt z) (x ∷ xs)
  insert_keeps z x [] = refl
  insert_keeps z x (y ∷ ys) = elim (cases_Bool (lt y x)) [
    | inl first ↦ rw first (passing z x y (insert_by lt x ys) ys first (insert_keeps z x ys))
    | inr not_first ↦ rw not_first refl
  ]

  pub sorted_keeps : (z : X) (xs : List X) → filter (ties lt z) (sorted_by lt xs) ≡ filter (ties lt z) xs
  unfolding sorted_by
  sorted_keeps z [] = refl
  sorted_keeps z (x ∷ xs) = insert_keeps z x (sorted_by lt xs) ∙ ap (λ l. cond (ties lt z x) (x ∷ l) l) (sorted_keeps z xs)

  pub sorted_is_sorted : (xs : List X) → IsSortedBy lt (sorted_by lt xs)
  sorted_is_sorted xs = sorted_from lt (sorted_by lt xs) (sorted_rises xs)

  -- a list in this order, in which elements that tie stay in theirs, is the sorted one
  pub is_sorted_list : (xs ys : List X) → IsSortedBy lt ys → IsStableBy lt xs ys → ys ≡ sorted_by lt xs
  is_sorted_list xs ys up stable = one_list lt o ys (sorted_by lt xs) up (sorted_is_sorted xs) (λ z. stable z ∙ sym (sorted_keeps z xs))

pub merged_rows_are_sorted : MergedRowsAreSorted
merged_rows_are_sorted parts order skip most rows merged =
    merged.cut_is ∙ ap (cut skip most) (is_sorted_list (before order) (before_ranks order) (all_rows parts) merged.sorted merged.in_order.sorted_by merged.in_order.stable)
