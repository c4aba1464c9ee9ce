-- A list is known by its order, and by what ties with each element in turn.
use Rattle.std.proofs.Common.{◌≡◌, suc, Bool, true, false, cond, List, [], ◌∷◌, filter, refl, sym, subst, arith, inl, inr, add-one}
use Rattle.std.specs.Cmp.{IsStrictWeakOrder}
use Rattle.std.specs.List.{Contains}
use Rattle.std.specs.List.Sorted.{IsSortedBy, ties}
use Rattle.std.proofs.lemmas.Bool.{cases_Bool, both_ways}
use Rattle.std.proofs.lemmas.List.Sorted.{sorted_far}

pub sorted_tail : {X : Type 0} (lt : X → X → Bool) (x : X) (xs : List X) → IsSortedBy lt (x ∷ xs) → IsSortedBy lt xs
sorted_tail lt x xs up = λ k d low within. rw (add-one k) (rw (add-one (suc k)) at (up (suc k) d (omega arith) (omega arith)))

-- the first that passes is an element
pub found_in : {X : Type 0} (p : X → Bool) (ys : List X) (x : X) (rest : List X) → filter p ys ≡ x ∷ rest → Contains ys x
found_in p [] x rest found = absurd (let no : [] ≡ x ∷ rest = found in cc)
found_in p (y ∷ ys) x rest found =
    elim (cases_Bool (p y)) [
      | inl pass ↦
          let kept : y ∷ filter p ys ≡ x ∷ rest = rw pass at found in
          let same : y ≡ x = cc in
          (0, omega arith, same)
      | inr other ↦
          let later : Contains ys x = found_in p ys x rest (rw other at found) in
          (suc later.0, omega (arith, later.1), later.2)
    ]

ties_itself : {X : Type 0} (lt : X → X → Bool) → IsStrictWeakOrder lt → (x : X) → ties lt x x ≡ true
ties_itself lt o x =
    elim (cases_Bool (lt x x)) [
      | inl below ↦ absurd (both_ways (lt x x) (o.one_way x x below) below)
      | inr other ↦ rw other refl
    ]

not_first : {X : Type 0} (lt : X → X → Bool) (o : IsStrictWeakOrder lt) (y x : X) (ys : List X) → IsSortedBy lt (y ∷ ys) → Contains (y ∷ ys) x →
    lt x y ≡ false
not_first lt o y x ys up there =
    subst (λ (z : _). lt z y ≡ false) there.2 (sorted_far lt o (y ∷ ys) up 0 there.0 x (omega arith) there.1)

same_tail : {X : Type 0} (b : Bool) (x : X) (xs ys : List X) → cond b (x ∷ xs) xs ≡ cond b (x ∷ ys) ys → xs ≡ ys
same_tail true x xs ys same = let both : x ∷ xs ≡ x ∷ ys = same in cc
same_tail false x xs ys same = same

-- two sorted lists in which the same elements tie with each are one
pub one_list : {X : Type 0} (lt : X → X → Bool) (o : IsStrictWeakOrder lt) (xs ys : List X) → IsSortedBy lt xs → IsSortedBy lt ys →
    ((z : X) → filter (ties lt z) xs ≡ filter (ties lt z) ys) → xs ≡ ys
one_list lt o [] [] up rise alike = refl
one_list lt o [] (y ∷ ys) up rise alike =
    absurd (let found : [] ≡ y ∷ filter (ties lt y) ys = rw (ties_itself lt o y) at (alike y) in cc)
one_list lt o (x ∷ xs) [] up rise alike =
    absurd (let found : x ∷ filter (ties lt x) xs ≡ [] = rw (ties_itself lt o x) at (alike x) in cc)
one_list lt o (x ∷ xs) (y ∷ ys) up rise alike =
    let from_x : x ∷ filter (ties lt x) xs ≡ filter (ties lt x) (y ∷ ys) = rw (ties_itself lt o x) at (alike x) in
    let from_y : filter (ties lt y) (x ∷ xs) ≡ y ∷ filter (ties lt y) ys = rw (ties_itself lt o y) at (alike y) in
    let not_below : lt x y ≡ false = not_first lt o y x ys rise (found_in (ties lt x) (y ∷ ys) x _ (sym from_x)) in
    let not_above : lt y x ≡ false = not_first lt o x y xs up (found_in (ties lt y) (x ∷ xs) y _ from_y) in
    let tied : ties lt x y ≡ true = rw (not_below, not_above) refl in
    let heads : x ∷ filter (ties lt x) xs ≡ y ∷ filter (ties lt x) ys = rw tied at from_x in
    let same : x ≡ y = cc in
    let rest : xs ≡ ys = one_list lt o xs ys (sorted_tail lt x xs up) (sorted_tail lt y ys rise)
    (λ z. same_tail (ties lt z x) x _ _ (subst (λ w. filter (ties lt z) (x ∷ xs) ≡ filter (ties lt z) (w ∷ ys)) (sym same) (alike z))) in
    cc
