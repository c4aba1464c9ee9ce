-- The elements of lists: of a filter, of lists one after the other, and of two lists that rise.
use Rattle.std.proofs.Common.{◌≡◌, suc, zero, Bool, true, List, [], ◌∷◌, map, refl, arith, sym, ◌∙◌, ap, subst, inl, inr, cond}
use Rattle.std.specs.Prelude.{◌⊎◌}
use Rattle.std.specs.List.{AllByRecursion, Contains, filter, flat_map}
use Rattle.std.specs.List.Sorted.{IsStrictlySortedBy}
use Rattle.std.specs.Cmp.{IsTotalOrder}
use Rattle.std.specs.Ordering.{ordering_reverse}
use Rattle.std.specs.declared.cmp.Ordering.{Ordering}
use Rattle.std.specs.declared.cmp.Ordering.TheVariants.{Less}
use Rattle.std.proofs.lemmas.Bool.{cases_Bool}
use Rattle.std.proofs.lemmas.List.Elements.{Contains-append_left, Contains-append_right, Contains-append_cases}

module _ {X : Type 0} where
  pub at_front : (x : X) (xs : List X) → Contains (x ∷ xs) x
  at_front x xs = (0, omega arith, refl)

  pub behind : (x z : X) (xs : List X) → Contains xs z → Contains (x ∷ xs) z
  behind x z xs (k, l, e) = (suc k, omega arith, e)

  pub either : (x z : X) (xs : List X) → Contains (x ∷ xs) z → (x ≡ z) ⊎ Contains xs z
  either x z xs (zero, l, e) = inl e
  either x z xs (suc k, l, e) = inr (k, omega arith, e)

  pub nothing : {P : Type 0} (z : X) → Contains [] z → P
  nothing z (k, l, e) = let no : ⊥ = omega arith in absurd no

  pub all_of : (P : X → Type 0) (xs : List X) (z : X) → AllByRecursion P xs → Contains xs z → P z
  all_of P [] z h c = nothing z c
  all_of P (x ∷ xs) z h c = elim (either x z xs c) [
    | inl same ↦ subst P same h.0
    | inr later ↦ all_of P xs z h.1 later
  ]

  pub all_by : (P : X → Type 0) (xs : List X) → ((z : X) → Contains xs z → P z) → AllByRecursion P xs
  all_by P [] f = tt
  all_by P (x ∷ xs) f = (f x (at_front x xs), all_by P xs (λ z c. f z (behind x z xs c)))

  -- a filter's elements are the list's that pass the test
  pub kept_passes : (p : X → Bool) (xs : List X) (z : X) → Contains (filter p xs) z → Contains xs z × (p z ≡ true)
  kept_passes p [] z c = nothing z c
  kept_passes p (x ∷ xs) z c = elim (cases_Bool (p x)) [
    | inl stays ↦ elim (either x z (filter p xs) (subst (λ b. Contains (cond b (x ∷ filter p xs) (filter p xs)) z) stays c)) [
      | inl same ↦ (subst (Contains (x ∷ xs)) same (at_front x xs), subst (λ y. p y ≡ true) same stays)
      | inr later ↦ let rest = kept_passes p xs z later in (behind x z xs rest.0, rest.1)
    ]
    | inr goes ↦ let rest = kept_passes p xs z (subst (λ b. Contains (cond b (x ∷ filter p xs) (filter p xs)) z) goes c) in (behind x z xs rest.0, rest.1)
  ]

  pub passes_kept : (p : X → Bool) (xs : List X) (z : X) → Contains xs z → p z ≡ true → Contains (filter p xs) z
  passes_kept p [] z c pass = nothing z c
  passes_kept p (x ∷ xs) z c pass = elim (either x z xs c) [
    | inl same ↦ let here : p x ≡ true = ap p same ∙ pass in
        subst (λ b. Contains (cond b (x ∷ filter p xs) (filter p xs)) z) (sym here) (subst (Contains (x ∷ filter p xs)) same (at_front x (filter p xs)))
    | inr later ↦ let rest = passes_kept p xs z later pass in elim (cases_Bool (p x)) [
      | inl stays ↦ subst (λ b. Contains (cond b (x ∷ filter p xs) (filter p xs)) z) (sym stays) (behind x z (filter p xs) rest)
      | inr goes ↦ subst (λ b. Contains (cond b (x ∷ filter p xs) (filter p xs)) z) (sym goes) rest
    ]
  ]

-- an element of lists, one after the other, is one of a list
pub in_lists : {X P : Type 0} (f : P → List X) (ps : List P) (z : X) → Contains (flat_map f ps) z → (p : P) × Contains ps p × Contains (f p) z
in_lists f [] z c = nothing z c
in_lists f (p ∷ ps) z c = elim (Contains-append_cases (f p) (flat_map f ps) z c) [
  | inl here ↦ (p, at_front p ps, here)
  | inr later ↦ let rest = in_lists f ps z later in (rest.0, behind p rest.0 ps rest.1, rest.2)
]

pub from_list : {X P : Type 0} (f : P → List X) (ps : List P) (p : P) (z : X) → Contains ps p → Contains (f p) z → Contains (flat_map f ps) z
from_list f [] p z at c = nothing p at
from_list f (q ∷ ps) p z at c = elim (either q p ps at) [
  | inl same ↦ Contains-append_left (f q) (flat_map f ps) z (subst (λ r. Contains (f r) z) (sym same) c)
  | inr later ↦ Contains-append_right (f q) (flat_map f ps) z (from_list f ps p z later c)
]

-- an element of a map is of an element
pub mapped_from : {X Y : Type 0} (f : X → Y) (xs : List X) (y : Y) → Contains (map f xs) y → (x : X) × Contains xs x × (f x ≡ y)
mapped_from f [] y c = nothing y c
mapped_from f (x ∷ xs) y c = elim (either (f x) y (map f xs) c) [
  | inl same ↦ (x, at_front x xs, same)
  | inr later ↦ let rest = mapped_from f xs y later in (rest.0, behind x rest.0 xs rest.1, rest.2)
]

module _ {X : Type 0} (cmp : X → X → Ordering) where
  pub not_below : {P : Type 0} → IsTotalOrder cmp → (x y : X) → cmp x y ≡ Less → cmp y x ≡ Less → P
  not_below o x y a b = let turned : Less ≡ ordering_reverse Less = sym a ∙ (o.antisymm x y ∙ ap ordering_reverse b) in let no : ⊥ = cc in absurd no

  -- two lists that rise and have the same elements are one
  pub one_list : IsTotalOrder cmp → (xs ys : List X) → IsStrictlySortedBy cmp xs → IsStrictlySortedBy cmp ys → ((z : X) → Contains xs z → Contains ys z) → ((z : X) → Contains ys z → Contains xs z) → xs ≡ ys
  unfolding IsStrictlySortedBy
  one_list o [] [] a b to from = refl
  one_list o [] (y ∷ ys) a b to from = nothing y (from y (at_front y ys))
  one_list o (x ∷ xs) [] a b to from = nothing x (to x (at_front x xs))
  one_list o (x ∷ xs) (y ∷ ys) a b to from =
      let same : x ≡ y = elim (either y x ys (to x (at_front x xs))) [
        | inl is ↦ sym is
        | inr later ↦ elim (either x y xs (from y (at_front y ys))) [
          | inl is ↦ is
          | inr deep ↦ not_below o x y (all_of (λ z. cmp x z ≡ Less) xs y a.0 deep) (all_of (λ z. cmp y z ≡ Less) ys x b.0 later)
        ]
      ] in
      let onward : (z : X) → Contains xs z → Contains ys z = λ z c. elim (either y z ys (to z (behind x z xs c))) [
        | inl is ↦ let up = all_of (λ w. cmp x w ≡ Less) xs z a.0 c in let loop : cmp z z ≡ Less = subst (λ w. cmp w z ≡ Less) (same ∙ is) up in not_below o z z loop loop
        | inr later ↦ later
      ] in
      let back : (z : X) → Contains ys z → Contains xs z = λ z c. elim (either x z xs (from z (behind y z ys c))) [
        | inl is ↦ let up = all_of (λ w. cmp y w ≡ Less) ys z b.0 c in let loop : cmp z z ≡ Less = subst (λ w. cmp w z ≡ Less) (sym same ∙ is) up in not_below o z z loop loop
        | inr later ↦ later
      ] in
      rw same (ap (λ rest. y ∷ rest) (one_list o xs ys a.1 b.1 onward back))
