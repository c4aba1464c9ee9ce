-- The place of the first element that passes a test.
use Rattle.std.proofs.Common.{length-append, add-zero, subst, inl, inr, ◌≡◌, ℕ, suc, zero, ◌+◌, ◌<◌, ◌≤◌, Bool, true, false, not, cond, List, [], ◌∷◌, ◌++◌, length, take, get_or, Some, None, refl, arith, ap, ◌∙◌, eqb}
use Rattle.std.specs.Prelude.{nat_lt}
use Rattle.std.specs.List.{position, position_or_len}
use Rattle.std.specs.List.Sorted.{IsPartitionPoint}
use Rattle.std.specs.Option.{option_or}
use Rattle.std.proofs.lemmas.Bool.{both_ways, lt-ltb, le-ltb, cond-true, cond-false, eq-eqb, ne_eqb, cases_lt}
use Rattle.std.proofs.lemmas.List.{take_more}
use Rattle.std.proofs.lemmas.List.Folds.{position_or_len_push}
use Rattle.std.proofs.lemmas.List.Quantifiers.{position-Some}
use Rattle.std.proofs.lemmas.List.Sums.{prefix_len-le-length}
use Rattle.std.proofs.lemmas.Grind.{common_steps}

-- where all before a place fail and that at the place passes, it is the place
position_or_len_is : {X : Type 0} (p : X → Bool) (xs : List X) (i : ℕ) → i ≤ length xs → ((k : ℕ) (d : X) → k < i → p (get_or xs k d) ≡ false) → ((d : X) → i < length xs → p (get_or xs i d) ≡ true) → position_or_len p xs ≡ i
position_or_len_is p [] zero within before here = refl
position_or_len_is p [] (suc i) within before here = absurd (omega arith)
position_or_len_is p (x ∷ xs) zero within before here = let yes_here : p x ≡ true = here x (omega arith) in rw yes_here refl
position_or_len_is p (x ∷ xs) (suc i) within before here =
    let fails : p x ≡ false = before 0 x (omega arith) in
    let rest : position_or_len p xs ≡ i = position_or_len_is p xs i (omega arith) (λ k d l. before (suc k) d (omega arith)) (λ d l. here d (omega arith)) in
    rw fails (grind (arith, rest))

-- what a binary search for the first that passes tells
pub position_of_point : {X : Type 0} (p : X → Bool) (xs : List X) (i : ℕ) → i ≤ length xs → IsPartitionPoint (λ y. not (p y) ≡ true) (λ y. not (p y) ≡ false) xs i → position_or_len p xs ≡ i
position_of_point p xs i within point =
    position_or_len_is p xs i within
    (λ k d l. grind (arith, point.0 k d (omega arith) l))
    (λ d l. grind (arith, point.1 i d (omega arith) l))

pub position-here : {X : Type 0} (p : X → Bool) (xs : List X) (i : ℕ) → position_or_len p xs ≡ i → i < length xs → position p xs ≡ Some i
position-here p xs i is_place within =
    let test : nat_lt (position_or_len p xs) (length xs) ≡ true = lt-ltb (position_or_len p xs) (length xs) (omega arith) in
    cond-true (nat_lt (position_or_len p xs) (length xs)) (Some (position_or_len p xs)) None test ∙ ap (λ (k : ℕ). Some k) is_place

pub position-nowhere : {X : Type 0} (p : X → Bool) (xs : List X) → length xs ≤ position_or_len p xs → position p xs ≡ None
position-nowhere p xs past =
    let test : nat_lt (position_or_len p xs) (length xs) ≡ false = le-ltb (position_or_len p xs) (length xs) past in
    cond-false (nat_lt (position_or_len p xs) (length xs)) (Some (position_or_len p xs)) None test

-- the place of the first in a list and one more element, by the place in the list
push_place : (m n : ℕ) (b : Bool) → m ≤ n → cond (nat_lt (cond (eqb m n) (n + cond b 0 1) m) (n + 1)) (Some (cond (eqb m n) (n + cond b 0 1) m)) None ≡ option_or (cond (nat_lt m n) (Some m) None) (cond b (Some n) None)
push_place m n b within =
    elim (cases_lt m n) [
      | inl before ↦
          let apart : eqb m n ≡ false = ne_eqb m n (λ e. absurd (omega arith)) in
          let first : nat_lt m n ≡ true = lt-ltb m n before in
          let still : nat_lt m (n + 1) ≡ true = lt-ltb m (n + 1) (omega arith) in
          rw (apart, first, still) refl
      | inr past ↦
          let same : m ≡ n = omega arith in
          let equal : eqb m n ≡ true = eq-eqb m n same in
          let none : nat_lt m n ≡ false = le-ltb m n past in
          rw (equal, none) (last b)
    ]
  where
    last : (b : Bool) → cond (nat_lt (n + cond b 0 1) (n + 1)) (Some (n + cond b 0 1)) None ≡ cond b (Some n) None
    last true = let here : nat_lt (n + 0) (n + 1) ≡ true = lt-ltb (n + 0) (n + 1) (omega arith) in rw (here, add-zero n) refl
    last false = let nowhere : nat_lt (n + 1) (n + 1) ≡ false = le-ltb (n + 1) (n + 1) (omega arith) in rw nowhere refl

-- one element more
pub position-push : {X : Type 0} (p : X → Bool) (xs : List X) (y : X) → position p (xs ++ y ∷ []) ≡ option_or (position p xs) (cond (p y) (Some (length xs)) None)
position-push p xs y =
    rw (position_or_len_push p xs y, length-append xs (y ∷ [])) (push_place (position_or_len p xs) (length xs) (p y) (prefix_len-le-length (λ x. not (p x)) xs))

pub position-more : {X : Type 0} (p : X → Bool) (xs : List X) (i : ℕ) (d : X) → i < length xs → position p (take (i + 1) xs) ≡ option_or (position p (take i xs)) (cond (p (get_or xs i d)) (Some i) None)
position-more p xs i d within =
    let len : length (take i xs) ≡ i = grind (arith, common_steps) in
    rw (take_more xs i d within)
    (subst (λ (n : ℕ). position p (take i xs ++ get_or xs i d ∷ []) ≡ option_or (position p (take i xs)) (cond (p (get_or xs i d)) (Some n) None)) len
    (position-push p (take i xs) (get_or xs i d)))

-- the place in a list by its first element
pub position-first : {X : Type 0} (p : X → Bool) (x : X) (xs : List X) → p x ≡ true → position p (x ∷ xs) ≡ Some 0
position-first p x xs passes = position-here p (x ∷ xs) 0 (rw passes refl) (omega arith)

pub position-behind : {X : Type 0} (p : X → Bool) (x : X) (xs : List X) (i : ℕ) → p x ≡ false → position p xs ≡ Some i → position p (x ∷ xs) ≡ Some (suc i)
position-behind {X} p x xs i fails found =
    let at = position-Some p xs i x found in
    position-here p (x ∷ xs) (suc i)
    (position_or_len_is p (x ∷ xs) (suc i) (omega (arith, at.0)) (λ k d l. earlier k d l) (λ d l. there d))
    (omega (arith, at.0))
  where
    earlier : (k : ℕ) (d : X) → k < suc i → p (get_or (x ∷ xs) k d) ≡ false
    earlier zero d l = fails
    earlier (suc k) d l = (position-Some p xs i d found).2 k (omega arith)

    there : (d : X) → p (get_or xs i d) ≡ true
    there d = (position-Some p xs i d found).1

pub position-behind_of : {X : Type 0} (p : X → Bool) (x : X) (xs : List X) (i : ℕ) → p x ≡ false → position p (x ∷ xs) ≡ Some i → (j : ℕ) × (i ≡ suc j) × (position p xs ≡ Some j)
position-behind_of p x xs zero fails found =
    let passes : p x ≡ true = (position-Some p (x ∷ xs) zero x found).1 in
    absurd (both_ways (p x) fails passes)
position-behind_of p x xs (suc j) fails found =
    let at = position-Some p (x ∷ xs) (suc j) x found in
    (j, refl, position-here p xs j (position_or_len_is p xs j (omega (arith, at.0)) (λ k d l. (position-Some p (x ∷ xs) (suc j) d found).2 (suc k) (omega arith)) (λ d l. (position-Some p (x ∷ xs) (suc j) d found).1)) (omega (arith, at.0)))
