-- Lists: numbers from 0 on, places, and what is there once.
use Rattle.std.proofs.Common.{◌≡◌, ℕ, suc, zero, ◌+◌, ◌==◌, ◌<◌, ◌≤◌, Bool, true, false, List, [], ◌∷◌, ◌++◌, map, set, Some, refl, arith, sym, ◌∙◌, ap, subst, inl, inr, cond, filter, flat_map, length}
use Rattle.std.specs.Prelude.{slice_get}
use Rattle.std.specs.List.{Contains, range_with_len}
use Rattle.std.proofs.lemmas.Bool.{cases_Bool}
use Rattle.std.proofs.lemmas.Bool.Decides.{nat_tests}
use Rattle.plain_tables.proofs.Members.{at_front, behind, either, nothing}

-- a number is itself
pub is_itself : (n : ℕ) → (n == n) ≡ true
is_itself n = grind arith

pub is_other : (m n : ℕ) → (m ≡ n → ⊥) → (m == n) ≡ false
is_other m n other = elim (cases_Bool (m == n)) [
  | inl same ↦ absurd (other (grind (arith, nat_tests)))
  | inr apart ↦ apart
]

pub is_same : (m n : ℕ) → (m == n) ≡ true → m ≡ n
is_same m n same = grind (arith, nat_tests)

pub never_same : {P : Type 0} (m n : ℕ) → (m == n) ≡ false → m ≡ n → P
never_same m n other same = let no : ⊥ = grind (arith, nat_tests) in absurd no

-- PLACES

module _ {X : Type 0} where
  pub at_place : (xs : List X) (i : ℕ) (x : X) → slice_get xs i ≡ Some x → Contains xs x
  at_place [] i x at = let no : ⊥ = cc in absurd no
  at_place (y ∷ xs) zero x at = let same : y ≡ x = cc in subst (Contains (y ∷ xs)) same (at_front y xs)
  at_place (y ∷ xs) (suc i) x at = behind y x xs (at_place xs i x at)

  pub place_of : (xs : List X) (x : X) → Contains xs x → (i : ℕ) × (slice_get xs i ≡ Some x)
  place_of [] x c = nothing x c
  place_of (y ∷ xs) x c = elim (either y x xs c) [
    | inl same ↦ (0, ap (λ (z : X). Some z) same)
    | inr later ↦ let rest = place_of xs x later in (suc rest.0, rest.1)
  ]

  pub slice_get_there : (xs : List X) (i : ℕ) → i < length xs → (x : X) × (slice_get xs i ≡ Some x)
  slice_get_there [] i within = let no : ⊥ = omega arith in absurd no
  slice_get_there (y ∷ xs) zero within = (y, refl)
  slice_get_there (y ∷ xs) (suc i) within = slice_get_there xs i (omega arith)

  -- what is written where it stands changes nothing
  pub set_same : (xs : List X) (i : ℕ) (x : X) → slice_get xs i ≡ Some x → set xs i x ≡ xs
  set_same [] i x at = refl
  set_same (y ∷ xs) zero x at = let same : y ≡ x = cc in ap (λ z. z ∷ xs) (sym same)
  set_same (y ∷ xs) (suc i) x at = ap (λ l. y ∷ l) (set_same xs i x at)

module _ {X Y : Type 0} where
  pub into_map : (f : X → Y) (xs : List X) (x : X) → Contains xs x → Contains (map f xs) (f x)
  into_map f [] x c = nothing x c
  into_map f (z ∷ xs) x c = elim (either z x xs c) [
    | inl same ↦ subst (λ w. Contains (map f (z ∷ xs)) (f w)) same (at_front (f z) (map f xs))
    | inr later ↦ behind (f z) (f x) (map f xs) (into_map f xs x later)
  ]

  pub map_alike : (f g : X → Y) (xs : List X) → ((x : X) → Contains xs x → f x ≡ g x) → map f xs ≡ map g xs
  map_alike f g [] same = refl
  map_alike f g (x ∷ xs) same = rw (same x (at_front x xs)) (ap (λ l. g x ∷ l) (map_alike f g xs (λ z c. same z (behind x z xs c))))

  pub flat_alike : (f g : X → List Y) (xs : List X) → ((x : X) → Contains xs x → f x ≡ g x) → flat_map f xs ≡ flat_map g xs
  flat_alike f g [] same = refl
  flat_alike f g (x ∷ xs) same = rw (same x (at_front x xs)) (ap (λ l. g x ++ l) (flat_alike f g xs (λ z c. same z (behind x z xs c))))

-- what is left out gives nothing
pub flat_filter : {X Y : Type 0} (p : X → Bool) (f : X → List Y) (xs : List X) → ((x : X) → Contains xs x → p x ≡ false → f x ≡ []) → flat_map f (filter p xs) ≡ flat_map f xs
flat_filter p f [] none = refl
flat_filter p f (x ∷ xs) none =
    let rest = flat_filter p f xs (λ z c. none z (behind x z xs c)) in
    elim (cases_Bool (p x)) [
      | inl stays ↦ rw stays (ap (λ l. f x ++ l) rest)
      | inr goes ↦ rw (goes, none x (at_front x xs) goes) rest
    ]

-- nothing passes a test that no element passes
pub none_kept : {X : Type 0} (test : X → Bool) (xs : List X) → ((x : X) → Contains xs x → test x ≡ true → ⊥) → filter test xs ≡ []
none_kept test [] none = refl
none_kept test (x ∷ xs) none = elim (cases_Bool (test x)) [
  | inl here ↦ absurd (none x (at_front x xs) here)
  | inr other ↦ rw other (none_kept test xs (λ z c. none z (behind x z xs c)))
]

-- NUMBERS FROM ONE ON

next : (a i : ℕ) → (a + 1) + i ≡ a + suc i
next a i = omega arith

pub in_range : (a n k : ℕ) → Contains (range_with_len a n) k → (a ≤ k) × (k < a + n)
in_range a zero k c = nothing k c
in_range a (suc n) k c = elim (either a k (range_with_len (a + 1) n) c) [
  | inl same ↦ (omega arith, omega arith)
  | inr later ↦ let rest = in_range (a + 1) n k later in (omega (arith, rest.0), omega (arith, rest.1))
]

module _ {X : Type 0} (f : ℕ → X) where
  get_from : (a n i : ℕ) → i < n → slice_get (map f (range_with_len a n)) i ≡ Some (f (a + i))
  get_from a zero i within = let no : ⊥ = omega arith in absurd no
  get_from a (suc n) zero within = let same : a ≡ a + 0 = omega arith in ap (λ k. Some (f k)) same
  get_from a (suc n) (suc i) within = get_from (a + 1) n i (omega arith) ∙ ap (λ k. Some (f k)) (next a i)

  pub get_numbered : (n i : ℕ) → i < n → slice_get (map f (range_with_len 0 n)) i ≡ Some (f i)
  get_numbered n i within = let same : 0 + i ≡ i = omega arith in get_from 0 n i within ∙ ap (λ k. Some (f k)) same

  set_from : (g : ℕ → X) (a n i : ℕ) (y : X) → i < n → g (a + i) ≡ y → ((k : ℕ) → (k ≡ a + i → ⊥) → g k ≡ f k) → set (map f (range_with_len a n)) i y ≡ map g (range_with_len a n)
  set_from g a zero i y within here others = let no : ⊥ = omega arith in absurd no
  set_from g a (suc n) zero y within here others =
      let same : a + 0 ≡ a = omega arith in
      let first : y ≡ g a = sym here ∙ ap g same in
      let rest : map f (range_with_len (a + 1) n) ≡ map g (range_with_len (a + 1) n) =
      map_alike f g (range_with_len (a + 1) n) (λ k c. let low = (in_range (a + 1) n k c).0 in sym (others k (λ is. omega arith))) in
      ap (λ z. z ∷ map f (range_with_len (a + 1) n)) first ∙ ap (λ l. g a ∷ l) rest
  set_from g a (suc n) (suc i) y within here others =
      let first : f a ≡ g a = sym (others a (λ is. omega arith)) in
      let rest = set_from g (a + 1) n i y (omega arith) (ap g (next a i) ∙ here) (λ k not. others k (λ is. not (is ∙ sym (next a i)))) in
      ap (λ z. z ∷ set (map f (range_with_len (a + 1) n)) i y) first ∙ ap (λ l. g a ∷ l) rest

  pub set_numbered : (g : ℕ → X) (n i : ℕ) (y : X) → i < n → g i ≡ y → ((k : ℕ) → (k ≡ i → ⊥) → g k ≡ f k) → set (map f (range_with_len 0 n)) i y ≡ map g (range_with_len 0 n)
  set_numbered g n i y within here others =
      let same : 0 + i ≡ i = omega arith in
      set_from g 0 n i y within (ap g same ∙ here) (λ k not. others k (λ is. not (is ∙ sym same)))

-- a number that is there gives once, and the others give nothing
module _ {X : Type 0} (p : ℕ → Bool) (x : ℕ → X) (s : ℕ) where
  abbrev gives : ℕ → List X
  gives k = cond (k == s) (x k ∷ []) []

  none_from : (a n : ℕ) → s < a → flat_map gives (filter p (range_with_len a n)) ≡ []
  none_from a zero past = refl
  none_from a (suc n) past =
      let rest = none_from (a + 1) n (omega arith) in
      let apart : (a == s) ≡ false = is_other a s (λ is. omega arith) in
      elim (cases_Bool (p a)) [
        | inl stays ↦ rw (stays, apart) rest
        | inr goes ↦ rw goes rest
      ]

  one_from : (a n : ℕ) → a ≤ s → s < a + n → p s ≡ true → flat_map gives (filter p (range_with_len a n)) ≡ x s ∷ []
  one_from a zero low high pass = let no : ⊥ = omega arith in absurd no
  one_from a (suc n) low high pass = elim (cases_Bool (a == s)) [
    | inl here ↦
        let same : a ≡ s = is_same a s here in
        let stays : p a ≡ true = ap p same ∙ pass in
        rw (stays, here, none_from (a + 1) n (omega arith)) (ap (λ k. x k ∷ []) same)
    | inr elsewhere ↦
        let more : a < s = grind (arith, nat_tests, elsewhere) in
        let rest = one_from (a + 1) n (omega arith) (omega arith) pass in
        elim (cases_Bool (p a)) [
          | inl stays ↦ rw (stays, elsewhere) rest
          | inr goes ↦ rw goes rest
        ]
  ]

  pub gives_once : (n : ℕ) → s < n → p s ≡ true → flat_map gives (filter p (range_with_len 0 n)) ≡ x s ∷ []
  gives_once n within pass = one_from 0 n (omega arith) (omega arith) pass
