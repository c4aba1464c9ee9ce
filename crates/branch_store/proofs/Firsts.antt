-- The first element that passes a test, by its place.
use Rattle.std.proofs.Common.{◌≡◌, ℕ, suc, zero, ◌<◌, ◌≤◌, Bool, true, false, List, [], ◌∷◌, Some, None, refl, arith, ◌∙◌, ap, cond, length, get_or, set, nat_lt}
use Rattle.std.specs.List.{find, position, position_or_len, remove}
use Rattle.std.proofs.lemmas.Bool.Decides.{nat_tests}
use Rattle.std.proofs.lemmas.List.Folds.{find_at}
use Rattle.std.proofs.lemmas.List.Quantifiers.{position-Some}
use Rattle.std.proofs.lemmas.Option.{slice_get_past}
use Rattle.branch_store.specs.Lists.{changed_first, without_first}

module _ {X : Type 0} (p : X → Bool) where
  changed_at : (f : X → X) (xs : List X) (i : ℕ) (d : X) → i < length xs → p (get_or xs i d) ≡ true → ((k : ℕ) → k < i → p (get_or xs k d) ≡ false) → changed_first p f xs ≡ set xs i (f (get_or xs i d))
  changed_at f [] i d within at before = let no : ⊥ = omega arith in absurd no
  changed_at f (x ∷ xs) zero d within at before = ap (λ b. cond b (f x ∷ xs) (x ∷ changed_first p f xs)) at
  changed_at f (x ∷ xs) (suc i) d within at before =
      ap (λ b. cond b (f x ∷ xs) (x ∷ changed_first p f xs)) (before zero (omega arith)) ∙ ap (λ (l : List X). x ∷ l) (changed_at f xs i d (omega arith) at (λ k less. before (suc k) (omega arith)))

  without_at : (xs : List X) (i : ℕ) (d : X) → i < length xs → p (get_or xs i d) ≡ true → ((k : ℕ) → k < i → p (get_or xs k d) ≡ false) → without_first p xs ≡ remove xs i
  without_at [] i d within at before = let no : ⊥ = omega arith in absurd no
  without_at (x ∷ xs) zero d within at before = ap (λ b. cond b xs (x ∷ without_first p xs)) at
  without_at (x ∷ xs) (suc i) d within at before =
      ap (λ b. cond b xs (x ∷ without_first p xs)) (before zero (omega arith)) ∙ ap (λ (l : List X). x ∷ l) (without_at xs i d (omega arith) at (λ k less. before (suc k) (omega arith)))

  found_at : (xs : List X) (i : ℕ) (d : X) → i < length xs → p (get_or xs i d) ≡ true → ((k : ℕ) → k < i → p (get_or xs k d) ≡ false) → find p xs ≡ Some (get_or xs i d)
  found_at [] i d within at before = let no : ⊥ = omega arith in absurd no
  found_at (x ∷ xs) zero d within at before = ap (λ b. cond b (Some x) (find p xs)) at
  found_at (x ∷ xs) (suc i) d within at before =
      ap (λ b. cond b (Some x) (find p xs)) (before zero (omega arith)) ∙ found_at xs i d (omega arith) at (λ k less. before (suc k) (omega arith))

  -- by what `position` gives
  pub changed_there : (f : X → X) (xs : List X) (i : ℕ) (d : X) → position p xs ≡ Some i → changed_first p f xs ≡ set xs i (f (get_or xs i d))
  changed_there f xs i d is = let at = position-Some p xs i d is in changed_at f xs i d at.0 at.1 at.2

  pub without_there : (xs : List X) (i : ℕ) (d : X) → position p xs ≡ Some i → without_first p xs ≡ remove xs i
  without_there xs i d is = let at = position-Some p xs i d is in without_at xs i d at.0 at.1 at.2

  pub found_there : (xs : List X) (i : ℕ) (d : X) → position p xs ≡ Some i → find p xs ≡ Some (get_or xs i d)
  found_there xs i d is = let at = position-Some p xs i d is in found_at xs i d at.0 at.1 at.2

  -- where none passes
  none_passes : (x : X) (xs : List X) (b : Bool) → cond b (Some x) (find p xs) ≡ None → (b ≡ false) × (find p xs ≡ None)
  none_passes x xs true none = let no : ⊥ = cc in absurd no
  none_passes x xs false none = (refl, none)

  pub none_changed : (f : X → X) (xs : List X) → find p xs ≡ None → changed_first p f xs ≡ xs
  none_changed f [] none = refl
  none_changed f (x ∷ xs) none =
      let at = none_passes x xs (p x) none in ap (λ b. cond b (f x ∷ xs) (x ∷ changed_first p f xs)) at.0 ∙ ap (λ (l : List X). x ∷ l) (none_changed f xs at.1)

  pub none_gone : (xs : List X) → find p xs ≡ None → without_first p xs ≡ xs
  none_gone [] none = refl
  none_gone (x ∷ xs) none =
      let at = none_passes x xs (p x) none in ap (λ b. cond b xs (x ∷ without_first p xs)) at.0 ∙ ap (λ (l : List X). x ∷ l) (none_gone xs at.1)

  nowhere : (n m : ℕ) (b : Bool) → nat_lt n m ≡ b → cond b (Some n) None ≡ None → m ≤ n
  nowhere n m true is none = let no : ⊥ = cc in absurd no
  nowhere n m false is none = grind (arith, nat_tests)

  pub none_there : (xs : List X) → position p xs ≡ None → find p xs ≡ None
  none_there xs is = find_at p xs ∙ slice_get_past xs (position_or_len p xs) (nowhere (position_or_len p xs) (length xs) (nat_lt (position_or_len p xs) (length xs)) refl is)
