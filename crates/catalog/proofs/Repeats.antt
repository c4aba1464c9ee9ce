-- The search for an element that stands among those in front of it.
use Rattle.std.proofs.Common.{◌≡◌, ℕ, ◌+◌, ◌<◌, Bool, true, false, cond, ◌||◌, List, [], ◌∷◌, ◌++◌, Some, length, take, drop, get_or, refl, sym, ap, ◌∙◌}
use Rattle.std.specs.List.{list_any}
use Rattle.std.proofs.lemmas.List.{drop_more, take_more}
use Rattle.std.proofs.lemmas.List.Folds.{list_any_more}
use Rattle.catalog.specs.Shared.{repeated_from}

next_is : {X : Type 0} (xs : List X) (i : ℕ) (x : X) → i < length xs → x ≡ get_or xs i x → drop i xs ≡ x ∷ drop (i + 1) xs
next_is xs i x within is = drop_more xs i x within ∙ ap (λ y. y ∷ drop (i + 1) xs) (sym is)

-- the next element was seen
pub repeated_here : {X : Type 0} (same : X → X → Bool) (seen xs : List X) (i : ℕ) (x : X) → i < length xs → x ≡ get_or xs i x → list_any (λ y. same y x) seen ≡ true → repeated_from same seen (drop i xs) ≡ Some x
repeated_here same seen xs i x within is there = ap (repeated_from same seen) (next_is xs i x within is) ∙ (rw there refl)

-- the next element is new
pub repeated_next : {X : Type 0} (same : X → X → Bool) (xs : List X) (i : ℕ) (x : X) → i < length xs → x ≡ get_or xs i x → list_any (λ y. same y x) (take i xs) ≡ false
    → repeated_from same (take (i + 1) xs) (drop (i + 1) xs) ≡ repeated_from same (take i xs) (drop i xs)
repeated_next same xs i x within is gone =
    let grown : take (i + 1) xs ≡ take i xs ++ x ∷ [] = take_more xs i x within ∙ ap (λ y. take i xs ++ y ∷ []) (sym is) in
    ap (λ seen. repeated_from same seen (drop (i + 1) xs)) grown
    ∙ sym (ap (repeated_from same (take i xs)) (next_is xs i x within is) ∙ (rw gone refl))

either : (a b : Bool) → cond b true a ≡ (a || b)
either true true = refl
either true false = refl
either false true = refl
either false false = refl

-- what was seen, and the next element
pub seen_more : {X : Type 0} (same : X → X → Bool) (old new : X → Bool) (xs : List X) (i : ℕ) (x : X) → i < length xs → x ≡ get_or xs i x → ((q : X) → old q ≡ list_any (λ y. same y q) (take i xs))
    → ((q : X) → new q ≡ cond (same x q) true (old q)) → (q : X) → new q ≡ list_any (λ y. same y q) (take (i + 1) xs)
seen_more same old new xs i x within is so_far grows q =
    grows q ∙ either (old q) (same x q) ∙ ap (λ (b : Bool). b || same x q) (so_far q) ∙ ap (λ y. list_any (λ z. same z q) (take i xs) || same y q) is
    ∙ sym (list_any_more (λ y. same y q) xs i x within)
