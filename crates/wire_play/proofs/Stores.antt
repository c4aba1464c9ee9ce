use Rattle.std.proofs.Common.{◌≡◌, ℕ, ◌+◌, ◌++◌, List, [], ◌∷◌, map, sym, ap, ◌∙◌, arith}
use Rattle.std.specs.List.{range_with_len}
use Rattle.std.proofs.lemmas.List.FromFn.{map-range_with_len_more}

-- one more of what is made for each number
pub one_more : {A : Type 0} (f : ℕ → A) (now next : List A) (n : ℕ) (made : A) → now ≡ map f (range_with_len 0 n) → made ≡ f n → next ≡ now ++ made ∷ [] → next ≡ map f (range_with_len 0 (n + 1))
one_more f now next n made so_far is e = e ∙ ap (λ xs. xs ++ made ∷ []) so_far ∙ ap (λ x. map f (range_with_len 0 n) ++ x ∷ []) is ∙ sym (map-range_with_len_more f 0 n n (omega arith))
