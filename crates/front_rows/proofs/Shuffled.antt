-- Aggregates go by the rows and not by their order.
use Rattle.std.proofs.Common.{◌≡◌, ℕ, suc, zero, ◌<◌, pos, List, [], ◌∷◌, length, map, get_or, set, refl, sym, ◌∙◌, ap, arith}
use Rattle.std.specs.Cmp.{IsTotalOrder}
use Rattle.std.specs.Cmp.Lexicographic.{slice_cmp}
use Rattle.std.specs.List.Sorted.{IsPermutation}
use Rattle.std.specs.Ordering.{nat_cmp, ordering_reverse, ordering_then}
use Rattle.std.specs.declared.cmp.Ordering.{Ordering}
use Rattle.std.specs.declared.cmp.Ordering.TheVariants.{Less, Equal, Greater}
use Rattle.std.proofs.lemmas.Cmp.{back_total, int_ranked, ranked}
use Rattle.std.proofs.lemmas.Int.{ints}
use Rattle.std.proofs.lemmas.List.Edits.{swap_is}
use Rattle.std.proofs.lemmas.List.Sorted.{IsPermutation-keeps, IsPermutation-map, length_permutation}
use Rattle.sql_values.specs.declared.literal.Literal.{Literal}
use Rattle.sql_values.specs.declared.literal.Literal.TheVariants.{Null, Number, Text}
use Rattle.front_rows.specs.declared.aggregate.AggFun.{AggFun}
use Rattle.front_rows.specs.declared.aggregate.AggFun.TheVariants.{Count, Sum, Min, Max}
use Rattle.front_rows.specs.Aggregates.{all_of, both, greater, lesser, plus, result}
use Rattle.front_rows.specs.Comparing.{cell, cell_cmp}
use Rattle.front_rows.specs.Laws.{OrderDoesNotMatter}
use Rattle.front_rows.proofs.Aggregated.{Groups, both_groups, first_of_two, greater_groups, lesser_groups, plus_groups}
use Rattle.front_rows.proofs.Orders.{cell_total}

module _ (f : Literal → Literal → Literal) (g : Groups f) (turned : (a b : Literal) → f a b ≡ f b a) where
  both_turned : (a b : Literal) → both f a b ≡ both f b a
  both_turned Null Null = refl
  both_turned Null (Number n) = refl
  both_turned Null (Text t) = refl
  both_turned (Number m) Null = refl
  both_turned (Number m) (Number n) = turned (Number m) (Number n)
  both_turned (Number m) (Text t) = turned (Number m) (Text t)
  both_turned (Text s) Null = refl
  both_turned (Text s) (Number n) = turned (Text s) (Number n)
  both_turned (Text s) (Text t) = turned (Text s) (Text t)

  -- the first two in each other's place
  two_turned : (a b c : Literal) → both f a (both f b c) ≡ both f b (both f a c)
  two_turned a b c = sym (both_groups f g a b c) ∙ ap (λ x. both f x c) (both_turned a b) ∙ both_groups f g b a c

  -- the first and another one in each other's place
  exchanged : (x : Literal) (xs : List Literal) (j : ℕ) (d : Literal) → j < length xs → both f (get_or xs j d) (all_of f (set xs j x)) ≡ both f x (all_of f xs)
  unfolding all_of
  exchanged x [] j d inside = let never : ⊥ = omega arith in absurd never
  exchanged x (y ∷ ys) zero d inside = two_turned y x (all_of f ys)
  exchanged x (y ∷ ys) (suc j) d inside =
      two_turned (get_or ys j d) y (all_of f (set ys j x)) ∙ ap (both f y) (exchanged x ys j d (omega arith)) ∙ two_turned y x (all_of f ys)

  -- any two
  swapped : (xs : List Literal) (i j : ℕ) (d : Literal) → i < length xs → j < length xs → all_of f (set (set xs i (get_or xs j d)) j (get_or xs i d)) ≡ all_of f xs
  unfolding all_of
  swapped [] i j d first second = let never : ⊥ = omega arith in absurd never
  swapped (x ∷ xs) zero zero d first second = refl
  swapped (x ∷ xs) zero (suc j) d first second = exchanged x xs j d (omega arith)
  swapped (x ∷ xs) (suc i) zero d first second = exchanged x xs i d (omega arith)
  swapped (x ∷ xs) (suc i) (suc j) d first second = ap (both f x) (swapped xs i j d (omega arith) (omega arith))

  pub shuffled : (xs ys : List Literal) → IsPermutation xs ys → all_of f ys ≡ all_of f xs
  shuffled xs ys = IsPermutation-keeps xs (λ l. all_of f l ≡ all_of f xs) refl (λ l i j first second same. ap (all_of f) (sym (swap_is l i j Null first second)) ∙ swapped l i j Null first second ∙ same) ys

-- SUMS

plus_turned : (a b : Literal) → plus a b ≡ plus b a
plus_turned a b = ap Number (omega (arith, ints))

-- THE LEAST AND THE GREATEST

-- texts that no order tells apart are one
same_text : (s t : List ℕ) → slice_cmp nat_cmp s t ≡ Equal → s ≡ t
same_text [] [] tied = refl
same_text [] (y ∷ ys) tied = let never : Less ≡ Equal = tied in cc
same_text (x ∷ xs) [] tied = let never : Greater ≡ Equal = tied in cc
same_text (x ∷ xs) (y ∷ ys) tied = by_first (nat_cmp x y) refl (same_text xs ys) tied
  where
    by_first : (o : Ordering) → nat_cmp x y ≡ o → (slice_cmp nat_cmp xs ys ≡ Equal → xs ≡ ys) → ordering_then o (slice_cmp nat_cmp xs ys) ≡ Equal → x ∷ xs ≡ y ∷ ys
    by_first Less is others tied = let never : Less ≡ Equal = tied in cc
    by_first Equal is others tied = let first : x ≡ y = ranked x y Equal (sym is) in let rest : xs ≡ ys = others tied in cc
    by_first Greater is others tied = let never : Greater ≡ Equal = tied in cc

same_cell : (a b : Literal) → cell_cmp a b ≡ Equal → a ≡ b
same_cell Null Null tied = refl
same_cell Null (Number n) tied = let never : Less ≡ Equal = tied in cc
same_cell Null (Text t) tied = let never : Less ≡ Equal = tied in cc
same_cell (Number m) Null tied = let never : Greater ≡ Equal = tied in cc
same_cell (Number m) (Number n) tied = ap Number (int_ranked m n Equal (sym tied))
same_cell (Number m) (Text t) tied = let never : Less ≡ Equal = tied in cc
same_cell (Text s) Null tied = let never : Greater ≡ Equal = tied in cc
same_cell (Text s) (Number n) tied = let never : Greater ≡ Equal = tied in cc
same_cell (Text s) (Text t) tied = ap Text (same_text s t tied)

module _ (order : Literal → Literal → Ordering) (total : IsTotalOrder order) (same : (a b : Literal) → order a b ≡ Equal → a ≡ b) where
  by_order : (a b : Literal) (o : Ordering) → order a b ≡ o → order b a ≡ ordering_reverse o → first_of_two order a b ≡ first_of_two order b a
  by_order a b Less there back = rw (there, back) refl
  by_order a b Equal there back = rw (there, back) (same a b there)
  by_order a b Greater there back = rw (there, back) refl

  pub first_turned : (a b : Literal) → first_of_two order a b ≡ first_of_two order b a
  first_turned a b = by_order a b (order a b) refl (total.antisymm b a)

-- ROWS

values_shuffled : (fun : AggFun) (xs ys : List Literal) → IsPermutation xs ys → result fun ys ≡ result fun xs
values_shuffled Count xs ys same = ap (λ n. Number (pos n)) (length_permutation xs ys same)
values_shuffled Sum xs ys same = shuffled plus plus_groups plus_turned xs ys same
values_shuffled Min xs ys same = shuffled lesser lesser_groups (first_turned cell_cmp cell_total same_cell) xs ys same
values_shuffled Max xs ys same = shuffled greater greater_groups (first_turned (λ a b. cell_cmp b a) (back_total cell_total) (λ a b tied. sym (same_cell b a tied))) xs ys same

pub order_does_not_matter : OrderDoesNotMatter
order_does_not_matter rows others a same = sym (values_shuffled a.fun (map (cell a.column) rows) (map (cell a.column) others) (IsPermutation-map (cell a.column) rows others same))
