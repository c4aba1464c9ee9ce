-- Aggregates over rows, in one pass.
use Rattle.std.proofs.Common.{◌≡◌, ℕ, ◌+◌, ℤ, ◌+ℤ◌, ◌-◌, ◌<◌, ◌^◌, Bool, true, false, cond, List, [], ◌∷◌, map, sym, ◌∙◌, ap, arith, w64}
use Rattle.std.specs.Int.{w128}
use Rattle.std.specs.List.{list_all}
use Rattle.std.specs.Prelude.{FitsSigned}
use Rattle.std.proofs.lemmas.Bool.{and_parts}
use Rattle.std.proofs.lemmas.Int.{ints}
use Rattle.sql_values.specs.declared.literal.Literal.{Literal}
use Rattle.sql_values.specs.declared.literal.Literal.TheVariants as literal
use Rattle.sql_values.specs.declared.value.Value.{Value}
use Rattle.front_rows.specs.Aggregates.{all_of, both, greater, lesser, number_in}
use Rattle.front_rows.specs.Comparing.{cell}
use Rattle.front_rows.proofs.Aggregated.{Groups, both_groups, lesser_groups, greater_groups, null_last}
use Rattle.branch_store.specs.Counting.{IsSumOf, has_number}

-- what is so far, and what is left, is what all rows give
abbrev pub SoFar : (Literal → Literal → Literal) → ℕ → List (List Value) → Literal → List (List Value) → Type 0
SoFar f column left result rows = both f result (all_of f (map (cell column) left)) ≡ all_of f (map (cell column) rows)

module _ (f : Literal → Literal → Literal) (groups : Groups f) (column : ℕ) where
  -- one row more
  pub more : (row : List Value) (left now rows : List (List Value)) (before after : Literal) → now ≡ row ∷ left → after ≡ both f before (cell column row) → SoFar f column now before rows → SoFar f column left after rows
  unfolding all_of
  more row left now rows before after next made so_far =
      ap (λ l. both f l (all_of f (map (cell column) left))) made
      ∙ both_groups f groups before (cell column row) (all_of f (map (cell column) left))
      ∙ ap (λ l. both f before (all_of f (map (cell column) l))) (sym next)
      ∙ so_far

  -- a row that has nothing there
  pub nothing : (row : List Value) (left now rows : List (List Value)) (result : Literal) → now ≡ row ∷ left → literal.Null ≡ cell column row → SoFar f column now result rows → SoFar f column left result rows
  nothing row left now rows result next none so_far = more row left now rows result result next (sym (null_last f groups result) ∙ ap (both f result) none) so_far

  -- no row is left
  pub done : (left rows : List (List Value)) (result : Literal) → left ≡ [] → SoFar f column left result rows → result ≡ all_of f (map (cell column) rows)
  unfolding all_of
  done left rows result none so_far = sym (null_last f groups result) ∙ ap (λ l. both f result (all_of f (map (cell column) l))) (sym none) ∙ so_far

-- the least or the greatest
pub chosen_groups : (least : Bool) → Groups (cond least lesser greater)
chosen_groups true = lesser_groups
chosen_groups false = greater_groups

-- SUMS

-- the first of the rows that are left has a number in the column, and so have the others
pub next_number : (column : ℕ) (row : List Value) (left now : List (List Value)) → now ≡ row ∷ left → list_all (has_number column) now ≡ true → (has_number column row ≡ true) × (list_all (has_number column) left ≡ true)
next_number column row left now next all = and_parts (has_number column row) (list_all (has_number column) left) (sym (ap (list_all (has_number column)) next) ∙ all)

-- one number of 64 bits more
pub one_more : (sum next : Literal) (n : ℤ) → FitsSigned w64 n → number_in next ≡ number_in sum +ℤ n → (count : ℕ) → IsSumOf count sum → IsSumOf (count + 1) next
one_more sum next n fits made count is = record { low = omega (arith, ints); high = omega (arith, ints) }

pub few : (count : ℕ) (sum : Literal) → count < 2 ^ 64 → IsSumOf count sum → IsSumOf (2 ^ 64 - 1) sum
few count sum less is = record { low = omega (arith, ints); high = omega (arith, ints) }

pub sum_fits : (sum : Literal) (n : ℤ) → FitsSigned w64 n → IsSumOf (2 ^ 64 - 1) sum → FitsSigned w128 (number_in sum +ℤ n)
sum_fits sum n fits is = omega (arith, ints)
