-- The rows of several parts in one order.
use Rattle.std.specs.Prelude.{◌≡◌, ℕ, ◌*◌, Bool, true, ◌||◌, List, [], ◌∷◌, Option, Some, None, length, nat_lt, sum_by, take, drop}
use Rattle.std.specs.List.Sorted.{IsPermutation, IsSortedBy, IsStableBy}
use Rattle.sql_values.specs.declared.value.Value.{Value}
use Rattle.sql_values.specs.Storing.{row_size}
use Rattle.sql_text.specs.declared.link.LinkAnswer.{LinkAnswer}
use Rattle.front_rows.specs.declared.order.Sort.{Sort}
use Rattle.front_rows.specs.Comparing.{before}
use Rattle.front_rows.specs.Gathering.{all_rows}
use Rattle.front_rows.specs.Sorting.{sorted_by}

-- these are the same rows, in the order; rows that are equal by it stay as they came
pub record IsInOrder (order : List Sort) (rows sorted : List (List Value)) : Type 0 where
  pub same_rows : IsPermutation rows sorted
  pub sorted_by : IsSortedBy (before order) sorted
  pub stable : IsStableBy (before order) rows sorted

-- without so many rows in front, at most so many
abbrev pub cut : ℕ → Option ℕ → List (List Value) → List (List Value)
cut skip None rows = drop skip rows
cut skip (Some most) rows = take most (drop skip rows)

-- the order of the key in this column, rising
abbrev pub key_order : ℕ → List Sort
key_order place = record { column = place; rising = true } ∷ []

-- rows in the order, cut so
abbrev pub arranged : List Sort → ℕ → Option ℕ → List (List Value) → List (List Value)
arranged order skip most rows = cut skip most (sorted_by (before order) rows)

-- the rows of the parts, in the order and cut so
abbrev pub merged_rows : List Sort → ℕ → Option ℕ → List LinkAnswer → List (List Value)
merged_rows order skip most parts = arranged order skip most (all_rows parts)

-- more than 100,000 rows, or more than 64 MiB
abbrev pub is_too_large : List (List Value) → Bool
is_too_large rows = nat_lt 100000 (length rows) || nat_lt (64 * (1024 * 1024)) (sum_by row_size rows)

-- the rows of the parts in the order, cut so, are these
pub record IsMerged (parts : List LinkAnswer) (order : List Sort) (skip : ℕ) (most : Option ℕ) (rows : List (List Value)) : Type 0 where
  pub sorted : List (List Value)
  pub in_order : IsInOrder order (all_rows parts) sorted
  pub cut_is : rows ≡ cut skip most sorted

-- the answer has more rows or bytes than are allowed
pub record IsTooLarge (parts : List LinkAnswer) (order : List Sort) (skip : ℕ) (most : Option ℕ) : Type 0 where
  pub rows : List (List Value)
  pub merged : IsMerged parts order skip most rows
  pub large : is_too_large rows ≡ true
