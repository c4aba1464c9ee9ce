-- Marks of partitions, from which those that a set of keys needs are read.
use Rattle.std.specs.Prelude.{◌≡◌, ℕ, ◌+◌, ℤ, Bool, true, false, List, [], ◌∷◌, Option, Some, ◌⊎◌, slice_index_or, if◌then◌else◌}
use Rattle.sql_values.specs.declared.places.Interval.{Interval}
use Rattle.part_rules.specs.declared.bounds.Bound.{Bound}
use Rattle.sql_values.specs.KeySets.{has_key, is_within}
use Rattle.part_rules.specs.Rules.{is_below}

abbrev pub IsMarked : List Bool → ℕ → Type 0
IsMarked marks p = slice_index_or marks p false ≡ true

-- the partitions of an interval's keys were marked, beside those that were marked before
pub record Marks (place : ℤ → Option ℕ) (interval : Interval) (old new : List Bool) : Type 0 where
  pub kept : (p : ℕ) → IsMarked old p → IsMarked new p
  pub owners : (p : ℕ) → IsMarked new p → IsMarked old p ⊎ ((key : ℤ) × (is_within key interval ≡ true) × (place key ≡ Some p))
  pub all : (key : ℤ) (p : ℕ) → is_within key interval ≡ true → place key ≡ Some p → IsMarked new p

-- exactly the partitions of the set's keys are marked
pub record AreMarks (place : ℤ → Option ℕ) (keys : List Interval) (marks : List Bool) : Type 0 where
  pub owners : (p : ℕ) → IsMarked marks p → (key : ℤ) × (has_key keys key ≡ true) × (place key ≡ Some p)
  pub all : (key : ℤ) (p : ℕ) → has_key keys key ≡ true → place key ≡ Some p → IsMarked marks p

-- the first interval begins below the bound
abbrev pub begins_below : Bound → List Interval → Bool
begins_below bound [] = false
begins_below bound (i ∷ is) = is_below i.low bound

-- without the intervals in front that end below the bound
abbrev pub behind : Bound → List Interval → List Interval
behind bound [] = []
behind bound (i ∷ is) = if is_below i.high bound then behind bound is else i ∷ is

-- for each bound, whether a key of the set lies below it and not below those before it
abbrev pub range_marks : List Bound → List Interval → List Bool
range_marks [] keys = []
range_marks (b ∷ bs) keys = begins_below b keys ∷ range_marks bs (behind b keys)

-- the places of the marks, counted from i
abbrev pub marked_from : ℕ → List Bool → List ℕ
marked_from i [] = []
marked_from i (mark ∷ marks) = if mark then i ∷ marked_from (i + 1) marks else marked_from (i + 1) marks
