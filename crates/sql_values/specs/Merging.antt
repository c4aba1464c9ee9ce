use Rattle.std.specs.Prelude.{ℤ, pos, ◌-ℤ◌, ◌≤ℤ◌, List, [], ◌∷◌, ◌++◌, int_lt, if◌then◌else◌}
use Rattle.sql_values.specs.declared.places.Interval.{Interval}

-- from `low` on each interval begins no earlier than the one before it, and none is empty
abbrev pub Ascends : ℤ → List Interval → Type 0
Ascends low [] = Unit {0}
Ascends low (i ∷ is) = (low ≤ℤ i.low) × (i.low ≤ℤ i.high) × Ascends i.low is

-- each interval begins no earlier than the one before it, and none is empty
abbrev pub IsAscending : List Interval → Type 0
IsAscending [] = Unit {0}
IsAscending (i ∷ is) = (i.low ≤ℤ i.high) × Ascends i.low is

-- the intervals, and the keys from `low` up to before `end`, where there are any
abbrev pub with_gap : List Interval → ℤ → ℤ → List Interval
with_gap list low end = if int_lt low end then list ++ record { low = low; high = end -ℤ pos 1 } ∷ [] else list
