use Rattle.std.specs.Prelude.{◌≡◌, FitsSigned, ℤ, pos, ◌+ℤ◌, ◌≤ℤ◌, Bool, ◌&&◌, List, [], ◌∷◌, int_le}
use Rattle.std.specs.Int.{w64}
use Rattle.std.specs.List.{list_any}
use Rattle.sql_values.specs.declared.places.Interval.{Interval}

-- the key lies in the interval
abbrev pub is_within : ℤ → Interval → Bool
is_within key i = int_le i.low key && int_le key i.high

-- the key lies in one of the intervals
abbrev pub has_key : List Interval → ℤ → Bool
has_key keys key = list_any (is_within key) keys

-- from `low` on the intervals rise, none is empty, and a key lies between one and the next
abbrev pub RisesFrom : ℤ → List Interval → Type 0
RisesFrom low [] = Unit {0}
RisesFrom low (i ∷ is) = (low ≤ℤ i.low) × (i.low ≤ℤ i.high) × RisesFrom (i.high +ℤ pos 2) is

-- the intervals rise, none is empty, and no two meet or are neighbours
abbrev pub IsNormal : List Interval → Type 0
IsNormal [] = Unit {0}
IsNormal (i ∷ is) = RisesFrom i.low (i ∷ is)

-- the set has exactly the keys of a BIGINT that pass the test
abbrev pub AreKeys : List Interval → (ℤ → Bool) → Type 0
AreKeys keys test = (key : ℤ) → FitsSigned w64 key → has_key keys key ≡ test key

-- both ends of each interval are keys of a BIGINT
abbrev pub AreBigInts : List Interval → Type 0
AreBigInts [] = Unit {0}
AreBigInts (i ∷ is) = FitsSigned w64 i.low × FitsSigned w64 i.high × AreBigInts is

-- the sets have the same keys of a BIGINT
abbrev pub HaveSameKeys : List Interval → List Interval → Type 0
HaveSameKeys a b = (key : ℤ) → FitsSigned w64 key → has_key a key ≡ has_key b key
