-- Which partition a key has: MySQL Reference Manual, "Partitioning Types".
use Rattle.std.specs.Prelude.{◌≡◌, ℕ, ℤ, pos, Bool, true, false, ◌&&◌, List, [], ◌∷◌, Option, int_lt, int_rem, unsigned_abs}
use Rattle.std.specs.List.{list_any, position}
use Rattle.std.specs.Ordering.{int_cmp, int_eq}
use Rattle.std.specs.BTreeMap.{BTreeMap, get}
use Rattle.part_rules.specs.declared.bounds.Bound.{Bound}
use Rattle.part_rules.specs.declared.bounds.Bound.TheVariants.{Below, MaxValue}

-- the key lies below the bound; all keys lie below MAXVALUE
abbrev pub is_below : ℤ → Bound → Bool
is_below key (Below n) = int_lt key n
is_below key MaxValue = true

abbrev pub is_lower : Bound → Bound → Bool
is_lower (Below m) (Below n) = int_lt m n
is_lower (Below m) MaxValue = true
is_lower MaxValue b = false

abbrev pub rises_above : Bound → List Bound → Bool
rises_above low [] = true
rises_above low (b ∷ bs) = is_lower low b && rises_above b bs

-- each bound is above the one before it, so MAXVALUE can only be the last
abbrev pub rises : List Bound → Bool
rises [] = true
rises (b ∷ bs) = rises_above b bs

-- RANGE: the first partition whose bound is above the key
abbrev pub range_part : List Bound → ℤ → Option ℕ
range_part bounds key = position (is_below key) bounds

-- the list has the key
abbrev pub lists_key : ℤ → List ℤ → Bool
lists_key key list = list_any (λ k. int_eq k key) list

-- LIST: the partition whose list has the key; the first, where several have it
abbrev pub list_part : List (List ℤ) → ℤ → Option ℕ
list_part lists key = position (lists_key key) lists

-- HASH: the absolute value of what is left when the key is divided, rounding towards zero, by the number of partitions
abbrev pub hash_part : ℕ → ℤ → ℕ
hash_part parts key = unsigned_abs (int_rem key (pos parts))

-- the map gives the partition of each key that a list has
abbrev pub IsIndex : List (List ℤ) → BTreeMap ℤ ℕ → Type 0
IsIndex lists places = (key : ℤ) → get int_cmp places key ≡ list_part lists key
