-- Which partitions a set of keys needs: MySQL Reference Manual, "Partition Pruning".
use Rattle.std.specs.Prelude.{◌≡◌, ℕ, ℤ, true, List, Some}
use Rattle.std.specs.List.{Contains}
use Rattle.std.specs.List.Sorted.{IsStrictlyIncreasing}
use Rattle.sql_values.specs.declared.places.Interval.{Interval}
use Rattle.part_rules.specs.declared.rule.Rule.{Rule}
use Rattle.sql_values.specs.KeySets.{has_key}
use Rattle.part_rules.specs.Placing.{part}

-- a key of the set lies in the partition
abbrev pub Owns : Rule → List Interval → ℕ → Type 0
Owns rule keys p = (key : ℤ) × (has_key keys key ≡ true) × (part rule key ≡ Some p)

-- exactly the partitions that own a key of the set, in order
pub record IsPruned (rule : Rule) (keys : List Interval) (parts : List ℕ) : Type 0 where
  pub rising : IsStrictlyIncreasing parts
  pub owners : (p : ℕ) → Contains parts p → Owns rule keys p
  pub all : (p : ℕ) → Owns rule keys p → Contains parts p
