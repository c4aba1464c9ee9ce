-- Where a key lies by a rule, and how many partitions the rule has.
use Rattle.std.specs.Prelude.{ℕ, ◌≤◌, ◌<◌, ◌^◌, ℤ, length, Option, Some}
use Rattle.part_rules.specs.declared.rule.Rule.{Rule}
use Rattle.part_rules.specs.declared.rule.Rule.TheVariants as rule
use Rattle.part_rules.specs.Rules.{range_part, list_part, hash_part}

-- the partition of the key, where there is one
abbrev pub part : Rule → ℤ → Option ℕ
part rule.Whole key = Some 0
part (rule.Range bounds) key = range_part bounds key
part (rule.List lists) key = list_part lists key
part (rule.Hash parts) key = Some (hash_part parts key)

-- how many partitions there are
abbrev pub part_count : Rule → ℕ
part_count rule.Whole = 1
part_count (rule.Range bounds) = length bounds
part_count (rule.List lists) = length lists
part_count (rule.Hash parts) = parts

-- a partition at least, and few enough to be numbered
abbrev pub IsRule : Rule → Type 0
IsRule rule = (1 ≤ part_count rule) × (part_count rule < 2 ^ 32)
