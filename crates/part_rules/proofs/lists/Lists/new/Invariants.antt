use Rattle.std.proofs.Common.{◌≡◌, ℤ, take}
use Rattle.std.specs.Ordering.{int_cmp}
use Rattle.std.specs.BTreeMap.{get}
use Rattle.part_rules.specs.Rules.{list_part}
use Rattle.part_rules.proofs.lists.Lists.new.Given as goal

abbrev pub invariant-loop-part : goal.invariant-loop-part
invariant-loop-part l = (key : ℤ) → get int_cmp l.places key ≡ list_part (take l.part l.keys-items) key
