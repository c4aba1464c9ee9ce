use Rattle.std.proofs.Common.{◌≡◌, ℤ, ◌≤ℤ◌, ◌∷◌, ◌++◌, drop}
use Rattle.sql_values.specs.KeySets.{has_key}
use Rattle.sql_values.specs.Merging.{Ascends}
use Rattle.sql_values.proofs.KeyLists.{RisesTo}
use Rattle.sql_values.proofs.merging.joined_from.Given as goal

abbrev pub invariant-loop-next : goal.invariant-loop-next
invariant-loop-next l = record {
  rises : RisesTo l.first.low l.list.items l.current.low;
  filled : l.current.low ≤ℤ l.current.high;
  ascends : Ascends l.current.low (drop l.next-index l.others);
  keys : (key : ℤ) → has_key (l.list.items ++ l.current ∷ drop l.next-index l.others) key ≡ has_key (l.first ∷ l.others) key;
}
