use Rattle.std.proofs.Common.{◌≡◌, ◌||◌, ℤ, drop}
use Rattle.std.specs.BTreeSet.{contains}
use Rattle.std.specs.List.{list_any}
use Rattle.std.specs.Ordering.{int_cmp, int_eq}
use Rattle.txn_phases.specs.Deeds.{key_at}
use Rattle.txn_phases.proofs.deed.add_keys.Given as goal

abbrev pub invariant-loop-row : goal.invariant-loop-row
invariant-loop-row l = (key : ℤ) → (contains int_cmp l.keys key || list_any (λ row. int_eq (key_at l.place row) key) (drop l.row-index l.rows)) ≡ (contains int_cmp l.initial.keys key || list_any (λ row. int_eq (key_at l.place row) key) l.rows)
