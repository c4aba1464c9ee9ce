use Rattle.std.proofs.Common.{◌≡◌, ℤ, take}
use Rattle.std.specs.BTreeSet.{contains}
use Rattle.std.specs.Ordering.{int_cmp}
use Rattle.txn_phases.specs.Deeds.{is_found}
use Rattle.txn_phases.proofs.deed.found_keys.Given as goal

abbrev pub invariant-loop-answer : goal.invariant-loop-answer
invariant-loop-answer l = (key : ℤ) → contains int_cmp l.keys key ≡ is_found l.place (take l.answer-index l.found) key
