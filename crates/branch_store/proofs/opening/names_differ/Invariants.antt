use Rattle.std.proofs.Common.{◌≡◌, drop}
use Rattle.branch_store.specs.Opening.{are_apart}
use Rattle.branch_store.proofs.opening.names_differ.Given as goal

abbrev pub invariant-loop-i : goal.invariant-loop-i
invariant-loop-i l = are_apart (drop l.i l.tables) ≡ are_apart l.tables
