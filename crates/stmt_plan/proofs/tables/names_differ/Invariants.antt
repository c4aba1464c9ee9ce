use Rattle.std.proofs.Common.{◌≡◌, drop}
use Rattle.stmt_plan.specs.Apart.{are_apart}
use Rattle.stmt_plan.proofs.tables.names_differ.Given as goal

abbrev pub invariant-loop-i : goal.invariant-loop-i
invariant-loop-i l = are_apart (drop l.i l.columns) ≡ are_apart l.columns
