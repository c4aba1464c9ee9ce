use Rattle.std.proofs.Common.{◌≡◌, take}
use Rattle.stmt_plan.specs.Selects.{aggregates_of}
use Rattle.front_core.proofs.planning.aggregates_of.Given as goal

abbrev pub invariant-loop-column : goal.invariant-loop-column
invariant-loop-column l = l.aggregates ≡ aggregates_of (take l.column-index l.list)
