use Rattle.std.proofs.Common.{◌≡◌, map}
use Rattle.txn_phases.specs.Deeds.{placed}
use Rattle.front_core.proofs.planning.placed_rows.Given as goal

abbrev pub invariant-loop-row : goal.invariant-loop-row
invariant-loop-row l = l.news ≡ map (placed l.def l.rule) l.yielded
