use Rattle.std.proofs.Common.{◌≡◌, drop}
use Rattle.workload.specs.Generated.{counter_from}
use Rattle.workload.proofs.statements.counter_of.Given as goal

-- none among the columns that are passed
abbrev pub invariant-loop-place : goal.invariant-loop-place
invariant-loop-place l = counter_from l.def.key l.place (drop l.place l.def.columns) ≡ counter_from l.def.key 0 l.def.columns
