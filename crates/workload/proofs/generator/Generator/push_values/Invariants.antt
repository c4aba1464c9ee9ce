use Rattle.std.proofs.Common.{◌≡◌, drop}
use Rattle.workload.specs.Generated.{onto, values_from}
use Rattle.workload.proofs.generator.Generator.push_values.Given as goal

-- what was added, and the values that are left
abbrev pub invariant-loop-place : goal.invariant-loop-place
invariant-loop-place l = onto l.text.items (values_from l.def.key l.key l.place (drop l.place l.def.columns) l.self) ≡ onto l.fn.text.items (values_from l.def.key l.key 0 l.def.columns l.fn.self)
