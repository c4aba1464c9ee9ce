use Rattle.std.proofs.Common.{◌≡◌, ◌++◌}
use Rattle.std.specs.Prelude.{vec_capacity}
use Rattle.front_core.specs.Core.{sent}
use Rattle.front_core.proofs.outputs.push_sent.Given as goal

abbrev pub invariant-loop-ask : goal.invariant-loop-ask
invariant-loop-ask l = record {
  items : l.outputs.items ≡ l.initial.outputs.items ++ sent l.yielded;
  capacity : vec_capacity l.outputs ≡ vec_capacity l.initial.outputs;
}
