use Rattle.std.proofs.Common.{◌≡◌, take, map}
use Rattle.txn_phases.specs.Weights.{key_weight_of}
use Rattle.txn_phases.proofs.weight.key_weights_of.Given as goal

abbrev pub invariant-loop-target : goal.invariant-loop-target
invariant-loop-target l = l.weights.items ≡ map (key_weight_of l.keys) (take l.target-index l.targets)
