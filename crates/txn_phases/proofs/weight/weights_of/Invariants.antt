use Rattle.std.proofs.Common.{◌≡◌, take, map}
use Rattle.txn_phases.specs.Weights.{weight_of}
use Rattle.txn_phases.proofs.weight.weights_of.Given as goal

abbrev pub invariant-loop-target : goal.invariant-loop-target
invariant-loop-target l = l.weights.items ≡ map (weight_of l.news) (take l.target-index l.targets)
