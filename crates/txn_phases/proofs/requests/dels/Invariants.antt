use Rattle.std.proofs.Common.{◌≡◌, take}
use Rattle.txn_phases.specs.Phases.{dels_of}
use Rattle.txn_phases.proofs.requests.dels.Given as goal

abbrev pub invariant-loop-target : goal.invariant-loop-target
invariant-loop-target l = l.asks ≡ dels_of l.key (take l.target-index l.targets) l.keys
