use Rattle.std.proofs.Common.{◌≡◌, take}
use Rattle.txn_phases.specs.Phases.{scans_of}
use Rattle.txn_phases.proofs.requests.scans.Given as goal

abbrev pub invariant-loop-target : goal.invariant-loop-target
invariant-loop-target l = l.asks ≡ scans_of l.scan (take l.target-index l.targets)
