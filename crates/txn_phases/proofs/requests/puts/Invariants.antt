use Rattle.std.proofs.Common.{◌≡◌, take}
use Rattle.txn_phases.specs.Phases.{puts_of}
use Rattle.txn_phases.proofs.requests.puts.Given as goal

abbrev pub invariant-loop-target : goal.invariant-loop-target
invariant-loop-target l = l.asks ≡ puts_of (take l.target-index l.targets) l.news
