use Rattle.std.proofs.Common.{◌≡◌, take}
use Rattle.txn_phases.specs.Phases.{servers_of}
use Rattle.txn_phases.proofs.requests.servers_of.Given as goal

abbrev pub invariant-loop-ask : goal.invariant-loop-ask
invariant-loop-ask l = l.servers ≡ servers_of (take l.ask-index l.asks)
