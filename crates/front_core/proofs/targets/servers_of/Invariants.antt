use Rattle.std.proofs.Common.{◌≡◌}
use Rattle.front_core.specs.Jobs.{servers_of}
use Rattle.front_core.proofs.targets.servers_of.Given as goal

abbrev pub invariant-loop-server : goal.invariant-loop-server
invariant-loop-server l = l.found ≡ servers_of l.server l.targets
