use Rattle.std.proofs.Common.{◌≡◌, ◌++◌, drop}
use Rattle.catalog.specs.Links.{linked as linking}
use Rattle.catalog.proofs.links.linked.Given as goal

abbrev pub invariant-loop-i : goal.invariant-loop-i
invariant-loop-i l = l.links ++ linking l.monitored (drop l.i l.servers) (drop l.i l.remotes) (drop l.i l.statuses) ≡ linking l.monitored l.servers l.remotes l.statuses
