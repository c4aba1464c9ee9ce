use Rattle.std.proofs.Common.{◌≡◌, map, take}
use Rattle.catalog.specs.Shared.{host_name}
use Rattle.catalog.proofs.whole.host_names.Given as goal

abbrev pub invariant-loop-host : goal.invariant-loop-host
invariant-loop-host l = l.names ≡ map host_name (take l.host-index l.hosts)
