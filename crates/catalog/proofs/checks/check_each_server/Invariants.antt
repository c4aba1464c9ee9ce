use Rattle.std.proofs.Common.{◌≡◌, drop}
use Rattle.catalog.specs.Searches.{first}
use Rattle.catalog.specs.Broken.{unknown}
use Rattle.catalog.proofs.checks.check_each_server.Given as goal

abbrev pub invariant-loop-name : goal.invariant-loop-name
invariant-loop-name l = first (unknown l.servers) (drop l.name-index l.names) ≡ first (unknown l.servers) l.names
