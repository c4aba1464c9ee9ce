use Rattle.std.proofs.Common.{◌≡◌, drop}
use Rattle.catalog.specs.Searches.{first}
use Rattle.catalog.specs.Broken.{part_servers_fault}
use Rattle.catalog.proofs.checks.check_part_servers.Given as goal

abbrev pub invariant-loop-part : goal.invariant-loop-part
invariant-loop-part l = first (part_servers_fault l.servers) (drop l.part-index l.part-items) ≡ first (part_servers_fault l.servers) l.part-items
