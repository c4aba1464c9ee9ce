use Rattle.std.proofs.Common.{◌≡◌, drop, map}
use Rattle.catalog.specs.declared.link.Link.{Link}
use Rattle.catalog.specs.Links.{differ}
use Rattle.catalog.proofs.links.servers_differ.Given as goal

abbrev pub invariant-loop-i : goal.invariant-loop-i
invariant-loop-i l = differ (map (λ (link : Link). link.server) (drop l.i l.links)) ≡ differ (map (λ (link : Link). link.server) l.links)
