use Rattle.std.proofs.Common.{◌≡◌, drop, map, nat_eq}
use Rattle.std.specs.List.{list_any}
use Rattle.catalog.specs.declared.link.Link.{Link}
use Rattle.catalog.proofs.links.has_server.Given as goal

abbrev pub invariant-loop-link : goal.invariant-loop-link
invariant-loop-link l = list_any (nat_eq l.server) (map (λ (link : Link). link.server) (drop l.link-index l.links)) ≡ list_any (nat_eq l.server) (map (λ (link : Link). link.server) l.links)
