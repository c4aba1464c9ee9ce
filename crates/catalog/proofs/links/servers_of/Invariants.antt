use Rattle.std.proofs.Common.{◌≡◌, drop}
use Rattle.catalog.specs.Index.{place_in}
use Rattle.catalog.specs.Searches.{each, in_front}
use Rattle.catalog.proofs.links.servers_of.Given as goal

abbrev pub invariant-loop-name : goal.invariant-loop-name
invariant-loop-name l = in_front l.found.items (each (place_in l.servers) (drop l.name-index l.names)) ≡ each (place_in l.servers) l.names
