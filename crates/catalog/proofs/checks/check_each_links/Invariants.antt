use Rattle.std.proofs.Common.{◌≡◌, drop}
use Rattle.catalog.specs.Searches.{first}
use Rattle.catalog.specs.Broken.{part_links_fault}
use Rattle.catalog.proofs.checks.check_each_links.Given as goal

abbrev pub invariant-loop-part : goal.invariant-loop-part
invariant-loop-part l = first (part_links_fault l.servers l.table l.own) (drop l.part-index l.parts) ≡ first (part_links_fault l.servers l.table l.own) l.parts
