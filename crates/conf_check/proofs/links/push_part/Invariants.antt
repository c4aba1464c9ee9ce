use Rattle.std.proofs.Common.{◌≡◌, ◌++◌, drop}
use Rattle.conf_check.specs.Links.{link_lines}
use Rattle.conf_check.proofs.links.push_part.Given as goal

abbrev pub invariant-loop-number : goal.invariant-loop-number
invariant-loop-number l = l.out ++ link_lines l.servers l.table l.part.name l.number (drop l.number l.part.links) ≡ l.initial.out ++ link_lines l.servers l.table l.part.name 0 l.part.links
