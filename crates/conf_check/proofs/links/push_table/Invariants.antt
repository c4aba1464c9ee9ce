use Rattle.std.proofs.Common.{◌≡◌, ◌++◌, drop}
use Rattle.conf_check.specs.Links.{part_lines}
use Rattle.conf_check.proofs.links.push_table.Given as goal

abbrev pub invariant-loop-part : goal.invariant-loop-part
invariant-loop-part l = l.out ++ part_lines l.servers l.table.def.name (drop l.part-index l.table.parts) ≡ l.initial.out ++ part_lines l.servers l.table.def.name l.table.parts
