use Rattle.std.proofs.Common.{◌≡◌, drop}
use Rattle.catalog.specs.Searches.{each, in_front}
use Rattle.catalog.specs.Tables.{part_of}
use Rattle.catalog.proofs.tables.each_part.Given as goal

abbrev pub invariant-loop-part : goal.invariant-loop-part
invariant-loop-part l = in_front l.made (each (part_of l.servers l.table l.own) (drop l.part-index l.parts)) ≡ each (part_of l.servers l.table l.own) l.parts
