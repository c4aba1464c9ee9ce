use Rattle.std.proofs.Common.{◌≡◌, ◌++◌, take}
use Rattle.std.specs.List.{flat_map}
use Rattle.world_runs.specs.Transcript.{part_end}
use Rattle.spider_cli.proofs.end_text.push_table.Given as goal

abbrev pub invariant-loop-part : goal.invariant-loop-part
invariant-loop-part l = l.text.items ≡ l.fn.text.items ++ flat_map (part_end l.servers l.stores l.table.def.name) (take l.part-index l.table.parts)
