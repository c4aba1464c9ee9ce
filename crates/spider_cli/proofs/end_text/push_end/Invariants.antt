use Rattle.std.proofs.Common.{◌≡◌, ◌++◌, take}
use Rattle.std.specs.List.{flat_map}
use Rattle.world_runs.specs.Transcript.{table_end}
use Rattle.spider_cli.proofs.end_text.push_end.Given as goal

abbrev pub invariant-loop-table : goal.invariant-loop-table
invariant-loop-table l = l.text.items ≡ l.initial.text.items ++ flat_map (table_end l.catalog.servers l.stores) (take l.table-index l.catalog.tables)
