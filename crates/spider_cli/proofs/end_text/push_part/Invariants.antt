use Rattle.std.proofs.Common.{◌≡◌, ◌++◌, drop}
use Rattle.world_runs.specs.Transcript.{links_end}
use Rattle.spider_cli.proofs.end_text.push_part.Given as goal

-- what is told, and the links that are left
abbrev pub invariant-loop-number : goal.invariant-loop-number
invariant-loop-number l = l.text.items ++ links_end l.servers l.stores l.table l.part.name l.number (drop l.number l.part.links) ≡ l.fn.text.items ++ links_end l.servers l.stores l.table l.part.name 0 l.part.links
