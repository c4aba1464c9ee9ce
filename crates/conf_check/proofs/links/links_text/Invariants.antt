use Rattle.std.proofs.Common.{◌≡◌, ◌++◌, drop}
use Rattle.conf_check.specs.Links.{table_lines}
use Rattle.conf_check.proofs.links.links_text.Given as goal

abbrev pub invariant-loop-table : goal.invariant-loop-table
invariant-loop-table l = l.out ++ table_lines l.catalog.servers (drop l.table-index l.catalog.tables) ≡ table_lines l.catalog.servers l.catalog.tables
