use Rattle.std.proofs.Common.{◌≡◌, drop}
use Rattle.conf_file.specs.Keys.{first_some}
use Rattle.conf_file.specs.Names.{table_fault}
use Rattle.conf_file.proofs.names.check_tables.Given as goal

abbrev pub invariant-loop-table : goal.invariant-loop-table
invariant-loop-table l = first_some table_fault (drop l.table-index l.tables) ≡ first_some table_fault l.tables
