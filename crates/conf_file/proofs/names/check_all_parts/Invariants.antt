use Rattle.std.proofs.Common.{◌≡◌, drop}
use Rattle.conf_file.specs.Keys.{first_some}
use Rattle.conf_file.specs.Names.{parts_fault}
use Rattle.conf_file.proofs.names.check_all_parts.Given as goal

abbrev pub invariant-loop-table : goal.invariant-loop-table
invariant-loop-table l = first_some parts_fault (drop l.table-index l.tables) ≡ first_some parts_fault l.tables
