use Rattle.std.proofs.Common.{◌≡◌, drop}
use Rattle.conf_file.specs.Names.{taken_in_tables, is_among, system_tables}
use Rattle.conf_file.specs.Taken.{is_taken}
use Rattle.conf_file.proofs.repeats.check_tables.Given as goal

abbrev pub invariant-loop-table : goal.invariant-loop-table
invariant-loop-table l = taken_in_tables (is_taken l.names) (drop l.table-index l.tables) ≡ taken_in_tables (is_among system_tables) l.tables
