use Rattle.std.proofs.Common.{◌≡◌, drop}
use Rattle.catalog.specs.Searches.{each, in_front}
use Rattle.catalog.specs.Tables.{table_of}
use Rattle.catalog.proofs.tables.tables_of.Given as goal

abbrev pub invariant-loop-table : goal.invariant-loop-table
invariant-loop-table l = in_front l.made (each (table_of l.servers) (drop l.table-index l.tables)) ≡ each (table_of l.servers) l.tables
