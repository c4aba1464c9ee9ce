-- What the backends hold of the plain tables.
use Rattle.std.specs.Prelude.{◌≡◌, true, ℕ, ◌+◌, ◌==◌, List, [], ◌∷◌, ◌++◌, Option, Some, None, map, length, if◌then◌else◌}
use Rattle.std.specs.List.{filter_map, range_with_len}
use Rattle.sql_values.specs.declared.table.TableDef.{TableDef}
use Rattle.part_rules.specs.declared.rule.Rule.{Rule}
use Rattle.catalog.specs.declared.link.Link.{Link}
use Rattle.catalog.specs.declared.link.Status.{Status}
use Rattle.catalog.specs.declared.tables.Part.{Part}
use Rattle.catalog.specs.declared.tables.Table.{Table}
use Rattle.catalog.specs.Views.{View, AreTables, remote_defs}
use Rattle.plain_tables.specs.Partitions.{rows_in}
use Rattle.plain_tables.specs.Rows.{Row}
use Rattle.branch_store.specs.Laws.{at_rest}
use Rattle.branch_store.specs.Opening.{are_tables}
use Rattle.branch_store.specs.Store.{Store}
use Rattle.branch_store.specs.Tables as backend
use Rattle.front_core.specs.Jobs.{is_ng}
use Rattle.plain_sessions.specs.Exec.{Tables}

-- a configuration whose servers can hold its links' tables
pub record CanBeServed (catalog : View) : Type 0 where
  pub tables : AreTables (length catalog.servers) catalog.tables
  pub held : (server : ℕ) → are_tables (remote_defs server catalog.tables) ≡ true

-- the rows of a link: those of its partition, or none where it is NG
abbrev pub rows_by : Status → List Row → List Row
rows_by status rows = if is_ng status then [] else rows

-- the table of a link on this server, under its name there, of a partition with these rows
abbrev pub link_table : ℕ → TableDef → List Row → Link → Option backend.Table
link_table server def rows link = if link.server == server then Some (record { def = record def { name = link.remote }; rows = rows_by link.first rows }) else None

-- of each partition from this number on, of a table with these rows
abbrev pub part_tables : ℕ → Table → List Row → ℕ → List Part → List backend.Table
part_tables server table rows p [] = []
part_tables server table rows p (part ∷ parts) = filter_map (link_table server table.def (rows_in table.def table.rule p rows)) part.links ++ part_tables server table rows (p + 1) parts

-- of each table from this number on
abbrev pub tables_from : ℕ → Tables → ℕ → List Table → List backend.Table
tables_from server tables n [] = []
tables_from server tables n (table ∷ more) = part_tables server table (tables n) 0 table.parts ++ tables_from server tables (n + 1) more

-- what a server holds, in catalog order
abbrev pub tables_at : View → Tables → ℕ → List backend.Table
tables_at catalog tables server = tables_from server tables 0 catalog.tables

-- the servers' stores, where no branch is open
abbrev pub stores_of : View → Tables → List Store
stores_of catalog tables = map (λ server. at_rest (tables_at catalog tables server)) (range_with_len 0 (length catalog.servers))
