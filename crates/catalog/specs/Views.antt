-- What contracts see of a catalog.
use Rattle.std.specs.Prelude.{◌≡◌, ℕ, ◌==◌, ◌<◌, true, List, [], Option, Some, None, if◌then◌else◌, length, slice_get}
use Rattle.std.specs.List.{filter_map, flat_map}
use Rattle.std.specs.Option.{option_map_or}
use Rattle.sql_values.specs.declared.table.ColumnDef.{ColumnDef}
use Rattle.sql_values.specs.declared.table.Kind.TheVariants.{BigInt}
use Rattle.sql_values.specs.declared.table.TableDef.{TableDef}
use Rattle.conf_file.specs.declared.entries.FrontEntry.{FrontEntry}
use Rattle.conf_file.specs.declared.entries.HostEntry.{HostEntry}
use Rattle.conf_file.specs.declared.entries.UserEntry.{UserEntry}
use Rattle.part_rules.specs.KeyRows.{HasOwnKeyName}
use Rattle.part_rules.specs.Placing.{IsRule, part_count}
use Rattle.catalog.specs.declared.link.Link.{Link}
use Rattle.catalog.specs.declared.tables.Part.{Part}
use Rattle.catalog.specs.declared.tables.Table.{Table}
use Rattle.catalog.specs.Links.{are_links}

-- each in file order
pub record View : Type 0 where
  pub front : FrontEntry
  pub users : List UserEntry
  pub servers : List HostEntry
  pub monitors : List HostEntry
  pub tables : List Table

-- a table whose key is a BIGINT column with a name of its own, with a rule, a partition for each of its places, and links for each partition
pub record IsTable (servers : ℕ) (table : Table) : Type 0 where
  pub key_within : table.def.key < length table.def.columns
  pub key : (column : ColumnDef) → slice_get table.def.columns table.def.key ≡ Some column → column.kind ≡ BigInt
  pub own_name : HasOwnKeyName table.def
  pub rule : IsRule table.rule
  pub parts : length table.parts ≡ part_count table.rule
  pub links : (p : ℕ) (part : Part) → slice_get table.parts p ≡ Some part → are_links servers part.links ≡ true

abbrev pub AreTables : ℕ → List Table → Type 0
AreTables servers tables = (t : ℕ) (table : Table) → slice_get tables t ≡ Some table → IsTable servers table

abbrev pub table_name : Table → List ℕ
table_name table = table.def.name

-- the partitions of a table
abbrev pub parts_at : List Table → ℕ → List Part
parts_at tables table = option_map_or (λ (t : Table). t.parts) (slice_get tables table) []

-- the definition of a link's table on this server, under its name there
abbrev pub remote_def : ℕ → TableDef → Link → Option TableDef
remote_def server def link = if link.server == server then Some (record def { name = link.remote }) else None

abbrev pub part_defs : ℕ → TableDef → Part → List TableDef
part_defs server def part = filter_map (remote_def server def) part.links

abbrev pub table_defs : ℕ → Table → List TableDef
table_defs server table = flat_map (part_defs server table.def) table.parts

-- the definition of each link's table on this server, in catalog order
abbrev pub remote_defs : ℕ → List Table → List TableDef
remote_defs server tables = flat_map (table_defs server) tables
