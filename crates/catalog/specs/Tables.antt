-- The tables that the entries of a configuration give.
use Rattle.std.specs.Prelude.{ℕ, List, [], ◌∷◌, ◌++◌, Option, Some, None, Result, Ok, option_and_then, map}
use Rattle.std.specs.Option.{option_map, option_zip}
use Rattle.std.specs.Result.{result_ok}
use Rattle.sql_values.specs.declared.table.TableDef.{TableDef}
use Rattle.conf_file.specs.declared.entries.ConfFile.{ConfFile}
use Rattle.conf_file.specs.declared.entries.HostEntry.{HostEntry}
use Rattle.conf_file.specs.declared.entries.PartEntry.{PartEntry}
use Rattle.conf_file.specs.declared.entries.TableEntry.{TableEntry}
use Rattle.part_rules.specs.declared.rule.Rule.{Rule}
use Rattle.catalog.specs.declared.comment.Comment.{Comment}
use Rattle.catalog.specs.declared.link.Link.{Link}
use Rattle.catalog.specs.declared.tables.Part.{Part}
use Rattle.catalog.specs.declared.tables.Table.{Table}
use Rattle.catalog.specs.Columns.{def_of}
use Rattle.catalog.specs.Comment.{comment_at, nothing}
use Rattle.catalog.specs.Links.{overlaid, links_of}
use Rattle.catalog.specs.Rules.{rule_of}
use Rattle.catalog.specs.Searches.{each, name_of}

-- what a comment says, or how many bytes are left where it leaves its form
abbrev pub said : Option (List ℕ) → Result Comment ℕ
said None = Ok nothing
said (Some text) = comment_at text

-- TABLE_PART
abbrev pub remote_name : List ℕ → List ℕ → List ℕ
remote_name table part = table ++ 95 ∷ part

abbrev pub part_with : List (List ℕ) → List ℕ → Comment → List ℕ → Comment → Option Part
part_with servers table own name comment = option_map (λ (links : List Link). record { name = Some name; links = links }) (links_of servers (remote_name table name) (overlaid own comment))

abbrev pub part_named : List (List ℕ) → List ℕ → Comment → PartEntry → List ℕ → Option Part
part_named servers table own part name = option_and_then (part_with servers table own name) (result_ok (said part.comment))

-- a partition
unfoldable pub part_of : List (List ℕ) → List ℕ → Comment → PartEntry → Option Part
part_of servers table own part = option_and_then (part_named servers table own part) (name_of part.name)

-- the one partition of a table without partitions
unfoldable pub whole_of : List (List ℕ) → List ℕ → Comment → Option (List Part)
whole_of servers table own = option_map (λ (links : List Link). record { name = None; links = links } ∷ []) (links_of servers table (overlaid own nothing))

abbrev pub parts_by : List (List ℕ) → List ℕ → Comment → List PartEntry → Option (List Part)
parts_by servers table own [] = whole_of servers table own
parts_by servers table own (part ∷ parts) = each (part_of servers table own) (part ∷ parts)

abbrev pub made : TableDef × (Rule × List Part) → Table
made pieces = record { def = pieces.0; rule = pieces.1.0; parts = pieces.1.1 }

abbrev pub table_with : List (List ℕ) → TableEntry → Comment → Option Table
table_with servers table own = option_map made (option_zip (def_of table) (option_zip (rule_of table) (parts_by servers table.name own table.parts)))

-- the table that an entry gives, where the servers have these names
unfoldable pub table_of : List (List ℕ) → TableEntry → Option Table
table_of servers table = option_and_then (table_with servers table) (result_ok (said table.comment))

abbrev pub server_names : ConfFile → List (List ℕ)
server_names file = map (λ (server : HostEntry). server.name) file.servers

-- the tables that a file gives
abbrev pub catalog_entries : ConfFile → Option (List Table)
catalog_entries file = each (table_of (server_names file)) file.tables
