-- The rules of a configuration's entries, each with the first place that breaks it.
use Rattle.std.specs.Prelude.{◌≡◌, ℕ, ◌-◌, Bool, true, false, List, [], ◌∷◌, Option, Some, None, Result, Ok, Err, ◌⊎◌, unwrap_or, if◌then◌else◌, length, codes}
use Rattle.std.specs.Option.{option_map, option_or, is_some}
use Rattle.std.specs.Result.{result_ok}
use Rattle.sql_values.specs.Names.{is_name}
use Rattle.conf_file.specs.declared.entries.PartEntry.{PartEntry}
use Rattle.conf_file.specs.declared.entries.TableEntry.{TableEntry}
use Rattle.catalog.specs.declared.checks.Check.{Check}
use Rattle.catalog.specs.declared.checks.Check.TheVariants as check
use Rattle.catalog.specs.declared.comment.Comment.{Comment}
use Rattle.catalog.specs.declared.fault.CatalogFault.{CatalogFault}
use Rattle.catalog.specs.declared.fault.CatalogFault.TheVariants.{BadName, BadColumn, BadKey, BadComment, UnknownServer, BadLinks, BadBounds, BadPartition, NoMemory}
use Rattle.catalog.specs.declared.link.Link.{Link}
use Rattle.catalog.specs.Columns.{column_text, key_of}
use Rattle.catalog.specs.Comment.{comment_at, nothing}
use Rattle.catalog.specs.Index.{place_in}
use Rattle.catalog.specs.Links.{links_of, overlaid}
use Rattle.catalog.specs.Rules.{cut_of, bounds_break, is_bad_cut}
use Rattle.catalog.specs.Searches.{first}
use Rattle.catalog.specs.Tables.{said, remote_name}

-- what is told; want of memory may be told in its place
abbrev pub Refuses : Option CatalogFault → Result (Unit {0}) CatalogFault → Type 0
Refuses fault (Ok done) = fault ≡ None
Refuses fault (Err told) = (told ≡ NoMemory) ⊎ (fault ≡ Some told)

abbrev pub unnamed : List ℕ → Option CatalogFault
unnamed text = if is_name text then None else Some (BadName text)

abbrev pub bad_part_name : PartEntry → Option CatalogFault
bad_part_name part = unnamed part.name

-- a name of the table or of a partition isn't one
unfoldable pub bad_name : TableEntry → Option CatalogFault
bad_name table = option_or (unnamed table.name) (first bad_part_name table.parts)

abbrev pub bad_text : List ℕ → Option CatalogFault
bad_text text = if is_some (column_text text) then None else Some (BadColumn text)

-- a column's text has another form
unfoldable pub bad_column : TableEntry → Option CatalogFault
bad_column table = first bad_text table.columns

-- the key isn't the name of one BIGINT column
unfoldable pub bad_key : TableEntry → Option CatalogFault
bad_key table = if is_some (key_of table) then None else Some (BadKey table.key)

abbrev pub form_fault : List ℕ → List ℕ → ℕ → Result Comment ℕ → Option CatalogFault
form_fault table part size (Ok comment) = None
form_fault table part size (Err left) = Some (BadComment table part (size - left))

abbrev pub comment_fault : List ℕ → List ℕ → Option (List ℕ) → Option CatalogFault
comment_fault table part None = None
comment_fault table part (Some text) = form_fault table part (length text) (comment_at text)

-- how a table itself is shown among its partitions
abbrev pub itself : List ℕ
itself = codes "-"

-- the table's comment leaves its form
unfoldable pub bad_comment : TableEntry → Option CatalogFault
bad_comment table = comment_fault table.name itself table.comment

abbrev pub part_comment_fault : List ℕ → PartEntry → Option CatalogFault
part_comment_fault table part = comment_fault table part.name part.comment

-- a partition's comment leaves its form
unfoldable pub bad_part_comment : TableEntry → Option CatalogFault
bad_part_comment table = first (part_comment_fault table.name) table.parts

abbrev pub unknown : List (List ℕ) → List ℕ → Option CatalogFault
unknown servers name = if is_some (place_in servers name) then None else Some (UnknownServer name)

abbrev pub servers_fault : List (List ℕ) → Option Comment → Option CatalogFault
servers_fault servers None = None
servers_fault servers (Some comment) = first (unknown servers) (unwrap_or comment.servers [])

-- the table's comment names a server that isn't one of these
unfoldable pub unknown_server : List (List ℕ) → TableEntry → Option CatalogFault
unknown_server servers table = servers_fault servers (result_ok (said table.comment))

abbrev pub part_servers_fault : List (List ℕ) → PartEntry → Option CatalogFault
part_servers_fault servers part = servers_fault servers (result_ok (said part.comment))

-- a partition's comment names a server that isn't one of these
unfoldable pub unknown_part_server : List (List ℕ) → TableEntry → Option CatalogFault
unknown_part_server servers table = first (part_servers_fault servers) table.parts

abbrev pub links_fault : List ℕ → List ℕ → Option (List Link) → Option CatalogFault
links_fault table part links = if is_some links then None else Some (BadLinks table part)

abbrev pub own_links_fault : List (List ℕ) → List ℕ → Option Comment → Option CatalogFault
own_links_fault servers table None = None
own_links_fault servers table (Some own) = links_fault table itself (links_of servers table (overlaid own nothing))

-- the table isn't cut, and has no partitions
abbrev pub is_whole : Option (List ℕ) → List PartEntry → Bool
is_whole None [] = true
is_whole None (part ∷ parts) = false
is_whole (Some rule) parts = false

-- the links of a table without partitions are no links
unfoldable pub bad_links : List (List ℕ) → TableEntry → Option CatalogFault
bad_links servers table = if is_whole table.partition table.parts then own_links_fault servers table.name (result_ok (said table.comment)) else None

abbrev pub part_links_by : List (List ℕ) → List ℕ → Comment → List ℕ → Option Comment → Option CatalogFault
part_links_by servers table own part None = None
part_links_by servers table own part (Some comment) = links_fault table part (links_of servers (remote_name table part) (overlaid own comment))

abbrev pub part_links_fault : List (List ℕ) → List ℕ → Comment → PartEntry → Option CatalogFault
part_links_fault servers table own part = part_links_by servers table own part.name (result_ok (said part.comment))

abbrev pub parts_links_fault : List (List ℕ) → TableEntry → Option Comment → Option CatalogFault
parts_links_fault servers table None = None
parts_links_fault servers table (Some own) = first (part_links_fault servers table.name own) table.parts

-- the links of a partition are no links
unfoldable pub bad_part_links : List (List ℕ) → TableEntry → Option CatalogFault
bad_part_links servers table = parts_links_fault servers table (result_ok (said table.comment))

-- a partition's bound isn't above the one before it, or its list is empty or meets one before it
unfoldable pub bad_bounds : TableEntry → Option CatalogFault
bad_bounds table = option_map (BadBounds table.name) (bounds_break table)

-- the rule is none of RANGE, LIST and HASH, there are partitions without a rule, or a rule without partitions
unfoldable pub bad_partition : TableEntry → Option CatalogFault
bad_partition table = if is_bad_cut (cut_of table.partition) (length table.parts) then Some (BadPartition table.name) else None

-- how a table breaks a rule
abbrev pub breaks : List (List ℕ) → Check → TableEntry → Option CatalogFault
breaks servers check.Names = bad_name
breaks servers check.Columns = bad_column
breaks servers check.Key = bad_key
breaks servers check.OwnComment = bad_comment
breaks servers check.PartComments = bad_part_comment
breaks servers check.OwnServers = unknown_server servers
breaks servers check.PartServers = unknown_part_server servers
breaks servers check.OwnLinks = bad_links servers
breaks servers check.PartLinks = bad_part_links servers
breaks servers check.Bounds = bad_bounds
breaks servers check.Partition = bad_partition

-- the first table that breaks a rule
unfoldable pub broken_by : List (List ℕ) → List TableEntry → Check → Option CatalogFault
broken_by servers tables rule = first (breaks servers rule) tables

-- the rules in order; of tables, before their partitions
abbrev pub all_rules : List Check
all_rules = check.Names ∷ check.Columns ∷ check.Key ∷ check.OwnComment ∷ check.PartComments ∷ check.OwnServers ∷ check.PartServers ∷ check.OwnLinks ∷ check.PartLinks ∷ check.Bounds ∷ check.Partition ∷ []
