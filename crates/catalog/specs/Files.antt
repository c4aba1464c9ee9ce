-- What a file's entries say, and the rule that they break first.
use Rattle.std.specs.Prelude.{◌≡◌, Option, Some, option_and_then}
use Rattle.std.specs.Option.{option_or}
use Rattle.conf_file.specs.declared.entries.ConfFile.{ConfFile}
use Rattle.catalog.specs.declared.fault.CatalogFault.{CatalogFault}
use Rattle.catalog.specs.Broken.{broken_by, all_rules}
use Rattle.catalog.specs.Searches.{first}
use Rattle.catalog.specs.Shared.{shared_remote}
use Rattle.catalog.specs.Tables.{server_names, catalog_entries}
use Rattle.catalog.specs.Views.{View}

-- the first of the rules of tables that the file breaks
abbrev pub broken_table : ConfFile → Option CatalogFault
broken_table file = first (broken_by (server_names file) file.tables) all_rules

-- the first rule that the file breaks; that no two links share a remote table is the last
unfoldable pub broken : ConfFile → Option CatalogFault
broken file = option_or (broken_table file) (option_and_then (shared_remote file.servers) (catalog_entries file))

-- the catalog has the file's entries, and the tables that they give
pub record IsCatalogOf (file : ConfFile) (catalog : View) : Type 0 where
  pub front : catalog.front ≡ file.front
  pub users : catalog.users ≡ file.users
  pub servers : catalog.servers ≡ file.servers
  pub monitors : catalog.monitors ≡ file.monitors
  pub tables : catalog_entries file ≡ Some catalog.tables
