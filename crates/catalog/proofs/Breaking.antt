-- The rule that a file breaks first.
use Rattle.std.proofs.Common.{◌≡◌, ℕ, List, Option, Some, None, length, ap, ◌∙◌, subst}
use Rattle.std.specs.Option.{option_or, option_and_then}
use Rattle.std.proofs.lemmas.List.{length-map}
use Rattle.conf_file.specs.declared.entries.ConfFile.{ConfFile}
use Rattle.catalog.specs.declared.fault.CatalogFault.{CatalogFault}
use Rattle.catalog.specs.declared.tables.Table.{Table}
use Rattle.catalog.specs.Files.{broken_table, broken}
use Rattle.catalog.specs.Shared.{shared_remote, host_name}
use Rattle.catalog.specs.Tables.{server_names, table_of, catalog_entries}
use Rattle.catalog.specs.Views.{AreTables}
use Rattle.catalog.proofs.Options.{IsThere, each_length}
use Rattle.catalog.proofs.Sound.{tables_sound}
use Rattle.catalog.proofs.Unbroken.{tables_there}

-- a rule of tables is broken
pub broken_by_table : (file : ConfFile) (fault : CatalogFault) → broken_table file ≡ Some fault → broken file ≡ Some fault
unfolding broken
broken_by_table file fault h = ap (λ (o : Option CatalogFault). option_or o (option_and_then (shared_remote file.servers) (catalog_entries file))) h

-- none is
pub broken_by_link : (file : ConfFile) (tables : List Table) → broken_table file ≡ None → catalog_entries file ≡ Some tables → broken file ≡ shared_remote file.servers tables
unfolding broken
broken_by_link file tables h entries =
    ap (λ (o : Option CatalogFault). option_or o (option_and_then (shared_remote file.servers) (catalog_entries file))) h ∙ ap (option_and_then (shared_remote file.servers)) entries

entries_there : (file : ConfFile) → broken_table file ≡ None → IsThere (catalog_entries file)
entries_there file h = tables_there (server_names file) file.tables h

not_missing : (entries : Option (List Table)) → IsThere entries → entries ≡ None → ⊥
not_missing None there h = let e : None ≡ Some there.at = there.is in cc
not_missing (Some tables) there h = cc

pub never_missing : (file : ConfFile) → broken_table file ≡ None → catalog_entries file ≡ None → ⊥
never_missing file h missing = not_missing (catalog_entries file) (entries_there file h) missing

pub entries_sound : (file : ConfFile) (tables : List Table) → catalog_entries file ≡ Some tables → AreTables (length file.servers) tables
entries_sound file tables h = subst (λ (n : ℕ). AreTables n tables) (length-map file.servers host_name) (tables_sound (server_names file) file.tables tables h)

pub entries_count : (file : ConfFile) (tables : List Table) → catalog_entries file ≡ Some tables → length tables ≡ length file.tables
entries_count file tables h = each_length (table_of (server_names file)) file.tables tables h
