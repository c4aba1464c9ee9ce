-- What is read of a configuration, and the rule that it breaks first.
use Rattle.std.specs.Prelude.{◌≡◌, ◌⊎◌, ℕ, List, Some, None}
use Rattle.conf_file.specs.declared.entries.ConfFile.{ConfFile}
use Rattle.conf_file.specs.Files.{IsRead, IsFirstFault}
use Rattle.catalog.specs.declared.conf.ConfFault.{ConfFault}
use Rattle.catalog.specs.declared.conf.ConfFault.TheVariants.{File, Entries, NoMemory}
use Rattle.catalog.specs.declared.fault.CatalogFault.{CatalogFault}
use Rattle.catalog.specs.declared.fault.CatalogFault.TheVariants as entries
use Rattle.catalog.specs.Files.{broken, IsCatalogOf}
use Rattle.catalog.specs.Views.{View}

-- the bytes are a configuration file that breaks no rule, and the catalog is its entries'
pub record IsCatalog (bytes : List ℕ) (catalog : View) : Type 0 where
  pub file : ConfFile
  pub read : IsRead bytes file
  pub unbroken : broken file ≡ None
  pub given : IsCatalogOf file catalog

-- the bytes are a configuration file whose entries break this rule first; want of memory says nothing
abbrev pub IsEntriesFault : List ℕ → CatalogFault → Type 0
IsEntriesFault bytes fault = (fault ≡ entries.NoMemory) ⊎ ((file : ConfFile) × IsRead bytes file × (broken file ≡ Some fault))

-- the first rule that the bytes break is one of files, or else one of their entries
abbrev pub IsConfFault : List ℕ → ConfFault → Type 0
IsConfFault bytes (File fault) = IsFirstFault bytes fault
IsConfFault bytes (Entries fault) = IsEntriesFault bytes fault
IsConfFault bytes NoMemory = Unit {0}
