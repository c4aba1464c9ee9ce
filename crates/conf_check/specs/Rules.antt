-- The text of a rule that a configuration breaks.
use Rattle.std.specs.Prelude.{ℕ, List, ◌++◌, ◌∷◌, codes}
use Rattle.std.specs.Fmt.{decimal}
use Rattle.conf_file.specs.declared.fault.FileFault.{FileFault}
use Rattle.conf_file.specs.declared.fault.FileFault.TheVariants as file
use Rattle.conf_file.specs.declared.fault.TooMany.{TooMany}
use Rattle.conf_file.specs.declared.fault.TooMany.TheVariants as many
use Rattle.catalog.specs.declared.conf.ConfFault.{ConfFault}
use Rattle.catalog.specs.declared.conf.ConfFault.TheVariants as conf
use Rattle.catalog.specs.declared.fault.CatalogFault.{CatalogFault}
use Rattle.catalog.specs.declared.fault.CatalogFault.TheVariants as entries

abbrev pub many_text : TooMany → List ℕ
many_text many.Servers = codes "too many servers"
many_text many.Monitors = codes "too many monitors"
many_text many.Tables = codes "too many tables"
many_text many.Columns = codes "too many columns"
many_text many.Partitions = codes "too many partitions"

abbrev pub file_text : FileFault → List ℕ
file_text file.TooLarge = codes "too large"
file_text file.NotToml = codes "not toml"
file_text (file.MissingKey key) = codes "missing key " ++ key
file_text (file.UnknownKey key) = codes "unknown key " ++ key
file_text (file.WrongType key) = codes "wrong type " ++ key
file_text (file.BadName name) = codes "bad name " ++ name
file_text (file.BadStored user) = codes "bad stored " ++ user
file_text (file.RepeatedName name) = codes "repeated name " ++ name
file_text (file.TooMany what) = many_text what
file_text file.NoMemory = codes "out of memory"

-- a partition of a table
abbrev pub place_text : List ℕ → List ℕ → List ℕ
place_text table part = table ++ (46 ∷ part)

abbrev pub entries_text : CatalogFault → List ℕ
entries_text (entries.BadName name) = codes "bad name " ++ name
entries_text (entries.BadColumn column) = codes "bad column " ++ column
entries_text (entries.BadKey key) = codes "bad key " ++ key
entries_text (entries.BadComment table part place) = codes "bad comment " ++ (place_text table part ++ (codes " at byte " ++ decimal place))
entries_text (entries.UnknownServer server) = codes "unknown server " ++ server
entries_text (entries.BadLinks table part) = codes "bad links " ++ place_text table part
entries_text (entries.BadBounds table part) = codes "bad bounds " ++ place_text table part
entries_text (entries.BadPartition table) = codes "bad partition " ++ table
entries_text (entries.SharedRemote server remote) = codes "shared remote " ++ place_text server remote
entries_text entries.NoMemory = codes "out of memory"

abbrev pub fault_text : ConfFault → List ℕ
fault_text (conf.File fault) = file_text fault
fault_text (conf.Entries fault) = entries_text fault
fault_text conf.NoMemory = codes "out of memory"
