-- How many entries a file may have.
use Rattle.std.specs.Prelude.{Bool, nat_lt, if◌then◌else◌, length, Option, Some, None}
use Rattle.std.specs.List.{list_any}
use Rattle.conf_file.specs.declared.entries.ConfFile.{ConfFile}
use Rattle.conf_file.specs.declared.entries.TableEntry.{TableEntry}
use Rattle.conf_file.specs.declared.fault.TooMany.{TooMany}
use Rattle.conf_file.specs.declared.fault.TooMany.TheVariants.{Servers, Monitors, Tables, Columns, Partitions}

abbrev pub has_too_many_columns : TableEntry → Bool
has_too_many_columns table = nat_lt 16 (length table.columns)

abbrev pub has_too_many_parts : TableEntry → Bool
has_too_many_parts table = nat_lt 64 (length table.parts)

-- what there is too many of: 16 servers, 9 monitors, 64 tables, 16 columns of a table, 64 parts of a table may be
abbrev pub too_many : ConfFile → Option TooMany
too_many file =
    if nat_lt 16 (length file.servers) then Some Servers
    else if nat_lt 9 (length file.monitors) then Some Monitors
    else if nat_lt 64 (length file.tables) then Some Tables
    else if list_any has_too_many_columns file.tables then Some Columns
    else if list_any has_too_many_parts file.tables then Some Partitions
    else None
