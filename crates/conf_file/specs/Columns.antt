-- How a configuration file writes columns.
use Rattle.std.specs.Prelude.{ℕ, Bool, ◌==◌, if◌then◌else◌, List, length, codes, Option, Some, None}
use Rattle.std.specs.List.{position_or_len, before_first, after_first}
use Rattle.std.specs.Option.{option_map, option_and_then}
use Rattle.sql_values.specs.Names.{is_name}
use Rattle.sql_values.specs.declared.table.ColumnDef.{ColumnDef}
use Rattle.sql_values.specs.declared.table.Kind.{Kind}
use Rattle.sql_values.specs.declared.table.Kind.TheVariants.{BigInt, VarChar}
use Rattle.conf_file.specs.Texts.{is_same, number_within, between}

-- the type that a text writes: `BIGINT`, or `VARCHAR(n)` for an n from 1 to 1024
abbrev pub kind_of : List ℕ → Option Kind
kind_of text =
    if is_same text (codes "BIGINT") then Some BigInt
    else option_map VarChar (option_and_then (number_within 1 1024) (between (codes "VARCHAR(") (codes ")") text))

abbrev pub is_blank : ℕ → Bool
is_blank byte = byte == 32

-- the column that a text writes: a name, one blank, and a type
abbrev pub column_of : List ℕ → Option ColumnDef
column_of text =
    if position_or_len is_blank text == length text then None
    else if is_name (before_first is_blank text)
    then option_map (λ kind. record { name = before_first is_blank text; kind = kind }) (kind_of (after_first is_blank text))
    else None

-- the name of the column that a text writes
unfoldable pub column_name : List ℕ → Option (List ℕ)
column_name text = option_map (λ (column : ColumnDef). column.name) (column_of text)
