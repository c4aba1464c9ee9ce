-- The tables that a backend can have.
use Rattle.std.specs.Prelude.{Bool, true, not, ◌&&◌, List, [], ◌∷◌, map, length, nat_le}
use Rattle.std.specs.List.{list_all, list_any}
use Rattle.sql_values.specs.declared.table.TableDef.{TableDef}
use Rattle.stmt_plan.specs.Apart.{has_number_key}
use Rattle.branch_store.specs.Changes.{is_called}
use Rattle.branch_store.specs.Tables.{Table}

-- no table has the name of a later one
abbrev pub are_apart : List TableDef → Bool
are_apart [] = true
are_apart (def ∷ defs) = not (list_any (is_called def.name) defs) && are_apart defs

-- at most 16 columns, and a BIGINT for a key
abbrev pub is_definition : TableDef → Bool
is_definition def = nat_le (length def.columns) 16 && has_number_key def

abbrev pub are_tables : List TableDef → Bool
are_tables defs = are_apart defs && list_all is_definition defs

abbrev pub empty_table : TableDef → Table
empty_table def = record { def = def; rows = [] }

abbrev pub empty_tables : List TableDef → List Table
empty_tables defs = map empty_table defs
