-- What makes a table one that statements are planned on, as tests.
use Rattle.std.specs.Prelude.{Bool, true, false, ◌&&◌, List, [], ◌∷◌, slice_get}
use Rattle.std.specs.List.{find}
use Rattle.std.specs.Option.{is_none, option_map_or}
use Rattle.sql_values.specs.declared.table.ColumnDef.{ColumnDef}
use Rattle.sql_values.specs.declared.table.Kind.{Kind}
use Rattle.sql_values.specs.declared.table.Kind.TheVariants.{BigInt, VarChar}
use Rattle.sql_values.specs.declared.table.TableDef.{TableDef}
use Rattle.stmt_plan.specs.Inserts.{is_named}

-- no column has the name of a later one
abbrev pub are_apart : List ColumnDef → Bool
are_apart [] = true
are_apart (column ∷ columns) = is_none (find (is_named column.name) columns) && are_apart columns

abbrev pub is_number_kind : Kind → Bool
is_number_kind BigInt = true
is_number_kind (VarChar most) = false

-- the key column is a BIGINT
abbrev pub has_number_key : TableDef → Bool
has_number_key table = option_map_or (λ (column : ColumnDef). is_number_kind column.kind) (slice_get table.columns table.key) false
