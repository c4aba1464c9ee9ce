-- What a condition says of the key column: the keys that a row may have for which it holds.
use Rattle.std.specs.Prelude.{ℤ, Bool, true, false, ◌||◌, ◌&&◌, not, List, slice_get}
use Rattle.std.specs.List.{list_all, list_any}
use Rattle.std.specs.Option.{option_map_or}
use Rattle.sql_values.specs.declared.literal.Literal.{Literal}
use Rattle.sql_values.specs.declared.literal.Literal.TheVariants as literal
use Rattle.sql_values.specs.declared.table.ColumnDef.{ColumnDef}
use Rattle.sql_values.specs.declared.table.TableDef.{TableDef}
use Rattle.sql_values.specs.declared.tree.ColumnName.{ColumnName}
use Rattle.sql_values.specs.declared.tree.Comparison.{Comparison}
use Rattle.sql_values.specs.declared.tree.Comparison.TheVariants.{Equal, NotEqual, Less, AtMost, Greater, AtLeast}
use Rattle.sql_values.specs.declared.tree.Operand.{Operand}
use Rattle.sql_values.specs.declared.tree.Operand.TheVariants as operand
use Rattle.sql_values.specs.declared.tree.Cond.{Cond, Cond-F}
use Rattle.sql_values.specs.declared.tree.Cond.TheFolds.{fold-Cond}
use Rattle.sql_values.specs.declared.tree.Cond.TheOpen.{All, Any, Not, Compare, In, Between}
use Rattle.sql_values.specs.Columns.{may_mean}
use Rattle.sql_values.specs.Conditions.{compares}

-- the name may mean the table's key column
abbrev pub names_key : TableDef → ColumnName → Bool
names_key table name = option_map_or (λ (column : ColumnDef). may_mean name (table.name, column)) (slice_get table.columns table.key) false

-- the comparison with its sides exchanged
abbrev pub mirrored : Comparison → Comparison
mirrored Equal = Equal
mirrored NotEqual = NotEqual
mirrored Less = Greater
mirrored AtMost = AtLeast
mirrored Greater = Less
mirrored AtLeast = AtMost

-- the key compares so with a number
abbrev pub key_compares : ℤ → Comparison → ℤ → Bool
key_compares key comparison n = compares comparison (literal.Number key) (literal.Number n)

-- a comparison of the key column with a number, on either side; any other keeps all keys
abbrev pub comparison_keeps : TableDef → ℤ → Operand → Comparison → Operand → Bool
comparison_keeps table key (operand.Column name) comparison (operand.Literal (literal.Number n)) = not (names_key table name) || key_compares key comparison n
comparison_keeps table key (operand.Literal (literal.Number n)) comparison (operand.Column name) = not (names_key table name) || key_compares key (mirrored comparison) n
comparison_keeps table key left comparison right = true

-- the key is in a list of literals
abbrev pub is_listed : ℤ → List Literal → Bool
is_listed key list = list_any (compares Equal (literal.Number key)) list

-- the key lies between two literals
abbrev pub is_between : ℤ → Literal → Literal → Bool
is_between key low high = compares AtMost low (literal.Number key) && compares AtMost (literal.Number key) high

-- a condition, where it is known of its parts which keys they keep. AND keeps what all parts do, OR what one does; IN and BETWEEN keep their
-- own keys, where they test the key column; NOT, NOT IN and NOT BETWEEN keep all
abbrev pub layer_keeps : TableDef → ℤ → Cond-F Bool → Bool
layer_keeps table key (All parts) = list_all (λ part. part) parts
layer_keeps table key (Any parts) = list_any (λ part. part) parts
layer_keeps table key (Not part) = true
layer_keeps table key (Compare left comparison right) = comparison_keeps table key left comparison right
layer_keeps table key (In column negated list) = negated || (not (names_key table column) || is_listed key list)
layer_keeps table key (Between column negated low high) = negated || (not (names_key table column) || is_between key low high)

-- whether a row with this key may meet the condition, by what that says of the key alone
abbrev pub keeps : TableDef → ℤ → Cond → Bool
keeps table key = fold-Cond Bool (layer_keeps table key)
