-- What a condition means on a row: MySQL Reference Manual, "Comparison Functions and Operators" and "Logical Operators".
use Rattle.std.specs.Prelude.{Bool, true, false, ◌&&◌, not, List, Option, Some, None}
use Rattle.std.specs.List.{list_all, list_any}
use Rattle.std.specs.Option.{option_map_or}
use Rattle.std.specs.Cmp.Lexicographic.{slice_cmp}
use Rattle.std.specs.Ordering.{nat_cmp, int_cmp, is_eq, is_lt, is_le, is_gt, is_ge, is_some_and}
use Rattle.std.specs.declared.cmp.Ordering.{Ordering}
use Rattle.sql_values.specs.declared.literal.Literal.{Literal}
use Rattle.sql_values.specs.declared.literal.Literal.TheVariants as literal
use Rattle.sql_values.specs.declared.table.TableDef.{TableDef}
use Rattle.sql_values.specs.declared.tree.ColumnName.{ColumnName}
use Rattle.sql_values.specs.declared.tree.Comparison.{Comparison}
use Rattle.sql_values.specs.declared.tree.Comparison.TheVariants.{Equal, NotEqual, Less, AtMost, Greater, AtLeast}
use Rattle.sql_values.specs.declared.tree.Operand.{Operand}
use Rattle.sql_values.specs.declared.tree.Operand.TheVariants as operand
use Rattle.sql_values.specs.declared.tree.Cond.{Cond, Cond-F}
use Rattle.sql_values.specs.declared.tree.Cond.TheFolds.{fold-Cond}
use Rattle.sql_values.specs.declared.tree.Cond.TheOpen.{All, Any, Not, Compare, In, Between}
use Rattle.sql_values.specs.declared.value.Value.{Value}
use Rattle.sql_values.specs.declared.value.Value.TheVariants as value
use Rattle.sql_values.specs.Columns.{column_value}

-- a column's value as a literal
abbrev pub literal_of : Value → Literal
literal_of (value.Number n) = literal.Number n
literal_of (value.Text t) = literal.Text t

-- what a column has in a row; one that isn't there has NULL
abbrev pub column_literal : List TableDef → List Value → ColumnName → Literal
column_literal tables row name = option_map_or literal_of (column_value tables row name) literal.Null

abbrev pub operand_literal : List TableDef → List Value → Operand → Literal
operand_literal tables row (operand.Literal l) = l
operand_literal tables row (operand.Column name) = column_literal tables row name

-- the order of two numbers, exactly, or of two texts, by their bytes; nothing else has an order
abbrev pub order_of : Literal → Literal → Option Ordering
order_of (literal.Number a) (literal.Number b) = Some (int_cmp a b)
order_of (literal.Text a) (literal.Text b) = Some (slice_cmp nat_cmp a b)
order_of _ _ = None

abbrev pub is_met_by : Comparison → Ordering → Bool
is_met_by Equal = is_eq
is_met_by NotEqual = λ order. not (is_eq order)
is_met_by Less = is_lt
is_met_by AtMost = is_le
is_met_by Greater = is_gt
is_met_by AtLeast = is_ge

-- the two literals, from left to right, compare so
abbrev pub compares : Comparison → Literal → Literal → Bool
compares comparison left right = is_some_and (is_met_by comparison) (order_of left right)

-- a test, or its opposite
abbrev pub unless_negated : Bool → Bool → Bool
unless_negated true test = not test
unless_negated false test = test

-- a condition, where it is known of its parts whether they hold
abbrev pub layer_holds : List TableDef → List Value → Cond-F Bool → Bool
layer_holds tables row (All parts) = list_all (λ part. part) parts
layer_holds tables row (Any parts) = list_any (λ part. part) parts
layer_holds tables row (Not part) = not part
layer_holds tables row (Compare left comparison right) = compares comparison (operand_literal tables row left) (operand_literal tables row right)
layer_holds tables row (In column negated list) = unless_negated negated (list_any (compares Equal (column_literal tables row column)) list)
layer_holds tables row (Between column negated low high) =
    unless_negated negated (compares AtMost low (column_literal tables row column) && compares AtMost (column_literal tables row column) high)

-- the condition holds on a row of these tables, the values of the first table in front
abbrev pub cond_holds : List TableDef → List Value → Cond → Bool
cond_holds tables row = fold-Cond Bool (layer_holds tables row)
