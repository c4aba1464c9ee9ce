-- What the checks are for: on rows of the tables, values meet others of their type, and each column has one.
use Rattle.std.specs.Prelude.{◌≡◌, ℕ, Bool, true, false, List, Some, IsSome, IsSomeAnd}
use Rattle.std.specs.Cmp.Lexicographic.{pointwise}
use Rattle.sql_values.specs.declared.table.ColumnDef.{ColumnDef}
use Rattle.sql_values.specs.declared.table.Kind.{Kind}
use Rattle.sql_values.specs.declared.table.Kind.TheVariants.{BigInt, VarChar}
use Rattle.sql_values.specs.declared.table.TableDef.{TableDef}
use Rattle.sql_values.specs.declared.tree.ColumnName.{ColumnName}
use Rattle.sql_values.specs.declared.tree.Operand.{Operand}
use Rattle.sql_values.specs.declared.value.Value.{Value}
use Rattle.sql_values.specs.declared.value.Value.TheVariants.{Number, Text}
use Rattle.sql_values.specs.Checks.{operand_kind}
use Rattle.sql_values.specs.Columns.{columns_of, column_kind, column_value}
use Rattle.sql_values.specs.Conditions.{operand_literal, order_of}
use Rattle.sql_values.specs.Kinds.{are_comparable}

-- the value is a number where the kind is BIGINT, and a text where it is VARCHAR
abbrev pub is_of : Kind → Value → Bool
is_of BigInt (Number n) = true
is_of (VarChar most) (Text t) = true
is_of _ _ = false

-- the row has a value for each column of these tables, in their order
abbrev pub is_row : List TableDef → List Value → Bool
is_row tables row = pointwise (λ (column : List ℕ × ColumnDef) (value : Value). is_of column.1.kind value) (columns_of tables) row

-- a column with a kind has a value of that kind
abbrev pub ColumnsHaveValues : Type 0
ColumnsHaveValues =
    (tables : List TableDef) (row : List Value) (name : ColumnName) (kind : Kind) → is_row tables row ≡ true → column_kind tables name ≡ Some kind →
    IsSomeAnd (column_value tables row name) (λ value. is_of kind value ≡ true)

-- operands of kinds that go together have an order
abbrev pub OperandsHaveAnOrder : Type 0
OperandsHaveAnOrder =
    (tables : List TableDef) (row : List Value) (left right : Operand) → is_row tables row ≡ true →
    are_comparable (operand_kind tables left) (operand_kind tables right) ≡ true →
    IsSome (order_of (operand_literal tables row left) (operand_literal tables row right))
