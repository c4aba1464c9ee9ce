-- Values are of the kinds of their columns.
use Rattle.std.proofs.Common.{◌≡◌, ℕ, Bool, true, false, cond, List, [], ◌∷◌, refl, find, Option, Some, None, IsSome, IsSomeAnd}
use Rattle.std.specs.List.{zip}
use Rattle.std.specs.Option.{option_map, option_map_or}
use Rattle.std.specs.Cmp.Lexicographic.{pointwise}
use Rattle.std.specs.Cmp.{first_so, second_so}
use Rattle.sql_values.specs.declared.table.ColumnDef.{ColumnDef}
use Rattle.sql_values.specs.declared.table.Kind.{Kind}
use Rattle.sql_values.specs.declared.table.Kind.TheVariants.{BigInt, VarChar}
use Rattle.sql_values.specs.declared.table.TableDef.{TableDef}
use Rattle.sql_values.specs.declared.literal.Literal.{Literal as SqlLiteral}
use Rattle.sql_values.specs.declared.literal.Literal.TheVariants as literal
use Rattle.sql_values.specs.declared.tree.ColumnName.{ColumnName}
use Rattle.sql_values.specs.declared.tree.Operand.{Operand}
use Rattle.sql_values.specs.declared.tree.Operand.TheVariants as operand
use Rattle.sql_values.specs.declared.value.Value.{Value}
use Rattle.sql_values.specs.declared.value.Value.TheVariants.{Number, Text}
use Rattle.sql_values.specs.Columns.{columns_of, may_mean, column_kind, column_value}
use Rattle.sql_values.specs.Laws.{is_of, is_row, ColumnsHaveValues, OperandsHaveAnOrder}
use Rattle.sql_values.specs.Checks.{operand_kind}
use Rattle.sql_values.specs.Conditions.{literal_of, operand_literal, order_of}
use Rattle.sql_values.specs.Kinds.{literal_kind, is_alike, are_comparable}

value_step : (b : Bool) (c : List ℕ × ColumnDef) (v : Value) (kind : Kind) (found : Option (List ℕ × ColumnDef)) (cell : Option ((List ℕ × ColumnDef) × Value)) →
    is_of c.1.kind v ≡ true →
    (option_map (λ (found : List ℕ × ColumnDef). found.1.kind) found ≡ Some kind → IsSomeAnd (option_map (λ (found : (List ℕ × ColumnDef) × Value). found.1) cell) (λ value. is_of kind value ≡ true)) →
    option_map (λ (found : List ℕ × ColumnDef). found.1.kind) (cond b (Some c) found) ≡ Some kind →
    IsSomeAnd (option_map (λ (found : (List ℕ × ColumnDef) × Value). found.1) (cond b (Some (c, v)) cell)) (λ value. is_of kind value ≡ true)
value_step true c v kind found cell of further e = (let same : c.1.kind ≡ kind = cc in rw same at of)
value_step false c v kind found cell of further e = further e

value_kept : (name : ColumnName) (columns : List (List ℕ × ColumnDef)) (row : List Value) (kind : Kind) →
    pointwise (λ (column : List ℕ × ColumnDef) (value : Value). is_of column.1.kind value) columns row ≡ true →
    option_map (λ (found : List ℕ × ColumnDef). found.1.kind) (find (may_mean name) columns) ≡ Some kind →
    IsSomeAnd
    (option_map (λ (found : (List ℕ × ColumnDef) × Value). found.1) (find (λ (cell : (List ℕ × ColumnDef) × Value). may_mean name cell.0) (zip columns row)))
    (λ value. is_of kind value ≡ true)
value_kept name [] row kind fits e = absurd (let no : None ≡ Some kind = e in cc)
value_kept name (c ∷ columns) [] kind fits e = absurd (let no : false ≡ true = fits in cc)
value_kept name (c ∷ columns) (v ∷ row) kind fits e =
    value_step (may_mean name c) c v kind _ _
    (first_so (is_of c.1.kind v) _ fits)
    (value_kept name columns row kind (second_so (is_of c.1.kind v) _ fits))
    e

pub columns_have_values : ColumnsHaveValues
unfolding column_kind column_value
columns_have_values tables row name kind fits e = value_kept name (columns_of tables) row kind fits e

-- a literal, also beyond 64 bits, is of the kind's type
abbrev is_literal_of : Kind → SqlLiteral → Bool
is_literal_of BigInt (literal.Number z) = true
is_literal_of (VarChar most) (literal.Text t) = true
is_literal_of _ _ = false

literal_kept : (l : SqlLiteral) (kind : Kind) → literal_kind l ≡ Some kind → is_literal_of kind l ≡ true
literal_kept (literal.Number z) BigInt e = refl
literal_kept (literal.Number z) (VarChar most) e = absurd (let no : Some BigInt ≡ Some (VarChar most) = e in cc)
literal_kept (literal.Text t) BigInt e = absurd (cc)
literal_kept (literal.Text t) (VarChar most) e = refl
literal_kept literal.Null kind e = absurd (let no : None ≡ Some kind = e in cc)

value_literal : (v : Value) (kind : Kind) → is_of kind v ≡ true → is_literal_of kind (literal_of v) ≡ true
value_literal (Number n) BigInt e = refl
value_literal (Number n) (VarChar most) e = e
value_literal (Text t) BigInt e = e
value_literal (Text t) (VarChar most) e = refl

found_literal : (value : Option Value) (kind : Kind) → IsSomeAnd value (λ v. is_of kind v ≡ true) → is_literal_of kind (option_map_or literal_of value literal.Null) ≡ true
found_literal None kind h = absurd h
found_literal (Some v) kind h = value_literal v kind h

operand_kept : (tables : List TableDef) (row : List Value) (side : Operand) (kind : Kind) → is_row tables row ≡ true → operand_kind tables side ≡ Some kind →
    is_literal_of kind (operand_literal tables row side) ≡ true
operand_kept tables row (operand.Literal l) kind fits e = literal_kept l kind e
operand_kept tables row (operand.Column name) kind fits e = found_literal (column_value tables row name) kind (columns_have_values tables row name kind fits e)

ordered : (left right : Kind) (a b : SqlLiteral) → is_alike left right ≡ true → is_literal_of left a ≡ true → is_literal_of right b ≡ true → IsSome (order_of a b)
ordered BigInt BigInt (literal.Number x) (literal.Number y) same first second = refl
ordered BigInt BigInt (literal.Number x) (literal.Text y) same first second = absurd (let no : false ≡ true = second in cc)
ordered BigInt BigInt (literal.Number x) literal.Null same first second = absurd (let no : false ≡ true = second in cc)
ordered BigInt BigInt (literal.Text x) b same first second = absurd (let no : false ≡ true = first in cc)
ordered BigInt BigInt literal.Null b same first second = absurd (let no : false ≡ true = first in cc)
ordered (VarChar m) (VarChar n) (literal.Text x) (literal.Text y) same first second = refl
ordered (VarChar m) (VarChar n) (literal.Text x) (literal.Number y) same first second = absurd (let no : false ≡ true = second in cc)
ordered (VarChar m) (VarChar n) (literal.Text x) literal.Null same first second = absurd (let no : false ≡ true = second in cc)
ordered (VarChar m) (VarChar n) (literal.Number x) b same first second = absurd (let no : false ≡ true = first in cc)
ordered (VarChar m) (VarChar n) literal.Null b same first second = absurd (let no : false ≡ true = first in cc)
ordered BigInt (VarChar n) a b same first second = absurd (let no : false ≡ true = same in cc)
ordered (VarChar m) BigInt a b same first second = absurd (let no : false ≡ true = same in cc)

sides_ordered : (left right : Option Kind) (a b : SqlLiteral) → are_comparable left right ≡ true →
    ((kind : Kind) → left ≡ Some kind → is_literal_of kind a ≡ true) → ((kind : Kind) → right ≡ Some kind → is_literal_of kind b ≡ true) → IsSome (order_of a b)
sides_ordered (Some left) (Some right) a b same first second = ordered left right a b same (first left refl) (second right refl)
sides_ordered (Some left) None a b same first second = absurd (let no : false ≡ true = same in cc)
sides_ordered None right a b same first second = absurd (let no : false ≡ true = same in cc)

pub operands_have_an_order : OperandsHaveAnOrder
operands_have_an_order tables row left right fits same =
    sides_ordered (operand_kind tables left) (operand_kind tables right) _ _ same (λ kind e. operand_kept tables row left kind fits e) (λ kind e. operand_kept tables row right kind fits e)
