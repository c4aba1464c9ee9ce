-- What an expression is on a row: MySQL Reference Manual, "Arithmetic Operators" and "Integer Types"; each result is a BIGINT.
use Rattle.std.specs.Prelude.{ℕ, ◌^◌, Bool, true, false, if◌then◌else◌, nat_lt, ℤ, pos, negsuc, ◌+ℤ◌, ◌-ℤ◌, ◌*ℤ◌, neg_ℤ, List, [], ◌∷◌, Option, Some, None, unwrap_or, option_and_then, fold}
use Rattle.std.specs.Option.{option_map}
use Rattle.sql_values.specs.declared.literal.Literal.{Literal as SqlLiteral}
use Rattle.sql_values.specs.declared.literal.Literal.TheVariants as literal
use Rattle.sql_values.specs.declared.table.TableDef.{TableDef}
use Rattle.sql_values.specs.declared.tree.Expr.{Expr, Expr-F}
use Rattle.sql_values.specs.declared.tree.Expr.TheFolds.{fold-Expr}
use Rattle.sql_values.specs.declared.tree.Expr.TheOpen.{Literal, Column, Negated, Sum, Product}
use Rattle.sql_values.specs.declared.tree.Addend.{Addend, Addend-F, fold-Addend}
use Rattle.sql_values.specs.declared.value.Value.{Value}
use Rattle.sql_values.specs.declared.value.Value.TheVariants.{Number, Text}
use Rattle.sql_values.specs.Columns.{column_value}

-- a number from -2^63 to 2^63 - 1
abbrev pub is_big_int : ℤ → Bool
is_big_int (pos n) = nat_lt n (2 ^ 63)
is_big_int (negsuc n) = nat_lt n (2 ^ 63)

abbrev pub big_int : ℤ → Option ℤ
big_int z = if is_big_int z then Some z else None

-- the number of a value that is counted with; a text, which no checked expression counts with, is 0
abbrev pub number_of : Value → ℤ
number_of (Number n) = n
number_of (Text t) = pos 0

-- NULL, which no checked expression has, is 0
abbrev pub literal_value : SqlLiteral → Option Value
literal_value (literal.Number z) = option_map Number (big_int z)
literal_value (literal.Text t) = Some (Text t)
literal_value literal.Null = Some (Number (pos 0))

-- the next partial result, where both numbers are there and the result is a BIGINT
abbrev pub counted : (ℤ → ℤ → ℤ) → Option ℤ → Option ℤ → Option ℤ
counted operation (Some total) (Some n) = big_int (operation total n)
counted operation _ _ = None

-- a part of a sum, which is added or subtracted
abbrev pub with_addend : Option ℤ → Bool × Option ℤ → Option ℤ
with_addend total (true, n) = counted (λ a b. a -ℤ b) total n
with_addend total (false, n) = counted (λ a b. a +ℤ b) total n

abbrev pub with_factor : Option ℤ → Option ℤ → Option ℤ
with_factor = counted (λ a b. a *ℤ b)

-- an expression's number, from the left, where its parts' numbers are known
abbrev pub layer_value : List TableDef → List Value → Expr-F (Option Value) (Bool × Option ℤ) → Option Value
layer_value tables row (Literal l) = literal_value l
layer_value tables row (Column name) = Some (unwrap_or (column_value tables row name) (Number (pos 0)))
layer_value tables row (Negated part) = option_map Number (option_and_then (λ v. big_int (neg_ℤ (number_of v))) part)
layer_value tables row (Sum parts) = option_map Number (fold with_addend (Some (pos 0)) parts)
layer_value tables row (Product parts) = option_map Number (fold (λ total part. with_factor total (option_map number_of part)) (Some (pos 1)) parts)

abbrev pub addend_value : Addend-F (Option Value) (Bool × Option ℤ) → Bool × Option ℤ
addend_value part = (part.subtracted, option_map number_of part.expr)

-- the value of an expression on a row of the table; none where a literal or a partial result isn't a BIGINT
abbrev pub expr_value : TableDef → List Value → Expr → Option Value
expr_value table row = fold-Expr (Option Value) (Bool × Option ℤ) (layer_value (table ∷ []) row) addend_value

abbrev pub value_of_addend : TableDef → List Value → Addend → Bool × Option ℤ
value_of_addend table row = fold-Addend (Option Value) (Bool × Option ℤ) (layer_value (table ∷ []) row) addend_value

-- the text that a value is
abbrev pub text_of : Value → Option (List ℕ)
text_of (Number n) = None
text_of (Text t) = Some t
