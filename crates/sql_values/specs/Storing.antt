-- What becomes of a literal that is stored, and how much room a row takes.
use Rattle.std.specs.Prelude.{ℕ, ◌+◌, Bool, ◌&&◌, if◌then◌else◌, nat_le, List, Result, Ok, Err, length, sum_by}
use Rattle.std.specs.Str.{chars}
use Rattle.sql_values.specs.declared.literal.Literal.{Literal}
use Rattle.sql_values.specs.declared.literal.Literal.TheVariants as literal
use Rattle.sql_values.specs.declared.storage.StoreFault.{StoreFault}
use Rattle.sql_values.specs.declared.storage.StoreFault.TheVariants.{IsNull, TypeMismatch, OutOfRange, TooLong}
use Rattle.sql_values.specs.declared.table.Kind.{Kind}
use Rattle.sql_values.specs.declared.table.Kind.TheVariants.{BigInt, VarChar}
use Rattle.sql_values.specs.declared.value.Value.{Value}
use Rattle.sql_values.specs.declared.value.Value.TheVariants.{Number, Text}
use Rattle.sql_values.specs.Expressions.{is_big_int}

-- a text of at most so many characters, and of at most 1,024 bytes
abbrev pub is_within : ℕ → List ℕ → Bool
is_within most t = nat_le (length t) 1024 && nat_le (length (chars t)) most

-- the value that a column of this kind holds after a literal was stored in it, or why it can't be
abbrev pub stored : Literal → Kind → Result Value StoreFault
stored literal.Null kind = Err IsNull
stored (literal.Number z) BigInt = if is_big_int z then Ok (Number z) else Err OutOfRange
stored (literal.Number z) (VarChar most) = Err TypeMismatch
stored (literal.Text t) BigInt = Err TypeMismatch
stored (literal.Text t) (VarChar most) = if is_within most t then Ok (Text t) else Err TooLong

-- the bytes of a value: a byte for its type, 8 of a number, 4 for a text's length
abbrev pub value_size : Value → ℕ
value_size (Number n) = 9
value_size (Text t) = 5 + length t

-- the bytes of a row, 4 for the number of its values among them
abbrev pub row_size : List Value → ℕ
row_size row = 4 + sum_by value_size row
