-- Values as literals, and as the cells of an answer.
use Rattle.std.specs.Prelude.{ℕ, ◌==◌, ◌^◌, ℤ, pos, negsuc, neg_ℤ, Bool, List, [], ◌∷◌, Option, Some, None, nat_lt, option_and_then, if◌then◌else◌}
use Rattle.std.specs.Borrow.{Bor}
use Rattle.std.specs.Str.{all_ascii_digits}
use Rattle.std.specs.Fmt.{signed_decimal}
use Rattle.std.specs.Option.{option_map, option_map_or}
use Rattle.sql_values.specs.declared.literal.Literal.{Literal}
use Rattle.sql_values.specs.declared.literal.Literal.TheVariants as literal
use Rattle.sql_values.specs.declared.table.Kind.{Kind}
use Rattle.sql_values.specs.declared.table.Kind.TheVariants.{BigInt, VarChar}
use Rattle.sql_values.specs.declared.value.Value.{Value}
use Rattle.sql_values.specs.Conditions.{literal_of}
use Rattle.sql_text.specs.Tokens.{value_after}

-- a value that may be there, as a literal
abbrev pub cell_literal : Option (Bor Value) → Literal
cell_literal None = literal.Null
cell_literal (Some value) = literal_of value.now

-- what stands in a cell: NULL, or a text
abbrev pub Cell : Type 0
Cell = Option (List ℕ)

-- a literal as a cell has it: a number in decimal, a text as it is
abbrev pub cell_text : Literal → Cell
cell_text (literal.Number n) = Some (signed_decimal n)
cell_text (literal.Text t) = Some t
cell_text literal.Null = None

-- THE SAME READ BACK

-- the number that one digit or more stand for
abbrev pub digits_number : List ℕ → Option ℕ
digits_number [] = None
digits_number (digit ∷ digits) = if all_ascii_digits (digit ∷ digits) then Some (value_after 0 (digit ∷ digits)) else None

-- the number that digits stand for, or a minus sign and digits
abbrev pub decimal_number : List ℕ → Option ℤ
decimal_number [] = None
decimal_number (byte ∷ bytes) = if byte == 45 then option_map (λ n. neg_ℤ (pos n)) (digits_number bytes) else option_map pos (digits_number (byte ∷ bytes))

-- a number from -2^127 to 2^127 - 1
abbrev pub is_wide : ℤ → Bool
is_wide (pos n) = nat_lt n (2 ^ 127)
is_wide (negsuc n) = nat_lt n (2 ^ 127)

abbrev pub wide : ℤ → Option ℤ
wide n = if is_wide n then Some n else None

-- such a number that a text is in decimal
abbrev pub wide_number : List ℕ → Option ℤ
wide_number text = option_and_then wide (decimal_number text)

-- what a cell of a column of this kind says; a text that is no such number counts as NULL there
abbrev pub read_cell : Kind → Cell → Literal
read_cell kind None = literal.Null
read_cell BigInt (Some text) = option_map_or literal.Number (wide_number text) literal.Null
read_cell (VarChar most) (Some text) = literal.Text text
