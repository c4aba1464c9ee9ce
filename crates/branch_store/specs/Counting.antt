-- The sum of a column of rows.
use Rattle.std.specs.Prelude.{ℕ, ◌*◌, ◌^◌, ℤ, pos, neg_ℤ, ◌≤ℤ◌, Bool, false, Option, Some, None, slice_get}
use Rattle.std.specs.Option.{option_map_or}
use Rattle.sql_values.specs.declared.literal.Literal.{Literal}
use Rattle.sql_values.specs.declared.literal.Literal.TheVariants as literal
use Rattle.sql_values.specs.declared.table.Kind.TheVariants.{BigInt}
use Rattle.sql_values.specs.Laws.{is_of}
use Rattle.front_rows.specs.Aggregates.{number_in}
use Rattle.plain_tables.specs.Rows.{Row}

-- a number that may be there, as a literal
abbrev pub option_literal : Option ℤ → Literal
option_literal None = literal.Null
option_literal (Some number) = literal.Number number

-- the row has a number in the column
abbrev pub has_number : ℕ → Row → Bool
has_number column row = option_map_or (is_of BigInt) (slice_get row column) false

-- as so many numbers of 64 bits may have for their sum
pub record IsSumOf (count : ℕ) (sum : Literal) : Type 0 where
  pub low : neg_ℤ (pos (count * 2 ^ 63)) ≤ℤ number_in sum
  pub high : number_in sum ≤ℤ pos (count * 2 ^ 63)
