-- Worked examples, by computation.
use Rattle.std.specs.Prelude.{◌≡◌, pos, true, false, [], ◌∷◌, Some, None, Ok, Err, refl, codes}
use Rattle.std.specs.Str.{chars}
use Rattle.sql_values.specs.declared.literal.Literal.TheVariants as literal
use Rattle.sql_values.specs.declared.table.ColumnDef.{ColumnDef}
use Rattle.sql_values.specs.declared.table.Kind.TheVariants.{BigInt, VarChar}
use Rattle.sql_values.specs.declared.table.TableDef.{TableDef}
use Rattle.sql_values.specs.declared.value.Value.TheVariants.{Number, Text}
use Rattle.stmt_plan.specs.declared.fault.RowFault.TheVariants.{Arithmetic, OutOfRange, TooLong}
use Rattle.plain_tables.specs.Inserts.{put_all}
use Rattle.plain_tables.specs.Rows.{Row, fits_columns}
use Rattle.plain_tables.specs.Statements.{Puts, Dels, written}
use Rattle.plain_tables.specs.Updates.{held_in, with_value, changed}

-- t (k BIGINT, v BIGINT, w VARCHAR(2)), by k
abbrev v : ColumnDef
v = record { name = codes "v"; kind = BigInt }

abbrev w : ColumnDef
w = record { name = codes "w"; kind = VarChar 2 }

abbrev t : TableDef
t = record { name = codes "t"; columns = record { name = codes "k"; kind = BigInt } ∷ v ∷ w ∷ []; key = 0 }

abbrev one : Row
one = Number (pos 1) ∷ Number (pos 5) ∷ Text (codes "a") ∷ []

abbrev two : Row
two = Number (pos 2) ∷ Number (pos 6) ∷ Text (codes "b") ∷ []

abbrev two_set : Row
two_set = Number (pos 2) ∷ Number (pos 7) ∷ Text (codes "b") ∷ []

-- 7 at the second place
set_at : with_value two 1 (Number (pos 7)) ≡ two_set
set_at = refl

-- of two rows the one whose values changed
one_changed : changed (one ∷ two ∷ []) (one ∷ two_set ∷ []) ≡ two_set ∷ []
one_changed = refl

-- a number out of range and a text too long are told of the row, and what can't be counted of none
out_of_range : held_in v 2 (Some (literal.Number (pos 9223372036854775808))) ≡ Err (OutOfRange (codes "v") 2)
out_of_range = refl

greatest : held_in v 2 (Some (literal.Number (pos 9223372036854775807))) ≡ Ok (Number (pos 9223372036854775807))
greatest = refl

too_long : held_in w 3 (Some (literal.Text (codes "abc"))) ≡ Err (TooLong (codes "w") 3)
unfolding chars
too_long = refl

not_counted : held_in v 2 None ≡ Err Arithmetic
not_counted = refl

-- each value has the type of its column, and there is one for each
fitting : fits_columns t one ≡ true
unfolding chars
fitting = refl

of_another_type : fits_columns t (Number (pos 1) ∷ Text (codes "a") ∷ Text (codes "a") ∷ []) ≡ false
of_another_type = refl

one_too_few : fits_columns t (Number (pos 1) ∷ Number (pos 5) ∷ []) ≡ false
one_too_few = refl

-- a row is put in place of the one with its key, and rows with these keys go
put_in_place : written t (one ∷ two ∷ []) (Puts (two_set ∷ [])) ≡ one ∷ two_set ∷ []
unfolding put_all
put_in_place = refl

gone : written t (one ∷ two ∷ []) (Dels (pos 3 ∷ pos 1 ∷ [])) ≡ two ∷ []
gone = refl
