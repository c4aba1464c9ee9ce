-- What may be compared with what, and stored where.
use Rattle.std.specs.Prelude.{◌^◌, ◌-◌, Bool, true, false, Option, Some, None, length, min}
use Rattle.std.specs.Str.{chars}
use Rattle.sql_values.specs.declared.literal.Literal.{Literal}
use Rattle.sql_values.specs.declared.literal.Literal.TheVariants as literal
use Rattle.sql_values.specs.declared.table.Kind.{Kind}
use Rattle.sql_values.specs.declared.table.Kind.TheVariants.{BigInt, VarChar}

-- the kind of the shortest column that can hold a literal of this type; NULL has none
abbrev pub literal_kind : Literal → Option Kind
literal_kind (literal.Number n) = Some BigInt
literal_kind (literal.Text t) = Some (VarChar (min (length (chars t)) (2 ^ 32 - 1)))
literal_kind literal.Null = None

-- both are numbers, or both are texts of any length
abbrev pub is_alike : Kind → Kind → Bool
is_alike BigInt BigInt = true
is_alike (VarChar m) (VarChar n) = true
is_alike _ _ = false

-- both have a kind, and these are alike
abbrev pub are_comparable : Option Kind → Option Kind → Bool
are_comparable (Some left) (Some right) = is_alike left right
are_comparable _ _ = false
