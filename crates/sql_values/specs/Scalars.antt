-- What the code compares.
use Rattle.sql_values.specs.declared.literal.Literal.{Literal}
use Rattle.sql_values.specs.declared.literal.Literal.TheVariants as literal
use Rattle.sql_values.specs.declared.conditions.Scalar.{Scalar}
use Rattle.sql_values.specs.declared.conditions.Scalar.TheVariants.{Number, Text, Null}

-- the literal that a scalar stands for
abbrev pub scalar_literal : Scalar → Literal
scalar_literal (Number z) = literal.Number z
scalar_literal (Text t) = literal.Text t.now
scalar_literal Null = literal.Null
