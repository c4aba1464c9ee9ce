-- A value is a number or a text.
use Rattle.std.proofs.Common.{◌≡◌, ℤ, List, ℕ, refl, ap, Option, Some, None, option_and_then}
use Rattle.std.specs.Option.{option_map}
use Rattle.std.proofs.lemmas.Grind.{common_steps}
use Rattle.sql_values.specs.declared.value.Value.{Value}
use Rattle.sql_values.specs.declared.value.Value.TheVariants.{Number, Text}
use Rattle.sql_values.specs.Expressions.{number_of, text_of}

pub text_of-Number : (number : Option ℤ) → option_and_then text_of (option_map Number number) ≡ None
text_of-Number None = refl
text_of-Number (Some n) = refl

-- what is no text is its number
pub no_text : (value : Option Value) → option_and_then text_of value ≡ None → value ≡ option_map Number (option_map number_of value)
no_text None e = refl
no_text (Some (Number n)) e = refl
no_text (Some (Text t)) e = cc

-- what is a text is that text
pub a_text : (value : Option Value) (t : List ℕ) → option_and_then text_of value ≡ Some t → value ≡ Some (Text t)
a_text None t e = cc
a_text (Some (Number n)) t e = cc
a_text (Some (Text s)) t e = ap (λ found. option_map Text found) e

pub ruleset values = (common_steps, text_of-Number, no_text, a_text)
