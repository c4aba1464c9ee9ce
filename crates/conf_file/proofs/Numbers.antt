-- What `parse` makes of decimal digits.
use Rattle.std.proofs.Common.{◌≡◌, ℕ, ◌<◌, ◌^◌, true, List, length, None, Err, arith, rules}
use Rattle.std.proofs.lemmas.Bool.Decides.{nat_tests}
use Rattle.std.proofs.lemmas.Str.Parse.{IsNumeralModel, numerals_by_value, parse_digits}
use Rattle.std.specs.Char.{is_ascii_digit}
use Rattle.std.specs.List.{list_all}
use Rattle.std.specs.Str.Parse.{digits_value, ParsesUnsigned}
use Rattle.conf_file.specs.Texts.{number_within}

pub digits : IsNumeralModel (λ ds. list_all is_ascii_digit ds ≡ true) (digits_value 10)
digits = numerals_by_value _ (search rules)

too_large : (low high : ℕ) (bs : List ℕ) → high < 2 ^ 32 → (0 < length bs × (digits_value 10 bs < 2 ^ 32) → ⊥) → None ≡ number_within low high bs
too_large low high bs fits refused = grind (arith, nat_tests)

-- digits that were refused are no number within bounds of 32 bits
pub refused_within : {E : Type 0} (low high : ℕ) (bs : List ℕ) (e : E) → ParsesUnsigned {E = E} 32 10 bs (Err e) → list_all is_ascii_digit bs ≡ true → high < 2 ^ 32
    → None ≡ number_within low high bs
refused_within {E} low high bs e parsed all fits = too_large low high bs fits (parse_digits digits {E = E} 32 bs (Err e) parsed all)
