-- Numbers in decimal digits, as `parse` reads them.
use Rattle.std.proofs.Common.{◌≡◌, ℕ, ◌^◌, ◌<◌, ◌≤◌, List, [], ◌∷◌, Bool, true, false, cond, Option, Some, None, Result, Ok, Err, length, refl, sym, ap, ◌∙◌, arith}
use Rattle.std.specs.Prelude.{◌&&◌, nat_le, nat_lt}
use Rattle.std.specs.Result.{OkIff}
use Rattle.std.specs.Str.{all_ascii_digits}
use Rattle.std.specs.Str.Parse.{digits_value, ParsesUnsigned}
use Rattle.std.proofs.lemmas.Bool.Decides.{nat_tests}
use Rattle.std.proofs.lemmas.Str.Parse.{IsNumeralModel, numerals_by_value, tells_all_ascii_digits, parse_digits}
use Rattle.spider_cli.specs.Top.{number_within}

own : IsNumeralModel (λ ds. all_ascii_digits ds ≡ true) (digits_value 10)
own = numerals_by_value _ tells_all_ascii_digits

without : (a b c d : Bool) (x : Option ℕ) → (c && d) ≡ false → None ≡ cond (a && (b && (c && d))) x None
without true true true true x e = absurd (cc)
without true true true false x e = refl
without true true false d x e = refl
without true false c d x e = refl
without false b c d x e = refl

without_first : (a b : Bool) (x : Option ℕ) → a ≡ false → None ≡ cond (a && b) x None
without_first true b x e = absurd (cc)
without_first false b x e = refl

too_large : (least v most : ℕ) → most < v → (nat_le least v && nat_le v most) ≡ false
too_large least v most h = grind (arith, nat_tests)

unparsed_by : {E : Type 0} (least most : ℕ) (word : List ℕ) (r : Result ℕ E) (x : E) (t : Bool) → most < 2 ^ 64 → OkIff r ((0 < length word) × (digits_value 10 word < 2 ^ 64)) (digits_value 10 word) → r ≡ Err x
    → nat_lt 0 (length word) ≡ t → None ≡ number_within least most word
unparsed_by least most word (Ok m) x t l h e k = absurd (cc)
unparsed_by least most word (Err y) x false l h e k = without_first (nat_lt 0 (length word)) _ _ k
unparsed_by least most word (Err y) x true l h e k =
    let some : 0 < length word = grind (arith, nat_tests) in
    let large : most < digits_value 10 word = at_least most (digits_value 10 word) l (λ v. h (some, v)) in
    without (nat_lt 0 (length word)) (all_ascii_digits word) (nat_le least (digits_value 10 word)) (nat_le (digits_value 10 word) most) _ (too_large least (digits_value 10 word) most large)
  where
    at_least : (m v : ℕ) → m < 2 ^ 64 → ¬ (v < 2 ^ 64) → m < v
    at_least m v a b = omega arith

-- digits that `parse` refuses are none, or their number is too large
pub unparsed : {E : Type 0} (least most : ℕ) (word : List ℕ) (r : Result ℕ E) (x : E) → most < 2 ^ 64 → ParsesUnsigned 64 10 word r → all_ascii_digits word ≡ true → r ≡ Err x → None ≡ number_within least most word
unparsed least most word r x l h d e = unparsed_by least most word r x (nat_lt 0 (length word)) l (parse_digits own 64 word r h d) e refl
