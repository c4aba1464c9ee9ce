-- Numbers of 128 bits in decimal: what is printed is read again, and `parse` reads what the definition does.
use Rattle.std.proofs.Common.{◌≡◌, ◌≢◌, ℕ, suc, zero, ◌≤◌, ◌<◌, ◌^◌, ◌==◌, ℤ, pos, negsuc, neg_ℤ, Bool, true, false, cond, List, [], ◌∷◌, length, get_or, nat_lt, Some, None, Result, Ok, Err, refl, sym, ◌∙◌, ap, arith, rules, inl, inr}
use Rattle.std.specs.Prelude.{OkIff, option_and_then}
use Rattle.std.specs.Int.{w128}
use Rattle.std.specs.Fmt.{decimal, signed_decimal}
use Rattle.std.specs.Option.{option_map}
use Rattle.std.specs.Result.{result_ok}
use Rattle.std.specs.Str.{all_ascii_digits}
use Rattle.std.specs.Str.Parse.{ParsesSigned}
use Rattle.std.specs.Char.{is_ascii_digit}
use Rattle.std.proofs.lemmas.Bool.{and_parts, cases_Bool, false≢true}
use Rattle.std.proofs.lemmas.Bool.Decides.{nat_tests}
use Rattle.std.proofs.lemmas.Fmt.{decimal_is_IsNumeral_wide, length-decimal-le_wide}
use Rattle.std.proofs.lemmas.Str.Parse.{IsNumeralModel, numerals_by_fold, parse_signed_minus, parse_signed_plain}
use Rattle.sql_text.specs.Tokens.{value_after}
use Rattle.front_rows.specs.Cells.{decimal_number, digits_number, is_wide, wide, wide_number}

-- the digits of a number
own : IsNumeralModel (λ ds. all_ascii_digits ds ≡ true) (value_after 0)
own = numerals_by_fold (λ ds. all_ascii_digits ds ≡ true) (search rules) value_after (search rules)

-- PRINTED AND READ

small : (n : ℕ) → n ≤ 2 ^ 127 → n < 10 ^ 64
small n fits = omega arith

read_digits : (ds : List ℕ) (n : ℕ) → all_ascii_digits ds ≡ true → 0 < length ds → value_after 0 ds ≡ n → digits_number ds ≡ Some n
read_digits [] n digits some value = let no : ⊥ = omega arith in absurd no
read_digits (d ∷ ds) n digits some value = rw digits (ap Some value)

pub digits_read : (n : ℕ) → n ≤ 2 ^ 127 → digits_number (decimal n) ≡ Some n
digits_read n fits =
    let k = decimal_is_IsNumeral_wide n (small n fits) in
    read_digits (decimal n) n (own.from (decimal n) k.0.1) k.0.0 (own.same (decimal n) k.0.1 ∙ k.1)

-- a digit is no minus sign
no_minus : (d : ℕ) → is_ascii_digit d ≡ true → (d == 45) ≡ false
no_minus d h = grind (arith, nat_tests)

read_positive : (ds : List ℕ) (n : ℕ) → all_ascii_digits ds ≡ true → digits_number ds ≡ Some n → decimal_number ds ≡ Some (pos n)
read_positive [] n digits read = let no : None ≡ Some n = read in cc
read_positive (d ∷ ds) n digits read = rw (no_minus d (and_parts (is_ascii_digit d) (all_ascii_digits ds) digits).0) (ap (option_map pos) read)

narrow : (n m : ℕ) → n < m → nat_lt n m ≡ true
narrow n m below = grind (arith, nat_tests)

pub reads_back : (z : ℤ) → is_wide z ≡ true → wide_number (signed_decimal z) ≡ Some z
reads_back (pos n) fits =
    let k = decimal_is_IsNumeral_wide n (small n (below n fits)) in
    let read : decimal_number (decimal n) ≡ Some (pos n) = read_positive (decimal n) n (own.from (decimal n) k.0.1) (digits_read n (below n fits)) in
    ap (option_and_then wide) read ∙ (rw fits refl)
  where
    below : (n : ℕ) → nat_lt n (2 ^ 127) ≡ true → n ≤ 2 ^ 127
    below n fits = grind (arith, nat_tests)
reads_back (negsuc n) fits =
    ap (λ o. option_and_then wide (option_map (λ m. neg_ℤ (pos m)) o)) (digits_read (suc n) (below n fits)) ∙ (rw fits refl)
  where
    below : (n : ℕ) → nat_lt n (2 ^ 127) ≡ true → suc n ≤ 2 ^ 127
    below n fits = grind (arith, nat_tests)

-- and is short
pub few_digits : (z : ℤ) → is_wide z ≡ true → length (signed_decimal z) ≤ 65
few_digits (pos n) fits = omega (arith, length-decimal-le_wide 64 n (omega arith) (below n fits) (below n fits))
  where
    below : (n : ℕ) → nat_lt n (2 ^ 127) ≡ true → n < 10 ^ 64
    below n fits = grind (arith, nat_tests)
few_digits (negsuc n) fits = omega (arith, length-decimal-le_wide 64 (suc n) (omega arith) (below n fits) (below n fits))
  where
    below : (n : ℕ) → nat_lt n (2 ^ 127) ≡ true → suc n < 10 ^ 64
    below n fits = grind (arith, nat_tests)

-- WHAT `parse` READS

module _ {E : Type 0} where
  by_test : (b : Bool) (P : Type 0) (z : ℤ) (r : Result ℤ E) → OkIff r P z → (b ≡ true → P) → (P → b ≡ true) → result_ok r ≡ cond b (Some z) None
  by_test true P z (Ok x) is to from = ap Some is.1
  by_test true P z (Err e) is to from = absurd (is (to refl))
  by_test false P z (Ok x) is to from = absurd (false≢true (from is.0))
  by_test false P z (Err e) is to from = refl

-- the number is wide exactly where this holds
wide_is : ℤ → Type 0 → Type 0
wide_is z few = (is_wide z ≡ true → few) × (few → is_wide z ≡ true)

wide_positive : (n : ℕ) → wide_is (pos n) (n < 2 ^ 127)
unfolding wide_is
wide_positive n = (λ fits. grind (arith, nat_tests), λ few. grind (arith, nat_tests))

wide_negative : (n : ℕ) → wide_is (neg_ℤ (pos n)) (n ≤ 2 ^ 127)
unfolding wide_is
wide_negative zero = (λ fits. omega arith, λ few. refl)
wide_negative (suc n) = (λ fits. grind (arith, nat_tests), λ few. grind (arith, nat_tests))

module _ {E : Type 0} (sign : ℕ → ℤ) (few : ℕ → Type 0) (fits : (n : ℕ) → wide_is (sign n) (few n)) where
  read_as : (ds : List ℕ) (r : Result ℤ E) → OkIff r ((all_ascii_digits ds ≡ true) × (0 < length ds) × few (value_after 0 ds)) (sign (value_after 0 ds)) → result_ok r ≡ option_and_then wide (option_map sign (digits_number ds))
  unfolding wide_is
  read_as [] r is = by_test false _ _ r is (λ no. absurd (false≢true no)) (λ p. let no : ⊥ = omega (arith, p.1) in absurd no)
  read_as (d ∷ ds) r is = elim (cases_Bool (all_ascii_digits (d ∷ ds))) [
    | inl digits ↦ by_test (is_wide (sign (value_after 0 (d ∷ ds)))) _ _ r is (λ w. (digits, omega arith, (fits (value_after 0 (d ∷ ds))).0 w)) (λ p. (fits (value_after 0 (d ∷ ds))).1 p.2) ∙ sym (ap (λ o. option_and_then wide (option_map sign o)) (found digits))
    | inr other ↦ by_test false _ _ r is (λ no. absurd (false≢true no)) (λ p. absurd (false≢true (sym other ∙ p.0))) ∙ sym (ap (λ o. option_and_then wide (option_map sign o)) (missed other))
  ]
    where
      found : all_ascii_digits (d ∷ ds) ≡ true → digits_number (d ∷ ds) ≡ Some (value_after 0 (d ∷ ds))
      found digits = rw digits refl

      missed : all_ascii_digits (d ∷ ds) ≡ false → digits_number (d ∷ ds) ≡ None
      missed other = rw other refl

-- where no plus sign stands in front, what is read of a text is its number
pub parsed : {E : Type 0} (bs : List ℕ) (r : Result ℤ E) → ParsesSigned w128 10 bs r → get_or bs 0 0 ≢ 43 → result_ok r ≡ wide_number bs
parsed [] r read no_plus = read_as pos (λ n. n < 2 ^ 127) wide_positive [] r (parse_signed_plain own w128 [] r read no_plus (λ no. omega arith))
parsed (b ∷ bs) r read no_plus = elim (cases_Bool (b == 45)) [
  | inl minus ↦
      let is : b ≡ 45 = grind (arith, nat_tests, minus) in
      read_as (λ n. neg_ℤ (pos n)) (λ n. n ≤ 2 ^ 127) wide_negative bs r (parse_signed_minus own w128 (b ∷ bs) r read is) ∙ (rw minus refl)
  | inr other ↦
      let is : b ≢ 45 = λ same. grind (arith, nat_tests, other, same) in
      read_as pos (λ n. n < 2 ^ 127) wide_positive (b ∷ bs) r (parse_signed_plain own w128 (b ∷ bs) r read no_plus is) ∙ (rw other refl)
]

-- with one, it is none
pub with_plus : (bs : List ℕ) → get_or bs 0 0 ≡ 43 → wide_number bs ≡ None
with_plus [] plus = let no : ⊥ = omega arith in absurd no
with_plus (b ∷ bs) plus = rw plus refl
