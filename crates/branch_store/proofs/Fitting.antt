-- What a column can hold.
use Rattle.std.proofs.Common.{◌≡◌, ℤ, pos, negsuc, true, Result, Ok, Err, arith, ap, sym, cond, w64}
use Rattle.std.specs.Prelude.{FitsSigned}
use Rattle.std.specs.Result.{is_ok}
use Rattle.std.proofs.lemmas.Bool.Decides.{nat_tests}
use Rattle.std.proofs.lemmas.Int.{ints}
use Rattle.sql_values.specs.declared.storage.StoreFault.{StoreFault}
use Rattle.sql_values.specs.declared.storage.StoreFault.TheVariants.{OutOfRange}
use Rattle.sql_values.specs.declared.value.Value.{Value}
use Rattle.sql_values.specs.declared.value.Value.TheVariants.{Number}
use Rattle.sql_values.specs.Expressions.{is_big_int}

is_big : (z : ℤ) → FitsSigned w64 z → is_big_int z ≡ true
is_big (pos n) fits = grind (arith, ints, nat_tests)
is_big (negsuc n) fits = grind (arith, ints, nat_tests)

pub number_fits : (z : ℤ) → FitsSigned w64 z → true ≡ is_ok (cond {A = Result Value StoreFault} (is_big_int z) (Ok (Number z)) (Err OutOfRange))
number_fits z fits = ap (λ b. is_ok (cond {A = Result Value StoreFault} b (Ok (Number z)) (Err OutOfRange))) (sym (is_big z fits))
