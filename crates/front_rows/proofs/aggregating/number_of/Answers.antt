use Rattle.std.proofs.Common.{◌≡◌, ◌≢◌, ◌∙◌, arith, sym}
use Rattle.std.specs.List.{slice_index}
use Rattle.std.proofs.lemmas.Bool.Decides.{nat_tests}
use Rattle.front_rows.proofs.Numbers.{parsed, with_plus}
use Rattle.front_rows.proofs.aggregating.number_of.Goals as goal

pub returns-then-has_plus : goal.returns-then-has_plus
returns-then-has_plus c =
    let plus : slice_index c.args.text.now 0 ≡ 43 = grind (arith, nat_tests, c.has_plus.ensures, c.if-has_plus.true) in
    sym (with_plus c.args.text.now plus)

pub returns : goal.returns
returns c =
    let other : slice_index c.args.text.now 0 ≢ 43 = λ plus. grind (arith, nat_tests, c.has_plus.ensures, c.if-has_plus.false, plus) in
    c.ok.ensures.value ∙ parsed c.args.text.now c.parse.result c.parse.ensures.value.0 other
