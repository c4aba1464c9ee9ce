use Rattle.std.proofs.Common.{sym, ap, ◌∙◌}
use Rattle.std.specs.Str.{all_ascii_digits}
use Rattle.spider_cli.proofs.Digits.{unparsed}
use Rattle.spider_cli.proofs.numbers.number_within.Goals as goal

pub returns-in_default : goal.returns-in_default
returns-in_default c =
    let d = ap all_ascii_digits (sym c.as_bytes.ensures.value) ∙ sym c.is_digits.ensures ∙ c.if-not-is_digits.false in
    unparsed c.args.least c.args.most c.args.word.now c.parse.result c.in_default.field-0 c.ranges.most.fits c.parse.ensures.value.0 d c.in_default.is
