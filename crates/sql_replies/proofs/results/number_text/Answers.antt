use Rattle.std.proofs.Common.{◌∙◌, arith, ap, length, w64, SFits, rules}
use Rattle.std.specs.Fmt.{signed_decimal}
use Rattle.std.proofs.lemmas.Int.{to_z-of_z}
use Rattle.sql_replies.proofs.Fits.{signed_is_short}
use Rattle.sql_replies.proofs.results.number_text.Goals as goal

pub returns-clause-short : goal.returns-clause-short
returns-clause-short c =
    let fits : SFits w64 c.args.number = search rules in
    omega (arith, ap length (c.from_string.ensures ∙ c.in_ok-to_string.ensures.ok ∙ ap signed_decimal (to_z-of_z w64 c.args.number fits)), signed_is_short c.args.number c.ranges.number.sfits)
