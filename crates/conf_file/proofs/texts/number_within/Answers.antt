use Rattle.std.proofs.Common.{arith}
use Rattle.std.proofs.lemmas.Grind.{common_steps}
use Rattle.conf_file.proofs.Numbers.{refused_within}
use Rattle.conf_file.proofs.texts.number_within.Goals as goal

pub returns-in_default-3 : goal.returns-in_default-3
returns-in_default-3 c =
    refused_within c.args.low c.args.high c.args.digits.now c.in_default.field-0 c.in_default.ensures.value.0 (grind (arith, common_steps)) c.ranges.high.fits
