use Rattle.std.proofs.Common.{◌∙◌, arith, codes}
use Rattle.std.specs.Fmt.{decimal}
use Rattle.sql_replies.proofs.Fits.{length-four, decimal_is_short}
use Rattle.sql_replies.proofs.errors.backend_refused.Goals as goal

pub returns-clause-bytes : goal.returns-clause-bytes
returns-clause-bytes c =
    omega (
      arith,
      length-four c.from_string.result (codes "Backend ") c.shown-name.result.now (codes " refused: ") (decimal c.args.number) (c.from_string.ensures ∙ c.in_ok-format.ensures.ok),
      c.shown-name.ensures.short,
      decimal_is_short c.args.number (omega arith),
    )
