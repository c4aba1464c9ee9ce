use Rattle.std.proofs.Common.{◌∙◌, arith, codes}
use Rattle.std.specs.Fmt.{decimal}
use Rattle.sql_replies.proofs.Fits.{length-four, decimal_is_short}
use Rattle.sql_replies.proofs.errors.out_of_range.Goals as goal

pub returns-clause-bytes : goal.returns-clause-bytes
returns-clause-bytes c =
    omega (
      arith,
      length-four c.from_string.result (codes "Out of range value for column '") c.shown-name.result.now (codes "' at row ") (decimal c.args.row) (c.from_string.ensures ∙ c.in_ok-format.ensures.ok),
      c.shown-name.ensures.short,
      decimal_is_short c.args.row (omega arith),
    )
