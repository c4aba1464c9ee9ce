use Rattle.std.proofs.Common.{◌∙◌, arith, codes}
use Rattle.std.specs.Fmt.{decimal}
use Rattle.sql_replies.proofs.Fits.{length-two, decimal_is_short}
use Rattle.sql_replies.proofs.errors.syntax_error.Goals as goal

pub returns-clause-bytes : goal.returns-clause-bytes
returns-clause-bytes c =
    omega (arith, length-two c.from_string.result (codes "Syntax error at byte ") (decimal c.args.place) (c.from_string.ensures ∙ c.in_ok-format.ensures.ok), decimal_is_short c.args.place (omega arith))
