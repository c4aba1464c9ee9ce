use Rattle.std.proofs.Common.{◌∙◌, arith, codes}
use Rattle.std.specs.Fmt.{decimal}
use Rattle.sql_replies.proofs.Fits.{length-two, decimal_is_short}
use Rattle.sql_replies.proofs.errors.wrong_count.Goals as goal

pub returns-clause-bytes : goal.returns-clause-bytes
returns-clause-bytes c =
    omega (arith, length-two c.from_string.result (codes "Column count doesn't match value count at row ") (decimal c.args.row) (c.from_string.ensures ∙ c.in_ok-format.ensures.ok), decimal_is_short c.args.row (omega arith))
