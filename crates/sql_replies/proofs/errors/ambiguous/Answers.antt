use Rattle.std.proofs.Common.{◌∙◌, arith, codes}
use Rattle.sql_replies.proofs.Fits.{length-three}
use Rattle.sql_replies.proofs.errors.ambiguous.Goals as goal

pub returns-clause-bytes : goal.returns-clause-bytes
returns-clause-bytes c =
    omega (arith, length-three c.from_string.result (codes "Column '") c.shown-name.result.now (codes "' is ambiguous") (c.from_string.ensures ∙ c.in_ok-format.ensures.ok), c.shown-name.ensures.short)
