use Rattle.std.proofs.Common.{◌∙◌, arith, codes}
use Rattle.sql_replies.proofs.Fits.{length-three}
use Rattle.sql_replies.proofs.errors.no_table.Goals as goal

pub returns-clause-bytes : goal.returns-clause-bytes
returns-clause-bytes c =
    omega (arith, length-three c.from_string.result (codes "Table '") c.shown-name.result.now (codes "' doesn't exist") (c.from_string.ensures ∙ c.in_ok-format.ensures.ok), c.shown-name.ensures.short)
