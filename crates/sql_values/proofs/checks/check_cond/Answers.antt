use Rattle.std.proofs.Common.{inr, rules}
use Rattle.sql_values.proofs.checks.check_cond.Goals as goal

pub returns-else-fits-clause-err : goal.returns-else-fits-clause-err
returns-else-fits-clause-err c = inr (search rules)
