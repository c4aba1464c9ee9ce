use Rattle.stmt_plan.proofs.Covered.{inserts_are_covered}
use Rattle.stmt_plan.proofs.laws.inserts_are_covered.Goals as goal

pub returns : goal.returns
returns c = inserts_are_covered
