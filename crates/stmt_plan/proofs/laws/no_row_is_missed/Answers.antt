use Rattle.stmt_plan.proofs.Covered.{no_row_is_missed}
use Rattle.stmt_plan.proofs.laws.no_row_is_missed.Goals as goal

pub returns : goal.returns
returns c = no_row_is_missed
