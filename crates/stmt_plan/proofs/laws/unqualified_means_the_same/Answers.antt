use Rattle.stmt_plan.proofs.BareNames.{unqualified_means_the_same}
use Rattle.stmt_plan.proofs.laws.unqualified_means_the_same.Goals as goal

pub returns : goal.returns
returns c = unqualified_means_the_same
