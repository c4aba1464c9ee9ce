use Rattle.stmt_plan.proofs.EachOnce.{lists_have_each_once}
use Rattle.stmt_plan.proofs.laws.lists_have_each_once.Goals as goal

pub returns : goal.returns
returns c = lists_have_each_once
