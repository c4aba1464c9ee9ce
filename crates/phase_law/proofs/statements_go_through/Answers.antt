use Rattle.phase_law.proofs.Goes.{statements_go_through}
use Rattle.phase_law.proofs.statements_go_through.Goals as goal

pub returns : goal.returns
returns c = statements_go_through
