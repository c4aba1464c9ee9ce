use Rattle.my_messages.proofs.ReplyRuns as runs
use Rattle.my_messages.proofs.Accepts.{accepts}
use Rattle.my_messages.proofs.WholeReplies.{next_admitted, next_stops}
use Rattle.my_messages.proofs.laws.replies_are_read.Goals as goal

pub returns-clause-goes : goal.returns-clause-goes
returns-clause-goes c = runs.goes

pub returns-clause-gives : goal.returns-clause-gives
returns-clause-gives c = runs.gives

pub returns-clause-stops : goal.returns-clause-stops
returns-clause-stops c = next_stops

pub returns-clause-accepts : goal.returns-clause-accepts
returns-clause-accepts c = λ ps more s p r h k. accepts ps s p more r h k

pub returns-clause-admits : goal.returns-clause-admits
returns-clause-admits c = next_admitted
