use Rattle.my_wire.proofs.Streams.{refusal_found, refusal_again}
use Rattle.my_wire.proofs.laws.packets_are_found.Goals as goal

pub returns-clause-refused : goal.returns-clause-refused
returns-clause-refused c = λ expected bytes fault fits. (refusal_found expected bytes fault fits, refusal_again expected bytes fault)
