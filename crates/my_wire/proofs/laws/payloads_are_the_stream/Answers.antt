use Rattle.my_wire.proofs.Streams.{fed_on, gave_on}
use Rattle.my_wire.proofs.laws.payloads_are_the_stream.Goals as goal

pub returns-clause-fed : goal.returns-clause-fed
returns-clause-fed c = λ first stream piece payloads s fits h. fed_on first stream payloads s piece fits h

pub returns-clause-gave : goal.returns-clause-gave
returns-clause-gave c = λ first stream payload rest payloads s e h. gave_on first stream payloads s payload rest e h
