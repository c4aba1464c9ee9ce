use Rattle.my_wire.proofs.Lenencs.{lenenc_form, lenenc_shortest}
use Rattle.my_wire.proofs.laws.lengths_are_shortest.Goals as goal

pub returns-clause-form : goal.returns-clause-form
returns-clause-form c = lenenc_form

pub returns-clause-shortest : goal.returns-clause-shortest
returns-clause-shortest c = lenenc_shortest
