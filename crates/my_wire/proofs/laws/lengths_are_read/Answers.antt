use Rattle.my_wire.proofs.Lenencs.{lenenc_found, lenenc_again, lenenc_short}
use Rattle.my_wire.proofs.laws.lengths_are_read.Goals as goal

pub returns-clause-found : goal.returns-clause-found
returns-clause-found c = lenenc_found

pub returns-clause-only : goal.returns-clause-only
returns-clause-only c = lenenc_again

pub returns-clause-short : goal.returns-clause-short
returns-clause-short c = λ bytes e. let b = lenenc_short bytes e in record { value = b.value; more = b.more; are_bytes = b.are_bytes; spells = b.spells.0 }
