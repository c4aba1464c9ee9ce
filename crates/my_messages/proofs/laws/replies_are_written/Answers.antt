use Rattle.my_messages.proofs.Written.{written}
use Rattle.my_messages.proofs.laws.replies_are_written.Goals as goal

pub returns : goal.returns
returns c = written
