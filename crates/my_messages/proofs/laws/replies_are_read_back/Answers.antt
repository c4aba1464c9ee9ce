use Rattle.my_messages.specs.Reply.{payloads_of}
use Rattle.my_messages.proofs.WholeReplies.{answered, spelled_once}
use Rattle.my_messages.proofs.Written.{written}
use Rattle.my_messages.proofs.laws.replies_are_read_back.Goals as goal

pub returns-clause-whole : goal.returns-clause-whole
returns-clause-whole c = answered

pub returns-clause-once : goal.returns-clause-once
returns-clause-once c = spelled_once

pub returns-clause-written : goal.returns-clause-written
returns-clause-written c = λ r fits h. answered r (payloads_of r) (written r fits h)
