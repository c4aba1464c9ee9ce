use Rattle.commit_protocol.specs.Backend.{calls, new_server}
use Rattle.protocol_law.proofs.Locks.{locked_calls, locked_new}
use Rattle.protocol_law.proofs.Stores.{keeps_request, keeps_hangup, keeps_stop}
use Rattle.protocol_law.proofs.stores_keep_servers.Goals as goal

pub returns-clause-left : goal.returns-clause-left
returns-clause-left a es c r = (keeps_request (calls es new_server) c r (locked_calls es new_server locked_new).distinct).0

pub returns-clause-told : goal.returns-clause-told
returns-clause-told a es c r = (keeps_request (calls es new_server) c r (locked_calls es new_server locked_new).distinct).1

pub returns-clause-hangup : goal.returns-clause-hangup
returns-clause-hangup a es c = keeps_hangup (calls es new_server) c

pub returns-clause-stop : goal.returns-clause-stop
returns-clause-stop a es = keeps_stop (calls es new_server)
