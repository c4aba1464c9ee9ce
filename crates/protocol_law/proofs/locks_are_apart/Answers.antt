use Rattle.commit_protocol.specs.Backend.{new_server}
use Rattle.protocol_law.proofs.Logs.{touched_is_owned}
use Rattle.protocol_law.proofs.Locks.{locked_calls, locked_new}
use Rattle.protocol_law.proofs.locks_are_apart.Goals as goal

pub returns-clause-apart : goal.returns-clause-apart
returns-clause-apart c es = (locked_calls es new_server locked_new).apart

pub returns-clause-own : goal.returns-clause-own
returns-clause-own c es x a k f = touched_is_owned a.log k
