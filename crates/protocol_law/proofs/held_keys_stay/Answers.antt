use Rattle.commit_protocol.specs.Protocol.{run, start}
use Rattle.protocol_law.proofs.Runs.{sound, held_stays}
use Rattle.protocol_law.proofs.held_keys_stay.Goals as goal

pub returns : goal.returns
returns a f es e s x k b h held n = held_stays f (run f es start) e (sound f es) s x k b h held n
