use Rattle.replica_law.proofs.Present.{names_connection}
use Rattle.replica_law.proofs.Moves.{agreed}
use Rattle.replica_law.proofs.epochs_name_connections.Goals as goal

pub returns : goal.returns
returns a f p status v x c g r among e h = names_connection p v.link (v.line x) (v.core.transaction x).asked (v.sent x) g c ((agreed f p status v r).present x) among e h
