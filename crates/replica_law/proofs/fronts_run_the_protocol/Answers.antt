use Rattle.commit_protocol.specs.Replicas.{new_front}
use Rattle.replica_law.proofs.Core.{core_runs}
use Rattle.replica_law.proofs.fronts_run_the_protocol.Goals as goal

pub returns : goal.returns
returns a f p status v r = core_runs f p (new_front status) v r
