use Rattle.replica_law.proofs.Computed.{alone_run}
use Rattle.replica_law.proofs.one_goes_on.Goals as goal

pub returns-clause-run : goal.returns-clause-run
returns-clause-run a = alone_run
