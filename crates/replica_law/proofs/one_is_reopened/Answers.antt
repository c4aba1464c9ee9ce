use Rattle.replica_law.proofs.Computed.{reopened_run}
use Rattle.replica_law.proofs.one_is_reopened.Goals as goal

pub returns-clause-run : goal.returns-clause-run
returns-clause-run a found = reopened_run found
