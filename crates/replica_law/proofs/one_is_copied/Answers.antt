use Rattle.std.proofs.Common.{refl}
use Rattle.replica_law.proofs.Computed.{whole_run}
use Rattle.replica_law.proofs.one_is_copied.Goals as goal

pub returns-clause-run : goal.returns-clause-run
returns-clause-run a = whole_run

pub returns-clause-answered : goal.returns-clause-answered
returns-clause-answered a = (tt, ((record { scans = refl; answer = refl }, tt), tt))
