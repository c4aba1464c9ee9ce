use Rattle.commit_protocol.specs.Protocol.{run, start}
use Rattle.protocol_law.proofs.Runs.{sound, no_rollback, commits}
use Rattle.protocol_law.proofs.decisions_stand.Goals as goal

pub returns-clause-no_rollback : goal.returns-clause-no_rollback
returns-clause-no_rollback a f es c r b h e = no_rollback f (run f es start) c r b (sound f es).orderly h e

pub returns-clause-commit : goal.returns-clause-commit
returns-clause-commit a f es c r b h e = commits f (run f es start) c r b (sound f es).orderly h e
