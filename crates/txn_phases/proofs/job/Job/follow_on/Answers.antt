use Rattle.std.proofs.Common.{◌∙◌, ap}
use Rattle.txn_phases.specs.Phases.{owed_at}
use Rattle.txn_phases.proofs.job.Job.follow_on.Goals as goal

pub returns-in-Err-clause-owed : goal.returns-in-Err-clause-owed
returns-in-Err-clause-owed c = c.restore.ensures ∙ (c.in-Err.ensures.owed c.stage-stage.result ∙ ap (λ s. owed_at s c.args.self.now) c.stage-stage.ensures)
