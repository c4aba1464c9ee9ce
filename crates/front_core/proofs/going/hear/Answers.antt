use Rattle.std.proofs.Common.{◌≡◌, ◌∙◌, true, sym, ap}
use Rattle.txn_phases.specs.Phases.{hears}
use Rattle.front_core.specs.Planned.{is_over}
use Rattle.front_core.proofs.Settled.{over_is_idle}
use Rattle.front_core.proofs.going.hear.Goals as goal

pub returns-in-Err-clause-owed : goal.returns-in-Err-clause-owed
returns-in-Err-clause-owed c =
    let over : is_over (hears c.args.run.job c.args.answer).1 ≡ true = sym (ap (λ q. is_over q.1) c.in-Ok-hear.ensures.hears) ∙ c.in-Err.ensures.over in
    over_is_idle c.args.run.job c.args.answer over
