use Rattle.std.proofs.Common.{◌≡◌, true, Some, subst}
use Rattle.std.proofs.lemmas.Bool.{and_parts}
use Rattle.txn_phases.specs.Phases.{awaited, awaits}
use Rattle.front_core.specs.Core.{is_server, takes}
use Rattle.front_core.proofs.work.receive.Goals as goal

pub hear-requires : goal.hear-requires
hear-requires c =
    let job = c.in-Runs.run'.job in
    (and_parts (is_server (awaited job) c.args.server) (awaits job c.args.answer) (subst (λ w. takes (Some w) c.args.server c.args.answer ≡ true) c.in-Runs.is c.requires)).1
