use Rattle.std.proofs.Common.{◌≡◌, rules, sym, subst}
use Rattle.front_core.specs.Core.{ended}
use Rattle.front_core.specs.Outputs.{AnswersHaveBytes}
use Rattle.front_core.proofs.Telling.{ended_bytes}
use Rattle.front_core.proofs.going.end.Goals as goal

pub returns-clause-bytes : goal.returns-clause-bytes
returns-clause-bytes c =
    let is : c.from_vec.result ≡ ended c.args.run.tx c.args.ending c.in_ok-reply.reply = search rules in
    subst AnswersHaveBytes (sym is) (ended_bytes c.args.run.tx c.args.ending c.in_ok-reply.reply c.in_ok-reply.ensures.bytes)
