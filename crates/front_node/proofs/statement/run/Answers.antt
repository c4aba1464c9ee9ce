use Rattle.std.proofs.Common.{◌∙◌, ◌++◌, ap}
use Rattle.front_core.specs.Outputs.{sends, outputs_of}
use Rattle.front_node.proofs.Turning.{runs_from, max_is_most}
use Rattle.front_node.proofs.statement.run.Goals as goal

pub returns-clause-asked : goal.returns-clause-asked
returns-clause-asked g c =
    let r = runs_from g.B.Backs.asks c.args.session _ c.args.text _ _ _ _ (record { front = c.turns.new.front; requests = c.turns.new.requests.items; backs = c.turns.new.backs }) c.in_ok-reply.reply c.in_ok-told.told
    c.step-given.ensures.step max_is_most (c.in_ok-reply.ensures.sent ∙ ap (λ rs. rs ++ sends (outputs_of c.step-given.result)) c.new-requests.ensures.items) c.in_ok-reply.ensures.reply
    c.in_ok-told.ensures.asked in
    (r.0, c.or.ensures ∙ r.1, r.2)
