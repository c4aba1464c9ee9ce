use Rattle.std.proofs.Common.{◌++◌, [], ◌∷◌, ◌∙◌, sym, ap, append_assoc}
use Rattle.std.specs.Option.{option_or}
use Rattle.front_core.specs.Outputs.{sends}
use Rattle.front_node.proofs.Sends.{sends-append}
use Rattle.front_node.specs.Asking.{reply_in}
use Rattle.front_node.proofs.RepliesIn.{reply_in-append}
use Rattle.front_node.proofs.statement.pass_each.Goals as goal

pub loop-output-preserved : goal.loop-output-preserved
loop-output-preserved c = record {
  sent =
      c.in_ok-told.ensures.sent ∙ ap (λ rs. rs ++ sends (c.in-Some.output ∷ [])) c.loop-output.invariant.sent
      ∙ append_assoc _ (sends c.loop-output.yielded) (sends (c.in-Some.output ∷ [])) ∙ ap (λ rs. c.args.requests.now.items ++ rs) (sym (sends-append c.loop-output.yielded (c.in-Some.output ∷ [])));
  reply =
      c.or-reply.ensures ∙ ap (λ o. option_or o c.loop-output.reply) c.in_ok-told.ensures.reply ∙ ap (λ o. option_or (reply_in (c.in-Some.output ∷ [])) o) c.loop-output.invariant.reply
      ∙ sym (reply_in-append c.loop-output.yielded (c.in-Some.output ∷ []));
}
