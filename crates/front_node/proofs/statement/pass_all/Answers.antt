use Rattle.std.proofs.Common.{sym, subst}
use Rattle.std.specs.Prelude.{IfSome}
use Rattle.my_messages.specs.Reply.{HasBytes}
use Rattle.front_core.specs.Outputs.{outputs_of}
use Rattle.front_node.proofs.RepliesIn.{reply_has_bytes}
use Rattle.front_node.proofs.statement.pass_all.Goals as goal

pub returns-clause-bytes : goal.returns-clause-bytes
returns-clause-bytes c = subst (λ o. IfSome o HasBytes) (sym c.in_ok-reply.ensures.reply) (reply_has_bytes (outputs_of c.args.given) c.requires)
