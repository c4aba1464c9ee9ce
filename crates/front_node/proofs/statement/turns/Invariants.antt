use Rattle.std.specs.Prelude.{IfSome}
use Rattle.my_messages.specs.Reply.{HasBytes}
use Rattle.front_node.proofs.Turning.{Continues}
use Rattle.front_node.proofs.statement.turns.Given as goal

-- however the turns go on
abbrev pub invariant-loop : goal.invariant-loop
invariant-loop g l = record {
  goes_on :
      Continues g.B.Backs.asks l.session l.most (record { front = l.fn.front; requests = l.fn.requests.items; backs = l.fn.backs }) l.counter
      (record { front = l.front; requests = l.requests.items; backs = l.backs }) l.reply;
  bytes : IfSome l.reply HasBytes;
}
