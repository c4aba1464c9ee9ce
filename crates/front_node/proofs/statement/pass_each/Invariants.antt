use Rattle.std.proofs.Common.{◌≡◌, ◌++◌}
use Rattle.front_core.specs.Outputs.{sends}
use Rattle.front_node.specs.Asking.{reply_in}
use Rattle.front_node.proofs.statement.pass_each.Given as goal

-- what is passed on so far
abbrev pub invariant-loop-output : goal.invariant-loop-output
invariant-loop-output l = record {
  sent : l.requests.items ≡ l.fn.requests.items ++ sends l.yielded;
  reply : l.reply ≡ reply_in l.yielded;
}
