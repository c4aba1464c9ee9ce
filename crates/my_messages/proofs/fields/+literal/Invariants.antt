use Rattle.std.proofs.Common.{length}
use Rattle.my_messages.proofs.fields.+literal.Given as goal

abbrev pub decreases-literal : goal.decreases-literal
decreases-literal l = length l.expected.now
