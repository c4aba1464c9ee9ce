use Rattle.std.proofs.Common.{◌≡◌, ◌-◌}
use Rattle.catalog.specs.Comment.{pairs_at}
use Rattle.catalog.proofs.comment.pairs.Given as goal

abbrev pub invariant-loop : goal.invariant-loop
invariant-loop l = pairs_at (l.count - l.counter) l.comment l.bytes ≡ pairs_at l.count l.initial.comment l.initial.bytes
