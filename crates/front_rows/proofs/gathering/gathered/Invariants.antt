use Rattle.std.proofs.Common.{◌≡◌}
use Rattle.front_rows.specs.Gathering.{all_rows}
use Rattle.front_rows.proofs.gathering.gathered.Given as goal

abbrev pub invariant-loop-answer : goal.invariant-loop-answer
invariant-loop-answer l = l.rows.items ≡ all_rows l.yielded
