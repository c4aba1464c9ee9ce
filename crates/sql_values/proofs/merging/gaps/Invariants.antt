use Rattle.std.proofs.Common.{◌≡◌, ◌≤ℤ◌}
use Rattle.sql_values.proofs.Gaps.{Gaps, greatest_key}
use Rattle.sql_values.proofs.merging.gaps.Given as goal

abbrev pub invariant-loop-interval : goal.invariant-loop-interval
invariant-loop-interval l = record {
  found : Gaps l.intervals l.list.items l.rest.low l.interval-index;
  filled : l.rest.low ≤ℤ l.rest.high;
  high : l.rest.high ≡ greatest_key;
}
