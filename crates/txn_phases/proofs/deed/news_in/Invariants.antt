use Rattle.std.proofs.Common.{◌≡◌}
use Rattle.txn_phases.proofs.deed.news_in.Given as goal

abbrev pub invariant-loop-row : goal.invariant-loop-row
invariant-loop-row l = l.rows ≡ l.yielded
