use Rattle.std.proofs.Common.{◌≡◌, ◌≤◌, length, take}
use Rattle.txn_phases.specs.Phases.{begun_of}
use Rattle.txn_phases.proofs.owed.count_begun.Given as goal

abbrev pub invariant-loop-branch : goal.invariant-loop-branch
invariant-loop-branch l = record {
  counted : l.count ≡ length (begun_of (take l.branch-index l.branches));
  within : l.count ≤ l.branch-index;
}
