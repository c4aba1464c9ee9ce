use Rattle.std.proofs.Common.{◌≡◌, take}
use Rattle.txn_phases.specs.Phases.{begun_of, to_branches}
use Rattle.txn_phases.proofs.requests.to_begun.Given as goal

abbrev pub invariant-loop-branch : goal.invariant-loop-branch
invariant-loop-branch l = l.asks ≡ to_branches l.word (begun_of (take l.branch-index l.branches))
