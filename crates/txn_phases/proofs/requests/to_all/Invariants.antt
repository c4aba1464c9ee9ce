use Rattle.std.proofs.Common.{◌≡◌, take}
use Rattle.txn_phases.specs.Phases.{to_branches}
use Rattle.txn_phases.proofs.requests.to_all.Given as goal

abbrev pub invariant-loop-branch : goal.invariant-loop-branch
invariant-loop-branch l = l.asks ≡ to_branches l.word (take l.branch-index l.branches)
