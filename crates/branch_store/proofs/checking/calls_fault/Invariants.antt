use Rattle.std.proofs.Common.{◌≡◌, drop}
use Rattle.branch_store.specs.Faults.{calls_fault}
use Rattle.branch_store.proofs.checking.calls_fault.Given as goal

abbrev pub invariant-loop-call : goal.invariant-loop-call
invariant-loop-call l = calls_fault l.def (drop l.call-index l.calls) ≡ calls_fault l.def l.calls
