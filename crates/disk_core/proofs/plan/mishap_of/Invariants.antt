use Rattle.std.proofs.Common.{◌≡◌, drop}
use Rattle.disk_core.specs.Trial.{graver, mishap_of}
use Rattle.disk_core.proofs.plan.mishap_of.Given as goal

abbrev pub invariant-loop-entry : goal.invariant-loop-entry
invariant-loop-entry l = graver l.found (mishap_of (drop l.entry-index l.pending)) ≡ mishap_of l.pending
