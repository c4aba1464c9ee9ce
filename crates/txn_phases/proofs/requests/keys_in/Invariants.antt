use Rattle.std.proofs.Common.{◌≡◌, take}
use Rattle.txn_phases.specs.Deeds.{keys_in}
use Rattle.txn_phases.proofs.requests.keys_in.Given as goal

abbrev pub invariant-loop-key : goal.invariant-loop-key
invariant-loop-key l = l.found ≡ keys_in (take l.key-index l.keys) l.part
