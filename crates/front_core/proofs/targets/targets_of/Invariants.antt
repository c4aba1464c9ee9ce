use Rattle.std.proofs.Common.{◌≡◌, take}
use Rattle.front_core.specs.Jobs.{targets_of}
use Rattle.front_core.proofs.targets.targets_of.Given as goal

abbrev pub invariant-loop-part : goal.invariant-loop-part
invariant-loop-part l = l.targets ≡ targets_of l.mode l.parts (take l.part-index l.asked)
