use Rattle.std.proofs.Common.{◌≡◌, ◌++◌, drop}
use Rattle.part_rules.specs.Marking.{marked_from}
use Rattle.part_rules.proofs.pruning.marked.Given as goal

abbrev pub invariant-loop-part : goal.invariant-loop-part
invariant-loop-part l = l.parts ++ marked_from l.part (drop l.part l.marks) ≡ marked_from 0 l.marks
