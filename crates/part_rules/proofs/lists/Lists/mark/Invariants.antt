use Rattle.part_rules.proofs.ListMarks.{Listed}
use Rattle.part_rules.proofs.lists.Lists.mark.Given as goal

abbrev pub invariant-loop-part : goal.invariant-loop-part
invariant-loop-part l = Listed l.interval l.initial.part-iterator l.part-iterator l.initial.marks l.marks
