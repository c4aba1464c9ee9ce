use Rattle.std.proofs.Common.{◌≡◌, length, take}
use Rattle.part_rules.specs.Rules.{list_part}
use Rattle.part_rules.specs.Marking.{AreMarks}
use Rattle.part_rules.proofs.pruning.list_marks.Given as goal

abbrev pub invariant-loop-interval : goal.invariant-loop-interval
invariant-loop-interval l = record {
  count : length l.marks.items ≡ length l.lists;
  marks : AreMarks (list_part l.lists) (take l.interval-index l.keys) l.marks.items;
}
