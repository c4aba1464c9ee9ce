use Rattle.std.proofs.Common.{◌≡◌, length, Some, take}
use Rattle.part_rules.specs.Rules.{hash_part}
use Rattle.part_rules.specs.Marking.{AreMarks}
use Rattle.part_rules.proofs.pruning.hash_marks.Given as goal

abbrev pub invariant-loop-interval : goal.invariant-loop-interval
invariant-loop-interval l = record {
  count : length l.marks.items ≡ l.parts;
  marks : AreMarks (λ key. Some (hash_part l.parts key)) (take l.interval-index l.keys) l.marks.items;
}
