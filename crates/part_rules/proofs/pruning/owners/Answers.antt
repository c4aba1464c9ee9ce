use Rattle.std.proofs.Common.{refl, ◌∙◌}
use Rattle.part_rules.proofs.MarkedParts.{AreMarks-by_whole}
use Rattle.part_rules.proofs.pruning.owners.Goals as goal

pub returns-in_ok-push-in-Whole-clause-marks : goal.returns-in_ok-push-in-Whole-clause-marks
returns-in_ok-push-in-Whole-clause-marks c =
    AreMarks-by_whole c.args.rule.now c.args.keys.now c.is_empty.result _ c.in-Whole.is c.as_slice-intervals.ensures.normal c.is_empty.ensures.0 c.is_empty.ensures.1
    (c.in_ok-push-in-Whole.ensures.items ∙ rw c.new-marks.ensures.items refl)

pub returns-in-Range-clause-marks : goal.returns-in-Range-clause-marks
returns-in-Range-clause-marks c = rw c.in-Range.is (rw c.as_slice-intervals.ensures.all at c.range_marks.ensures.marks)

pub returns-in-List-clause-marks : goal.returns-in-List-clause-marks
returns-in-List-clause-marks c = rw c.in-List.is (rw c.as_slice-intervals.ensures.all at c.list_marks.ensures.marks)

pub returns-in-Hash-clause-marks : goal.returns-in-Hash-clause-marks
returns-in-Hash-clause-marks c = rw c.in-Hash.is (rw c.as_slice-intervals.ensures.all at c.hash_marks.ensures.marks)
