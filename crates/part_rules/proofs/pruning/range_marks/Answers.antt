use Rattle.std.proofs.Common.{◌≡◌, sym, List, Bool, subst}
use Rattle.part_rules.specs.Rules.{range_part}
use Rattle.part_rules.specs.Marking.{AreMarks, range_marks}
use Rattle.part_rules.proofs.RangeMarks.{AreMarks-range, all_read, length-range_marks}
use Rattle.part_rules.proofs.pruning.range_marks.Goals as goal

pub returns-clause-marks : goal.returns-clause-marks
returns-clause-marks c =
    let same : c.loop-bound.marks.items ≡ range_marks c.args.bounds.now c.args.keys.now = all_read c.loop-bound.marks.items _ c.as_slice-bound-items.result.now c.loop-bound.bound-index c.loop-bound.rest.now c.loop-bound-test.false c.loop-bound.invariant.marks in
    subst (λ (marks : List Bool). AreMarks (range_part c.args.bounds.now) c.args.keys.now marks) (sym same) (AreMarks-range c.args.bounds.now c.args.keys.now c.as_slice-bound-items.ensures.rising c.requires)

pub returns-clause-count : goal.returns-clause-count
returns-clause-count c =
    let same : c.loop-bound.marks.items ≡ range_marks c.args.bounds.now c.args.keys.now = all_read c.loop-bound.marks.items _ c.as_slice-bound-items.result.now c.loop-bound.bound-index c.loop-bound.rest.now c.loop-bound-test.false c.loop-bound.invariant.marks in
    rw same (length-range_marks c.args.bounds.now c.args.keys.now)
