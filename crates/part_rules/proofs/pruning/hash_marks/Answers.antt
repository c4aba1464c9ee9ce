use Rattle.std.proofs.Common.{◌≡◌, ◌*◌, ◌-◌, ◌-ℤ◌, ◌≤ℤ◌, get_or, w64, SFits, length, rules, arith}
use Rattle.std.specs.Prelude.{unsigned_abs}
use Rattle.std.proofs.lemmas.Int.{to_z-of_z}
use Rattle.sql_values.proofs.KeyLists.{filled_at, no_interval}
use Rattle.part_rules.proofs.Marks.{Stepped-more, Stepped-count, AreMarks-whole}
use Rattle.part_rules.proofs.HashMarks.{AreMarks-full, is_long}
use Rattle.part_rules.proofs.pruning.hash_marks.Goals as goal

pub returns-then-abs_diff-from-clause-marks : goal.returns-then-abs_diff-from-clause-marks
returns-then-abs_diff-from-clause-marks c =
    let interval = get_or c.args.keys.now c.loop-interval.interval-index no_interval in
    let low : SFits w64 interval.low = search rules in
    let high : SFits w64 interval.high = search rules in
    let far : c.abs_diff.result ≡ unsigned_abs (interval.high -ℤ interval.low) = rw (to_z-of_z w64 interval.low low, to_z-of_z w64 interval.high high) at c.abs_diff.ensures in
    let filled : interval.low ≤ℤ interval.high = filled_at c.args.keys.now c.loop-interval.interval-index no_interval c.requires.normal c.loop-interval-test.true in
    AreMarks-full c.args.parts c.args.keys.now c.loop-interval.interval-index no_interval _ c.requires.parts c.loop-interval-test.true
    (is_long interval.low interval.high (2 * (c.args.parts - 1)) filled (omega (arith, far, c.from.ensures, c.if-abs_diff-from.true)))
    (c.in_ok-all.ensures.items_if_clones_equal (λ y k. k))

pub mark_hashes-requires-clause-filled : goal.mark_hashes-requires-clause-filled
mark_hashes-requires-clause-filled c = filled_at c.args.keys.now c.loop-interval.interval-index no_interval c.requires.normal c.loop-interval-test.true

pub loop-interval-preserved : goal.loop-interval-preserved
loop-interval-preserved c =
    let len : c.loop-interval.marks.len ≡ length c.loop-interval.marks.items = search rules in
    let same : length c.mark_hashes.new.marks ≡ length c.loop-interval.marks.items = search rules in
    record {
      count = Stepped-count c.loop-interval.marks.len _ c.loop-interval.marks.items c.mark_hashes.new.marks len same c.loop-interval.invariant.count;
      marks = Stepped-more _ c.args.keys.now c.loop-interval.interval-index c.loop-interval.marks.len no_interval c.loop-interval.marks.items _ c.mark_hashes.new.marks c.loop-interval-test.true c.loop-interval.invariant.marks c.deref_mut.ensures.value c.mark_hashes.ensures len same;
    }

pub returns-clause-marks : goal.returns-clause-marks
returns-clause-marks c = AreMarks-whole _ c.args.keys.now c.loop-interval.interval-index c.loop-interval.marks.items c.loop-interval-test.false c.loop-interval.invariant.marks
