use Rattle.std.proofs.Common.{◌≡◌, length, rules}
use Rattle.sql_values.proofs.KeyLists.{filled_at, no_interval}
use Rattle.part_rules.proofs.Marks.{Stepped-more, Stepped-count}
use Rattle.part_rules.proofs.pruning.list_marks.Goals as goal

pub mark-requires-clause-filled : goal.mark-requires-clause-filled
mark-requires-clause-filled c = filled_at c.args.keys.now c.loop-interval.interval-index no_interval c.requires c.loop-interval-test.true

pub loop-interval-preserved : goal.loop-interval-preserved
loop-interval-preserved c =
    let len : c.loop-interval.marks.len ≡ length c.loop-interval.marks.items = search rules in
    let same : length c.mark.new.marks ≡ length c.loop-interval.marks.items = search rules in
    record {
      count = Stepped-count c.loop-interval.marks.len _ c.loop-interval.marks.items c.mark.new.marks len same c.loop-interval.invariant.count;
      marks = Stepped-more _ c.args.keys.now c.loop-interval.interval-index c.loop-interval.marks.len no_interval c.loop-interval.marks.items _ c.mark.new.marks c.loop-interval-test.true c.loop-interval.invariant.marks c.deref_mut.ensures.value c.mark.ensures len same;
    }
