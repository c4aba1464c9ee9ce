use Rattle.std.proofs.Common.{arith, refl}
use Rattle.std.proofs.lemmas.Int.{ints}
use Rattle.sql_values.proofs.Gaps.{Gaps-more, AreGaps-at_top, AreGaps-at_end, AreGaps}
use Rattle.sql_values.proofs.merging.gaps.Goals as goal

pub loop-interval-preserved : goal.loop-interval-preserved
loop-interval-preserved c = record {
  found = Gaps-more c.args.intervals.now c.loop-interval.list.items _ c.loop-interval.rest.low _ c.loop-interval.interval-index _ c.loop-interval.invariant.found c.loop-interval-test.true refl c.push_gap.ensures.fits c.in_ok-push_gap.ensures.gap (omega (arith, ints));
  filled = omega (arith, ints);
  high = c.loop-interval.invariant.high;
}

at_top : (c : goal.Then-interval-eq9223372036854775807) → AreGaps c.args.intervals.now c.push_gap.new.list.items
at_top c = AreGaps-at_top c.args.intervals.now c.loop-interval.list.items _ c.loop-interval.rest.low c.loop-interval.interval-index _ c.loop-interval.invariant.found c.loop-interval-test.true refl c.push_gap.ensures.fits c.in_ok-push_gap.ensures.gap (omega (arith, ints))

pub returns-then-interval-eq9223372036854775807-clause-normal :
    goal.returns-then-interval-eq9223372036854775807-clause-normal
returns-then-interval-eq9223372036854775807-clause-normal c = (at_top c).normal

pub returns-then-interval-eq9223372036854775807-clause-keys :
    goal.returns-then-interval-eq9223372036854775807-clause-keys
returns-then-interval-eq9223372036854775807-clause-keys c = (at_top c).keys

at_end : (c : goal.In_ok-push) → AreGaps c.args.intervals.now c.push.new.self.items
at_end c = AreGaps-at_end c.args.intervals.now c.loop-interval.list.items _ c.loop-interval.rest c.loop-interval.interval-index c.loop-interval.invariant.found (omega arith) c.loop-interval.invariant.filled c.loop-interval.invariant.high c.in_ok-push.ensures.items

pub returns-clause-normal : goal.returns-clause-normal
returns-clause-normal c = (at_end c).normal

pub returns-clause-keys : goal.returns-clause-keys
returns-clause-keys c = (at_end c).keys
