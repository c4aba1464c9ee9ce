use Rattle.std.proofs.Common.{pos, ◌+ℤ◌, ◌∙◌, arith}
use Rattle.std.proofs.lemmas.Int.{ints}
use Rattle.sql_values.proofs.KeyLists.{Ascends-step, Ascends-earlier, RisesTo-push, RisesTo-later, IsNormal-of, joined-united, joined-apart, no_interval}
use Rattle.sql_values.proofs.merging.joined_from.Goals as goal

pub loop-next-preserved-in-Some : goal.loop-next-preserved-in-Some
loop-next-preserved-in-Some c =
    let step = Ascends-step c.loop-next.current.low c.args.others.now c.loop-next.next-index no_interval c.loop-next-test.true c.loop-next.invariant.ascends in
    record {
      rises = rw c.in-Some.ensures.one.0 c.loop-next.invariant.rises;
      filled = c.in-Some.ensures.one.1;
      ascends = rw c.in-Some.ensures.one.0 (Ascends-earlier _ _ _ step.2 step.0);
      keys = λ key. joined-united c.loop-next.list.items c.loop-next.current c.in-Some.both no_interval c.args.others.now c.loop-next.next-index key c.loop-next-test.true (c.in-Some.ensures.keys key) ∙ c.loop-next.invariant.keys key;
    }

pub loop-next-preserved : goal.loop-next-preserved
loop-next-preserved c =
    let step = Ascends-step c.loop-next.current.low c.args.others.now c.loop-next.next-index no_interval c.loop-next-test.true c.loop-next.invariant.ascends in
    let pushed = RisesTo-push c.args.first.now.low c.loop-next.list.items c.loop-next.current.low c.loop-next.current c.loop-next.invariant.rises (omega (arith, ints)) c.loop-next.invariant.filled in
    record {
      rises = rw c.in_ok-push.ensures.items (RisesTo-later c.args.first.now.low _ (c.loop-next.current.high +ℤ pos 2) _ pushed c.in_default.ensures.apart);
      filled = step.1;
      ascends = step.2;
      keys = λ key. joined-apart c.loop-next.list.items c.push.new.self.items c.loop-next.current no_interval c.args.others.now c.loop-next.next-index key c.loop-next-test.true c.in_ok-push.ensures.items ∙ c.loop-next.invariant.keys key;
    }

pub returns-clause-normal : goal.returns-clause-normal
returns-clause-normal c = rw c.in_ok-push-2.ensures.items (IsNormal-of c.args.first.now.low _ (c.loop-next.current.high +ℤ pos 2) (RisesTo-push c.args.first.now.low c.loop-next.list.items c.loop-next.current.low c.loop-next.current c.loop-next.invariant.rises (omega (arith, ints)) c.loop-next.invariant.filled))
