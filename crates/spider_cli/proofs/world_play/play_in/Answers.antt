use Rattle.std.proofs.Common.{◌≡◌, [], take, subst, arith}
use Rattle.spider_cli.proofs.Streaming.{begin, read_fault, go_on, ended, done, tells_fed, tells_end, fed_from, end_from, at_ok}
use Rattle.spider_cli.proofs.world_play.play_in.Goals as goal

pub loop-count-init : goal.loop-count-init
loop-count-init g c = record {
  going = begin g.S.Source.gives g.S.Source.has_ended g.K.Sink.takes g.K.Sink.faults g.met.S.Source.gives_nothing g.met.S.Source.gives_on g.met.K.Sink.takes_nothing g.met.K.Sink.takes_on
      c.args.world.front.catalog c.args.schedule.now c.args.out.now c.new-player.result c.new-player.ensures.fresh;
  ready = c.new-player.ensures.ready;
  empty = c.new-text.ensures.items;
  room = c.requires.room;
  later_in = omega arith;
  later_out = omega arith;
}

pub returns-in-Err-clause-plays : goal.returns-in-Err-clause-plays
returns-in-Err-clause-plays g c =
    read_fault g.S.Source.gives g.S.Source.has_ended g.K.Sink.takes g.K.Sink.faults g.met.S.Source.gives_nothing g.met.S.Source.gives_on g.met.K.Sink.takes_nothing g.met.K.Sink.takes_on
    c.args.world.front.catalog c.args.schedule.now c.args.out.now c.loop-count.schedule c.read.new.self c.loop-count.out c.loop-count.player c.loop-count.invariant.going c.in-Err.ensures.none

pub returns-in-Err-show-clause-plays : goal.returns-in-Err-show-clause-plays
returns-in-Err-show-clause-plays g c =
    let piece = take c.in-Ok.count c.read.new.into in
    ended g.S.Source.gives g.S.Source.has_ended g.K.Sink.takes g.K.Sink.faults g.met.S.Source.gives_nothing g.met.S.Source.gives_on g.met.K.Sink.takes_nothing g.met.K.Sink.takes_on
    c.args.world.front.catalog c.args.schedule.now c.args.out.now c.loop-count.schedule c.read.new.self c.loop-count.out c.show.new.out c.loop-count.player piece c.feed-fed.new.text.items c.show.new.text.items c.feed-fed.result c.in-Err-show.end
    c.loop-count.invariant.going c.in-Ok.ensures.given
    (tells_fed c.loop-count.player c.feed-fed.new.self piece c.loop-count.text.items c.feed-fed.new.text.items c.feed-fed.result c.loop-count.invariant.empty c.feed-fed.ensures.told c.feed-fed.ensures.refused)
    c.in-Err-show.ensures.shown

pub loop-count-preserved : goal.loop-count-preserved
loop-count-preserved g c =
    let piece = take c.in-Ok.count c.read.new.into in
    let shown = c.in-Ok-show.ensures.shown in
    record {
      going =
          go_on g.S.Source.gives g.S.Source.has_ended g.K.Sink.takes g.K.Sink.faults g.met.S.Source.gives_nothing g.met.S.Source.gives_on g.met.K.Sink.takes_nothing g.met.K.Sink.takes_on
          c.args.world.front.catalog c.args.schedule.now c.args.out.now c.loop-count.schedule c.read.new.self c.loop-count.out c.show.new.out c.loop-count.player c.feed-fed.new.self piece c.feed-fed.new.text.items
          c.loop-count.invariant.going c.in-Ok.ensures.given
          (at_ok c.feed-fed.result tt shown.0
          (fed_from c.loop-count.player c.feed-fed.new.self piece c.loop-count.text.items c.feed-fed.new.text.items c.feed-fed.result c.loop-count.invariant.empty c.feed-fed.ensures.told))
          shown.1;
      ready = at_ok c.feed-fed.result tt shown.0 c.feed-fed.ensures.ready;
      empty = shown.2;
      room = (let a = c.loop-count.invariant.room in let b = c.read.auto.into in omega arith);
      later_in = (let a = c.loop-count.invariant.later_in in let b = c.read.ensures.later in omega arith);
      later_out = (let a = c.loop-count.invariant.later_out in let b = c.show.ensures.later in omega arith);
    }

pub returns-in-Ok-show-2-clause-plays : goal.returns-in-Ok-show-2-clause-plays
returns-in-Ok-show-2-clause-plays g c =
    let shown = c.in-Ok-show-2.ensures.shown in
    let none : c.in-Ok.count ≡ 0 = c.if-count-eq0.true in
    done g.S.Source.gives g.S.Source.has_ended g.K.Sink.takes g.K.Sink.faults g.met.S.Source.gives_nothing g.met.S.Source.gives_on g.met.K.Sink.takes_nothing g.met.K.Sink.takes_on
    c.args.world.front.catalog c.args.schedule.now c.args.out.now c.loop-count.schedule c.read.new.self c.loop-count.out c.show-2.new.out c.loop-count.player c.finish-fed.new.text.items
    c.loop-count.invariant.going
    (subst (λ n. g.S.Source.gives c.loop-count.schedule (take n c.read.new.into) c.read.new.self) none c.in-Ok.ensures.given)
    (c.in-Ok.ensures.end none c.loop-count.invariant.room)
    (at_ok c.finish-fed.result tt shown.0 (end_from c.loop-count.player c.loop-count.text.items c.finish-fed.new.text.items c.finish-fed.result c.loop-count.invariant.empty c.finish-fed.ensures.told))
    shown.1

pub returns-clause-plays : goal.returns-clause-plays
returns-clause-plays g c =
    let none : c.in-Ok.count ≡ 0 = c.if-count-eq0.true in
    ended g.S.Source.gives g.S.Source.has_ended g.K.Sink.takes g.K.Sink.faults g.met.S.Source.gives_nothing g.met.S.Source.gives_on g.met.K.Sink.takes_nothing g.met.K.Sink.takes_on
    c.args.world.front.catalog c.args.schedule.now c.args.out.now c.loop-count.schedule c.read.new.self c.loop-count.out c.show-2.new.out c.loop-count.player [] c.finish-fed.new.text.items c.show-2.new.text.items c.finish-fed.result c.in-Err-show-2.end
    c.loop-count.invariant.going
    (subst (λ n. g.S.Source.gives c.loop-count.schedule (take n c.read.new.into) c.read.new.self) none c.in-Ok.ensures.given)
    (tells_end c.loop-count.player c.loop-count.text.items c.finish-fed.new.text.items c.finish-fed.result c.loop-count.invariant.empty c.finish-fed.ensures.told c.finish-fed.ensures.refused)
    c.in-Err-show-2.ensures.shown
