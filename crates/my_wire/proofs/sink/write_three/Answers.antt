use Rattle.std.proofs.Common.{◌++◌}
use Rattle.my_wire.proofs.Fronts.{front_left, front_right}
use Rattle.my_wire.proofs.sink.write_three.Goals as goal

pub returns-in_err-write_all-2-clause-front : goal.returns-in_err-write_all-2-clause-front
returns-in_err-write_all-2-clause-front g c =
    front_right g.K.Sink.takes g.met.K.Sink.takes_on _ _ _ c.args.first.now (c.args.second.now ++ c.args.third.now) c.in_ok-write_all.ensures.whole
    (front_left g.K.Sink.takes _ _ c.args.second.now c.args.third.now c.write_all-2.ensures.front)

pub returns-in_err-write_all-3-clause-front : goal.returns-in_err-write_all-3-clause-front
returns-in_err-write_all-3-clause-front g c =
    front_right g.K.Sink.takes g.met.K.Sink.takes_on _ _ _ c.args.first.now (c.args.second.now ++ c.args.third.now) c.in_ok-write_all.ensures.whole
    (front_right g.K.Sink.takes g.met.K.Sink.takes_on _ _ _ c.args.second.now c.args.third.now c.in_ok-write_all-2.ensures.whole c.write_all-3.ensures.front)

pub returns-clause-front : goal.returns-clause-front
returns-clause-front g c =
    front_right g.K.Sink.takes g.met.K.Sink.takes_on _ _ _ c.args.first.now (c.args.second.now ++ c.args.third.now) c.in_ok-write_all.ensures.whole
    (front_right g.K.Sink.takes g.met.K.Sink.takes_on _ _ _ c.args.second.now c.args.third.now c.in_ok-write_all-2.ensures.whole c.write_all-3.ensures.front)
