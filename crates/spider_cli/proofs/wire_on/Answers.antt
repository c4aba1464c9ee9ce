use Rattle.std.proofs.Common.{refl}
use Rattle.spider_cli.specs.Top.{Wire}
use Rattle.spider_cli.proofs.Carried.{runs_on, turned_down}
use Rattle.spider_cli.proofs.wire_on.Goals as goal

pub returns-in-Ok : goal.returns-in-Ok
returns-in-Ok g c path =
    runs_on g.I.Source.gives g.I.Source.has_ended g.I.Source.faults g.O.Sink.takes g.O.Sink.faults c.args.input.now c.wire_catalog.new.input c.args.out.now c.wire_catalog.new.out c.args.conf.now
    c.in-Ok.catalog (Wire path) c.wire_catalog.result c.in-Ok.ensures.ok (c.wire_catalog.ensures path)

pub returns-in-Err : goal.returns-in-Err
returns-in-Err g c path =
    turned_down g.I.Source.gives g.I.Source.has_ended g.I.Source.faults g.O.Sink.takes g.O.Sink.faults c.args.input.now c.args.input.now c.args.out.now c.args.out.now c.args.conf.now
    (Wire path) c.refused.result (c.refused.ensures c.args.conf.now c.in-Err.ensures.err) refl refl
