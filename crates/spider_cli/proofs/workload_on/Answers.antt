use Rattle.std.proofs.Common.{refl}
use Rattle.spider_cli.proofs.Carried.{unworked}
use Rattle.spider_cli.proofs.workload_on.Goals as goal

pub returns-in-Err : goal.returns-in-Err
returns-in-Err g c =
    unworked g.O.Sink.takes g.O.Sink.faults c.args.out.now c.args.out.now c.args.conf.now c.args.seed c.args.count c.refused.result (c.refused.ensures c.args.conf.now c.in-Err.ensures.err) refl
