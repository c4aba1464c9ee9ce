use Rattle.std.proofs.Common.{arith, ap, length}
use Rattle.std.proofs.lemmas.List.{drop_all}
use Rattle.branch_store.proofs.Found.{next_interval, no_interval}
use Rattle.branch_store.proofs.remote_table.RemoteTable.first_among.Goals as goal

pub loop-interval-preserved : goal.loop-interval-preserved
loop-interval-preserved c =
    let step = next_interval c.args.self.now.def c.args.cond.now c.args.most c.args.keys.now c.as_slice-interval-items.result.now c.loop-interval.interval-index _ c.args.self.now.rows c.loop-interval.rows c.add_first.new.rows _ c.as_slice-interval-items.ensures.all (omega arith)
    c.loop-interval.invariant.normal c.requires c.loop-interval.invariant.few c.in_ok-add_first.ensures c.loop-interval.invariant.so_far in
    record { few = step.0; normal = step.1; so_far = step.2 }

pub returns : goal.returns
returns c =
    no_interval c.args.self.now.def c.args.cond.now _ _ c.args.self.now.rows c.loop-interval.rows _ (drop_all c.loop-interval.interval-index c.args.keys.now (omega (arith, ap length c.as_slice-interval-items.ensures.all))) c.loop-interval.invariant.so_far
