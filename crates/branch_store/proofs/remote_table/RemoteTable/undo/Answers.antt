use Rattle.branch_store.proofs.Undoing.{popped}
use Rattle.branch_store.proofs.remote_table.RemoteTable.undo.Goals as goal

pub loop-before-preserved : goal.loop-before-preserved
loop-before-preserved c =
    let step = popped c.args.self.now c.loop-before.self c.restore.new.self c.in-Some.before c.loop-before.log.items c.pop.new.self.items c.args.log.items c.restore.ensures c.in-Some.ensures.items c.loop-before.invariant.same c.loop-before.invariant.so_far in
    record { same = step.0; so_far = step.1 }
