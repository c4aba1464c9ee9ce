use Rattle.std.proofs.Common.{arith, sym, ◌∙◌}
use Rattle.plain_tables.specs.Rows.{holds_on}
use Rattle.branch_store.proofs.Turns.{took}
use Rattle.branch_store.proofs.remote_table.RemoteTable.first.Goals as goal

pub loop-row-preserved-in_ok-push : goal.loop-row-preserved-in_ok-push
loop-row-preserved-in_ok-push c =
    let step = took (holds_on c.args.self.now.def c.args.cond.now) c.args.most c.loop-row.rows c.push.new.self c.next.new.self c.loop-row.row-iterator _ c.in-Some.row.now c.in_ok-copied_row.field-0 c.in_ok-push.ensures.ok c.in_ok-copied_row.ensures c.in-Some.ensures.steps
    (sym c.does_hold.ensures ∙ c.if-does_hold.true) (omega (arith, c.len.ensures, c.if-len-most.false)) c.loop-row.invariant.so_far in
    record { few = step.0; so_far = step.1 }
