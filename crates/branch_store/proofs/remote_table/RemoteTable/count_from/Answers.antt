use Rattle.branch_store.specs.Changes.{has_key_from}
use Rattle.branch_store.proofs.Turns.{counted}
use Rattle.branch_store.proofs.remote_table.RemoteTable.count_from.Goals as goal

pub overflow_sub-result : goal.overflow_sub-result
overflow_sub-result c =
    (counted (λ def. has_key_from def c.args.low.now c.args.high.now) c.args.changes.now c.args.self.now c.in_ok-seen.seen c.clear.new.self c.len-before.result c.len.result c.in_ok-seen.ensures c.clear.ensures c.len-before.ensures c.len.ensures).0

pub returns : goal.returns
returns c =
    (counted (λ def. has_key_from def c.args.low.now c.args.high.now) c.args.changes.now c.args.self.now c.in_ok-seen.seen c.clear.new.self c.len-before.result c.len.result c.in_ok-seen.ensures c.clear.ensures c.len-before.ensures c.len.ensures).1
