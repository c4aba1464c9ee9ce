use Rattle.branch_store.specs.Changes.{has_key_in}
use Rattle.branch_store.proofs.Turns.{counted}
use Rattle.branch_store.proofs.remote_table.RemoteTable.count_in.Goals as goal

pub overflow_sub-result : goal.overflow_sub-result
overflow_sub-result c =
    (counted (λ def. has_key_in def c.args.keys.now) c.args.changes.now c.args.self.now c.in_ok-seen.seen c.remove_keys.new.self c.len-before.result c.len.result c.in_ok-seen.ensures c.remove_keys.ensures c.len-before.ensures c.len.ensures).0

pub returns : goal.returns
returns c =
    (counted (λ def. has_key_in def c.args.keys.now) c.args.changes.now c.args.self.now c.in_ok-seen.seen c.remove_keys.new.self c.len-before.result c.len.result c.in_ok-seen.ensures c.remove_keys.ensures c.len-before.ensures c.len.ensures).1
