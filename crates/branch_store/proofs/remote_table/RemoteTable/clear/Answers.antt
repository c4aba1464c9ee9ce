use Rattle.branch_store.specs.Changes.{has_key_from, without}
use Rattle.branch_store.proofs.Keyed.{clear_keeps, cleared, seen_as}
use Rattle.branch_store.proofs.remote_table.RemoteTable.clear.Goals as goal

pub invariant_of-self : goal.invariant_of-self
invariant_of-self c =
    (c.self.invariant.0, clear_keeps c.self.inside.def c.args.low.now c.args.high.now c.self.inside.rows.entries c.cleared.new.rows.entries c.cleared.ensures.left c.self.invariant.1 c.cleared.ensures.ordered)

pub returns : goal.returns
returns c =
    seen_as (λ def. without (has_key_from def c.args.low.now c.args.high.now)) c.self.inside.def c.args.self.now c.self.inside.rows.entries c.cleared.new.rows.entries c.self.view_is
    (rw c.cleared.ensures.left (cleared c.self.inside.def c.args.low.now c.args.high.now c.self.inside.rows.entries c.self.invariant.1.keyed))
