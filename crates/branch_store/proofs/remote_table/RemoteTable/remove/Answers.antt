use Rattle.std.proofs.Common.{[], ◌∷◌}
use Rattle.branch_store.specs.Changes.{has_key_in, without}
use Rattle.branch_store.proofs.Keyed.{remove_keeps, removed, seen_as}
use Rattle.branch_store.proofs.remote_table.RemoteTable.remove.Goals as goal

pub invariant_of-self : goal.invariant_of-self
invariant_of-self c = (c.self.invariant.0, remove_keeps c.self.inside.def c.args.key.now c.self.inside.rows.entries c.remove-gone.new.self.entries c.remove-gone.ensures.entries c.self.invariant.1 c.remove-gone.ensures.ordered)

pub returns : goal.returns
returns c =
    let k = c.args.key.now in
    seen_as (λ def. without (has_key_in def (k ∷ []))) c.self.inside.def c.args.self.now c.self.inside.rows.entries c.remove-gone.new.self.entries c.self.view_is
    (rw c.remove-gone.ensures.entries (removed c.self.inside.def k c.self.inside.rows.entries c.self.invariant.1))
