use Rattle.std.proofs.Common.{sym, ap, ◌∙◌}
use Rattle.branch_store.proofs.Undoing.{not_there}
use Rattle.branch_store.proofs.remote_table.writing.write_over.Goals as goal

pub returns-in_default-clause-written : goal.returns-in_default-clause-written
returns-in_default-clause-written c =
    let none = sym (rw c.in_default.is at c.get_mut.ensures.value) in
    ap (λ m. m.entries) c.get_mut.follows.holds-at-none ∙ sym (not_there c.args.key.now c.args.row c.args.rows.now.entries none)
