use Rattle.std.proofs.Common.{ap, ◌∙◌}
use Rattle.branch_store.specs.Tables.{Table}
use Rattle.branch_store.proofs.Found.{part_made}
use Rattle.branch_store.proofs.remote_table.RemoteTable.part.Goals as goal

pub returns : goal.returns
returns c =
    part_made c.args.self.now c.args.keys.now c.in_ok-copied_def.field-0 c.in_ok-part.part c.put_all.new.self c.in_ok-rows.rows c.requires (c.in_ok-copied_def.ensures ∙ ap (λ (t : Table). t.def) c.self.view_is) c.in_ok-part.ensures c.in_ok-put_all.ensures.ok c.in_ok-rows.ensures
