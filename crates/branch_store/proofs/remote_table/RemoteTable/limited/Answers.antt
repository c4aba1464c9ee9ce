use Rattle.std.proofs.Common.{take, ap, ◌∙◌}
use Rattle.std.proofs.lemmas.Result.{IfOk-weaker}
use Rattle.plain_tables.specs.Rows.{holds_on, kept}
use Rattle.branch_store.proofs.Turns.{all_taken}
use Rattle.branch_store.proofs.remote_table.RemoteTable.limited.Goals as goal

pub returns-in-None : goal.returns-in-None
returns-in-None c =
    let self = c.args.self.now in
    rw c.in-None.is (IfOk-weaker c.first-in-None.result _ _ (λ rows is. is ∙ (ap (λ k. take k (kept self.def c.args.cond.now self.rows)) c.len.ensures ∙ all_taken (holds_on self.def c.args.cond.now) self.rows)) c.first-in-None.ensures)
