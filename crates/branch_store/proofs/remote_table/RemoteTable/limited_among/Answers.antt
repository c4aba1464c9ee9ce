use Rattle.std.proofs.Common.{take, ap, ◌∙◌}
use Rattle.std.specs.List.{filter}
use Rattle.std.proofs.lemmas.Result.{IfOk-weaker}
use Rattle.plain_tables.specs.Rows.{holds_on, kept}
use Rattle.branch_store.specs.Scanning.{lies_among}
use Rattle.branch_store.proofs.Found.{all_taken_twice}
use Rattle.branch_store.proofs.remote_table.RemoteTable.limited_among.Goals as goal

pub returns-in-None : goal.returns-in-None
returns-in-None c =
    let self = c.args.self.now in
    let p = lies_among self.def c.args.keys.now in
    rw c.in-None.is (IfOk-weaker c.first_among-in-None.result _ _ (λ rows is. is ∙ (ap (λ k. take k (kept self.def c.args.cond.now (filter p self.rows))) c.len.ensures ∙ all_taken_twice p (holds_on self.def c.args.cond.now) self.rows)) c.first_among-in-None.ensures)
