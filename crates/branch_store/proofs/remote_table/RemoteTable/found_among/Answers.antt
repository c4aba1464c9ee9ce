use Rattle.std.proofs.Common.{List, ap, sym, ◌∙◌}
use Rattle.std.proofs.lemmas.Result.{IfOk-weaker}
use Rattle.plain_tables.specs.Rows.{Row, kept}
use Rattle.plain_tables.specs.Scans.{first_rows}
use Rattle.branch_store.proofs.Found.{found_among, part_changed}
use Rattle.branch_store.proofs.Turns.{not_changed}
use Rattle.branch_store.proofs.remote_table.RemoteTable.found_among.Goals as goal

pub returns-in_ok-change_all : goal.returns-in_ok-change_all
returns-in_ok-change_all c =
    let self = c.args.self.now in
    let cond = c.args.cond.now in
    IfOk-weaker c.limited.result _ _ (λ rows is. is ∙ part_changed self c.args.changes.now cond c.args.keys.now c.args.limit c.in_ok-part.part c.change_all.new.self c.requires.table c.requires.keys c.in_ok-part.ensures c.in_ok-change_all.ensures.ok) c.limited.ensures

pub returns-else-is_changed : goal.returns-else-is_changed
returns-else-is_changed c =
    let self = c.args.self.now in
    let cond = c.args.cond.now in
    let same = not_changed self.def c.args.changes.now self.rows (sym c.is_changed.ensures ∙ c.if-is_changed.false) in
    IfOk-weaker c.limited_among.result _ _ (λ rows is. is ∙ ap (λ (l : List Row). first_rows c.args.limit l) (found_among self c.args.changes.now cond c.args.keys.now c.requires.table c.requires.keys ∙ ap (λ (l : List Row). kept self.def cond l) (sym same))) c.limited_among.ensures
