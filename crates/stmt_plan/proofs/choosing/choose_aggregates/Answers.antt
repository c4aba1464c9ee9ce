use Rattle.std.proofs.Common.{ap, ◌∙◌}
use Rattle.stmt_plan.specs.Chosen.{chosen_fault, columns_fit}
use Rattle.stmt_plan.proofs.Chosen.{told_by}
use Rattle.stmt_plan.proofs.ItemKinds.{chosen_calls}
use Rattle.stmt_plan.proofs.choosing.choose_aggregates.Goals as goal

pub returns-clause-ok : goal.returns-clause-ok
returns-clause-ok c =
    chosen_calls c.args.table.now c.args.select.now c.args.known c.args.items.now _ c.all_fit-fit.result c.requires.known c.requires.items c.in_ok-columns.ensures.known
    c.in_ok-columns.ensures.columns (c.all_fit-fit.ensures ∙ ap columns_fit c.as_slice.ensures)
    ∙ c.in-Ok.ensures.ok

pub returns-in-Err-clause-err : goal.returns-in-Err-clause-err
returns-in-Err-clause-err c =
    told_by (chosen_fault c.args.table.now c.args.select.now) _ _
    (chosen_calls c.args.table.now c.args.select.now c.args.known c.args.items.now _ c.all_fit-fit.result c.requires.known c.requires.items c.in_ok-columns.ensures.known
    c.in_ok-columns.ensures.columns (c.all_fit-fit.ensures ∙ ap columns_fit c.as_slice.ensures))
    c.in-Err.ensures.err
