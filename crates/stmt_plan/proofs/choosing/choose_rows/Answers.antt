use Rattle.std.proofs.Common.{◌∙◌}
use Rattle.stmt_plan.specs.Chosen.{chosen_fault}
use Rattle.stmt_plan.proofs.Chosen.{told_by}
use Rattle.stmt_plan.proofs.ItemKinds.{chosen_rows}
use Rattle.stmt_plan.proofs.choosing.choose_rows.Goals as goal

pub returns-clause-ok : goal.returns-clause-ok
returns-clause-ok c =
    chosen_rows c.args.table.now c.args.select.now c.args.known c.requires.known c.requires.rows c.requires.names ∙ c.in-Ok.ensures.ok

pub returns-in-Err-clause-err : goal.returns-in-Err-clause-err
returns-in-Err-clause-err c =
    told_by (chosen_fault c.args.table.now c.args.select.now) _ _ (chosen_rows c.args.table.now c.args.select.now c.args.known c.requires.known c.requires.rows c.requires.names) c.in-Err.ensures.err
