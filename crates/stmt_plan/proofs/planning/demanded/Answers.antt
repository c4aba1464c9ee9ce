use Rattle.stmt_plan.proofs.Chosen.{told_of_select, none_of_select, told_of_update, none_of_update, told_of_delete, none_of_delete}
use Rattle.stmt_plan.proofs.planning.demanded.Goals as goal

pub returns-in-Ok-clause-ok : goal.returns-in-Ok-clause-ok
returns-in-Ok-clause-ok c =
    none_of_select c.args.table.now c.args.rule.now c.args.statement.now _ c.requires.table c.in-Select.is c.in-Ok.ensures.ok

pub returns-in-Err-clause-err : goal.returns-in-Err-clause-err
returns-in-Err-clause-err c =
    told_of_select c.args.table.now c.args.rule.now c.args.statement.now _ _ c.requires.table c.in-Select.is c.in-Err.ensures.err

pub returns-in-Ok-set-clause-ok : goal.returns-in-Ok-set-clause-ok
returns-in-Ok-set-clause-ok c =
    none_of_update c.args.table.now c.args.rule.now c.args.statement.now _ c.requires.table c.in-Update.is c.in-Ok-set.ensures.ok

pub returns-in-Err-set-clause-err : goal.returns-in-Err-set-clause-err
returns-in-Err-set-clause-err c =
    told_of_update c.args.table.now c.args.rule.now c.args.statement.now _ _ c.requires.table c.in-Update.is c.in-Err-set.ensures.err

pub returns-in-Ok-asked-clause-ok : goal.returns-in-Ok-asked-clause-ok
returns-in-Ok-asked-clause-ok c =
    none_of_delete c.args.table.now c.args.rule.now c.args.statement.now _ c.requires.table c.in-Delete.is c.in-Ok-asked.ensures.ok

pub returns-in-Err-asked-clause-err : goal.returns-in-Err-asked-clause-err
returns-in-Err-asked-clause-err c =
    told_of_delete c.args.table.now c.args.rule.now c.args.statement.now _ _ c.requires.table c.in-Delete.is c.in-Err-asked.ensures.err
