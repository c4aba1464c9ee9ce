use Rattle.stmt_plan.specs.Selects.{called}
use Rattle.stmt_plan.proofs.Faulty.{checked_fault}
use Rattle.stmt_plan.proofs.choosing.check_where.Goals as goal

pub returns-clause-err : goal.returns-clause-err
returns-clause-err c =
    checked_fault c.args.cond.now (called c.args.table.now c.args.known.now) _ _ _ c.in_ok-tables.ensures.table c.from.ensures c.in-Err.ensures.err
