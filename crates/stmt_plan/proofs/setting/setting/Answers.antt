use Rattle.std.proofs.Common.{inr, ap}
use Rattle.stmt_plan.specs.declared.fault.StmtFault.TheVariants.{NoColumn}
use Rattle.stmt_plan.specs.Settings.{name_set}
use Rattle.stmt_plan.proofs.Meant.{known_at}
use Rattle.stmt_plan.proofs.setting.setting.Goals as goal

pub returns-in_ok-copy-in-Some-clause-known : goal.returns-in_ok-copy-in-Some-clause-known
returns-in_ok-copy-in-Some-clause-known c = known_at c.args.table.now (name_set c.args.assignment.now) _ _ c.as_slice.ensures c.in-Some.ensures.place

pub returns-in_ok-copy-in-None-clause-err : goal.returns-in_ok-copy-in-None-clause-err
returns-in_ok-copy-in-None-clause-err c =
    inr (ap NoColumn c.in_ok-copy-in-None.ensures, known_at c.args.table.now (name_set c.args.assignment.now) _ _ c.as_slice.ensures c.in-None.ensures.place)
