use Rattle.std.proofs.Common.{inr, ap}
use Rattle.stmt_plan.specs.declared.fault.StmtFault.TheVariants.{NoColumn}
use Rattle.stmt_plan.specs.Selects.{called}
use Rattle.stmt_plan.proofs.Meant.{known_at}
use Rattle.stmt_plan.proofs.choosing.place_of.Goals as goal

pub returns-in-Some-clause-known : goal.returns-in-Some-clause-known
returns-in-Some-clause-known c =
    known_at (called c.args.table.now c.args.known.now) c.args.name.now _ _ c.as_slice.ensures c.in-Some.ensures.place

pub returns-in_ok-copy-in-None-clause-err : goal.returns-in_ok-copy-in-None-clause-err
returns-in_ok-copy-in-None-clause-err c =
    inr (ap NoColumn c.in_ok-copy-in-None.ensures, known_at (called c.args.table.now c.args.known.now) c.args.name.now _ _ c.as_slice.ensures c.in-None.ensures.place)
