use Rattle.std.proofs.Common.{ℕ, List, sym, ◌∙◌}
use Rattle.sql_values.specs.declared.table.TableDef.{TableDef}
use Rattle.stmt_plan.specs.Plans.{IsTable}
use Rattle.stmt_plan.specs.Selects.{called}
use Rattle.stmt_plan.proofs.Checked.{cond_known, cond_mismatched, cond_refused}
use Rattle.stmt_plan.proofs.choosing.cond_fits.Goals as goal

-- a table under another name is one too
called_table : (table : TableDef) (name : List ℕ) → IsTable table → IsTable (called table name)
called_table table name is = record { apart = is.apart; few = is.few; key = is.key }

pub returns-in-Ok-clause-fits : goal.returns-in-Ok-clause-fits
returns-in-Ok-clause-fits c = (cond_known (called c.args.table.now c.args.known.now) c.args.cond.now _ _ c.in_ok-tables.ensures.table c.in-Ok.ensures.ok).0

pub returns-in-Ok-clause-known : goal.returns-in-Ok-clause-known
returns-in-Ok-clause-known c = (cond_known (called c.args.table.now c.args.known.now) c.args.cond.now _ _ c.in_ok-tables.ensures.table c.in-Ok.ensures.ok).1

pub returns-then-is_mismatch-clause-fits : goal.returns-then-is_mismatch-clause-fits
returns-then-is_mismatch-clause-fits c =
    (cond_mismatched (called c.args.table.now c.args.known.now) c.args.cond.now _ _ c.in_ok-tables.ensures.table (sym c.is_mismatch.ensures ∙ c.if-is_mismatch.true) c.in-Err.ensures.err).0

pub returns-then-is_mismatch-clause-known : goal.returns-then-is_mismatch-clause-known
returns-then-is_mismatch-clause-known c =
    (cond_mismatched (called c.args.table.now c.args.known.now) c.args.cond.now _ _ c.in_ok-tables.ensures.table (sym c.is_mismatch.ensures ∙ c.if-is_mismatch.true) c.in-Err.ensures.err).1

pub returns-clause-err : goal.returns-clause-err
returns-clause-err c =
    cond_refused (called c.args.table.now c.args.known.now) c.args.cond.now _ _ _ (called_table c.args.table.now c.args.known.now c.requires) c.in_ok-tables.ensures.table (sym c.is_mismatch.ensures ∙ c.if-is_mismatch.false) c.from.ensures c.in-Err.ensures.err
