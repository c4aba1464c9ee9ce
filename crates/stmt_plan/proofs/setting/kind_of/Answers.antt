use Rattle.std.proofs.Common.{sym, ◌∙◌}
use Rattle.stmt_plan.proofs.Checked.{kind_known, kind_mismatched, kind_refused}
use Rattle.stmt_plan.proofs.setting.kind_of.Goals as goal

pub returns-in-Ok-clause-kind : goal.returns-in-Ok-clause-kind
returns-in-Ok-clause-kind c = (kind_known c.args.table.now c.args.value.now _ c.in-Ok.ensures.ok).0

pub returns-in-Ok-clause-known : goal.returns-in-Ok-clause-known
returns-in-Ok-clause-known c = (kind_known c.args.table.now c.args.value.now _ c.in-Ok.ensures.ok).1

pub returns-then-is_mismatch-clause-kind : goal.returns-then-is_mismatch-clause-kind
returns-then-is_mismatch-clause-kind c =
    (kind_mismatched c.args.table.now c.args.value.now _ (sym c.is_mismatch.ensures ∙ c.if-is_mismatch.true) c.in-Err.ensures.err).0

pub returns-then-is_mismatch-clause-known : goal.returns-then-is_mismatch-clause-known
returns-then-is_mismatch-clause-known c =
    (kind_mismatched c.args.table.now c.args.value.now _ (sym c.is_mismatch.ensures ∙ c.if-is_mismatch.true) c.in-Err.ensures.err).1

pub returns-else-is_mismatch-clause-err : goal.returns-else-is_mismatch-clause-err
returns-else-is_mismatch-clause-err c =
    kind_refused c.args.table.now c.args.value.now _ _ c.requires (sym c.is_mismatch.ensures ∙ c.if-is_mismatch.false) c.from.ensures c.in-Err.ensures.err
