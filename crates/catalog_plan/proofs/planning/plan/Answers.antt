use Rattle.std.proofs.Common.{refl}
use Rattle.catalog_plan.proofs.Planned.{planned_by, refused_by}
use Rattle.catalog_plan.proofs.planning.plan.Goals as goal

pub returns-in-Ok-plan_on-clause-ok : goal.returns-in-Ok-plan_on-clause-ok
returns-in-Ok-plan_on-clause-ok c =
    planned_by c.args.catalog.now.tables c.args.statement.now c.table_of-name.result.now c.table_of-name.ensures c.in-Some.number c.def-def.result.now c.rule-rule.result.now
    c.in-Some.ensures.found c.in-Ok-plan_on.plan _ refl c.def-def.ensures.value c.rule-rule.ensures.value c.in-Ok-plan_on.ensures.ok c.in-Ok-plan_on.ensures.plan

pub returns-in-Err-plan_on-clause-err : goal.returns-in-Err-plan_on-clause-err
returns-in-Err-plan_on-clause-err c =
    refused_by c.args.catalog.now.tables c.args.statement.now c.table_of-name.result.now c.table_of-name.ensures c.in-Some.number c.def-def.result.now c.rule-rule.result.now
    c.in-Some.ensures.found c.in-Err-plan_on.fault _ refl c.def-def.ensures.value c.rule-rule.ensures.value c.in-Err-plan_on.ensures.err
