use Rattle.std.proofs.Common.{◌≡◌, ◌∙◌, rules, false, ap, subst}
use Rattle.std.proofs.lemmas.Result.{IfOk-weaker}
use Rattle.catalog_plan.specs.Plans.{IsRefused}
use Rattle.front_core.specs.Core.{answers}
use Rattle.front_core.specs.Planned.{is_no_memory}
use Rattle.front_core.proofs.Refusing.{unnamed, broken}
use Rattle.front_core.proofs.texts.refuse.Goals as goal

pub returns-in_ok-no_table-in-NoTable-clause-step :
    goal.returns-in_ok-no_table-in-NoTable-clause-step
returns-in_ok-no_table-in-NoTable-clause-step c =
    IfOk-weaker c.answered.result _ _ (λ stepped is. is ∙ (ap (answers c.args.drawn) c.in_ok-no_table-in-NoTable.ensures.reply
    ∙ unnamed c.args.catalog.now c.args.drawn c.args.statement.now _ (subst (IsRefused c.args.catalog.now.tables c.args.statement.now) c.in-NoTable.is c.requires)))
    c.answered.ensures.step

pub returns-in_ok-plan_reply-in-Statement-clause-step :
    goal.returns-in_ok-plan_reply-in-Statement-clause-step
returns-in_ok-plan_reply-in-Statement-clause-step c =
    let told : is_no_memory c.in-Statement.fault ≡ false = search rules in
    IfOk-weaker c.answered-in-Statement.result _ _ (λ stepped is. is ∙ (ap (answers c.args.drawn) c.in_ok-plan_reply-in-Statement.ensures.reply
    ∙ broken c.args.catalog.now c.args.drawn c.args.statement.now c.in-Statement.fault told (subst (IsRefused c.args.catalog.now.tables c.args.statement.now) c.in-Statement.is c.requires)))
    c.answered-in-Statement.ensures.step
