use Rattle.std.proofs.Common.{◌≡◌, ◌∙◌, Some, get_or, ap, subst}
use Rattle.std.specs.Prelude.{slice_get}
use Rattle.std.proofs.lemmas.Result.{IfOk-weaker}
use Rattle.sql_values.specs.KeySets.{AreBigInts}
use Rattle.front_core.proofs.Planned.{planned_at, planned_draws}
use Rattle.front_core.proofs.texts.begin_statement.Goals as goal

pub returns-in-Ok-clause-step : goal.returns-in-Ok-clause-step
returns-in-Ok-clause-step c =
    let table = c.index-tables-plan.result in
    let there : table ≡ get_or c.args.catalog.now.tables c.in-Ok.plan.table table =
    c.index-tables-plan.is ∙ ap (λ tables. get_or tables c.in-Ok.plan.table table) c.tables.ensures.all in
    let at : slice_get c.args.catalog.now.tables c.in-Ok.plan.table ≡ Some table =
    planned_at c.args.catalog.now.tables c.args.statement.now c.in-Ok.plan table c.in-Ok.ensures.ok there in
    let ends : AreBigInts c.in-Ok.plan.keys = subst AreBigInts c.as_slice.ensures.all c.are_bigints.ensures in
    IfOk-weaker c.draw.result _ _ (λ stepped is. is
    ∙ planned_draws c.args.catalog.now c.args.statement.now c.in-Ok.plan table c.args.drawn c.in-Ok.ensures.ok at (c.tables.ensures.sound c.in-Ok.plan.table table at).rule ends)
    c.draw.ensures.step
