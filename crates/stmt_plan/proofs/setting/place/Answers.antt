use Rattle.std.proofs.Common.{rules, tests}
use Rattle.std.proofs.lemmas.Iterator.{YieldsList-from_slice}
use Rattle.std.proofs.lemmas.Iterator.Search.{position_from_yields_List}
use Rattle.stmt_plan.specs.Inserts.{is_named}
use Rattle.stmt_plan.proofs.setting.place.Goals as goal

pub returns-clause-place : goal.returns-clause-place
returns-clause-place c =
    position_from_yields_List (is_named c.args.name.now) _ _ _ c.position.ensures.ran
    (YieldsList-from_slice c.args.columns.now cc) (λ x b q k. search (rules, tests))
