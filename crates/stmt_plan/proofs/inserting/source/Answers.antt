use Rattle.std.proofs.Common.{◌∙◌, rules, tests, Bor}
use Rattle.std.proofs.lemmas.Iterator.{YieldsList-from_slice}
use Rattle.std.proofs.lemmas.Iterator.Search.{position_from_yields_List}
use Rattle.sql_values.specs.declared.table.ColumnDef.{ColumnDef}
use Rattle.stmt_plan.specs.Inserts.{is_named}
use Rattle.stmt_plan.proofs.Columns.{position-map}
use Rattle.stmt_plan.proofs.inserting.source.Goals as goal

pub returns : goal.returns
returns c =
    position_from_yields_List (λ (r : Bor ColumnDef). is_named c.args.name.now r.now) _ _ _ c.position.ensures.ran (YieldsList-from_slice c.args.among.now cc) (λ x b q k. search (rules, tests))
    ∙ position-map (λ (r : Bor ColumnDef). r.now) (is_named c.args.name.now) c.args.among.now
