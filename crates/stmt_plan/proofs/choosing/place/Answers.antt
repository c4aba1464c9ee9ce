use Rattle.std.proofs.Common.{rules, tests, ap, ◌∙◌, ◌&&◌, nat_eq, Bool}
use Rattle.std.specs.List.{position}
use Rattle.std.specs.Cmp.Lexicographic.{pointwise}
use Rattle.std.proofs.lemmas.Iterator.{YieldsList-from_slice}
use Rattle.std.proofs.lemmas.Iterator.Search.{position_from_yields_List}
use Rattle.sql_values.specs.declared.table.ColumnDef.{ColumnDef}
use Rattle.stmt_plan.proofs.choosing.place.Goals as goal

pub returns-clause-place : goal.returns-clause-place
returns-clause-place c =
    position_from_yields_List (λ (column : ColumnDef). c.is_qualified_by-fits.result && pointwise nat_eq column.name c.args.name.now.column) _ _ _ c.position.ensures.ran
    (YieldsList-from_slice c.args.columns.now cc) (λ x b q k. search (rules, tests))
    ∙ ap (λ (fits : Bool). position (λ (column : ColumnDef). fits && pointwise nat_eq column.name c.args.name.now.column) c.args.columns.now) c.is_qualified_by-fits.ensures
