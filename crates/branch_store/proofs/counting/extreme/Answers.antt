use Rattle.std.proofs.Common.{◌≡◌, ◌+◌, ◌∷◌, drop, ap, sym, ◌∙◌, cond}
use Rattle.std.proofs.lemmas.List.{drop_all, drop_more}
use Rattle.sql_values.specs.declared.literal.Literal.{Literal}
use Rattle.sql_values.specs.Conditions.{literal_of}
use Rattle.front_rows.specs.Aggregates.{both, greater, lesser}
use Rattle.front_rows.specs.Cells.{cell_literal}
use Rattle.plain_tables.specs.Rows.{Row}
use Rattle.branch_store.proofs.Aggregated.{chosen_groups, done, more, nothing}
use Rattle.branch_store.proofs.counting.extreme.Goals as goal

pub loop-row-preserved-in_default : goal.loop-row-preserved-in_default
loop-row-preserved-in_default c =
    let rows = c.args.rows.now in
    let i = c.loop-row.row-index in
    let next : drop i rows ≡ c.row-item.result ∷ drop (i + 1) rows = drop_more rows i c.row-item.result c.loop-row-test.true ∙ ap (λ (r : Row). r ∷ drop (i + 1) rows) (sym c.row-item.is) in
    nothing (cond c.args.least lesser greater) (chosen_groups c.args.least) c.args.column c.row-item.result (drop (i + 1) rows) (drop i rows) rows (cell_literal c.loop-row.found) next (c.in_default.ensures) c.loop-row.invariant

pub loop-row-preserved : goal.loop-row-preserved
loop-row-preserved c =
    let rows = c.args.rows.now in
    let i = c.loop-row.row-index in
    let f = cond c.args.least lesser greater in
    let next : drop i rows ≡ c.row-item.result ∷ drop (i + 1) rows = drop_more rows i c.row-item.result c.loop-row-test.true ∙ ap (λ (r : Row). r ∷ drop (i + 1) rows) (sym c.row-item.is) in
    more f (chosen_groups c.args.least) c.args.column c.row-item.result (drop (i + 1) rows) (drop i rows) rows (cell_literal c.loop-row.found) (literal_of c.better_of.result.now) next
    (c.better_of.ensures ∙ ap (λ (l : Literal). both f (cell_literal c.loop-row.found) l) c.in-Some.ensures) c.loop-row.invariant

pub returns : goal.returns
returns c = done (cond c.args.least lesser greater) (chosen_groups c.args.least) c.args.column (drop c.loop-row.row-index c.args.rows.now) c.args.rows.now (cell_literal c.loop-row.found) (drop_all c.loop-row.row-index c.args.rows.now c.loop-row-test.false) c.loop-row.invariant
