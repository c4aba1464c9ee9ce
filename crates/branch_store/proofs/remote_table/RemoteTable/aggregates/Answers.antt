use Rattle.std.proofs.Common.{List, map, subst, sym, ◌∙◌}
use Rattle.sql_values.specs.declared.table.TableDef.{TableDef}
use Rattle.front_rows.specs.Laws.{AreSuited}
use Rattle.stmt_plan.specs.Selects.{aggregate_of}
use Rattle.plain_tables.specs.Rows.{Row}
use Rattle.branch_store.proofs.Suited.{found_suited}
use Rattle.branch_store.proofs.remote_table.RemoteTable.aggregates.Goals as goal

pub cells_over-requires-clause-rows : goal.cells_over-requires-clause-rows
cells_over-requires-clause-rows c =
    let self = c.args.self.now in
    let calls = c.args.calls.now in
    let of_found = found_suited c.args.changes.now self c.args.cond.now calls c.requires.table c.requires.calls in
    let of_rows = subst (λ (rows : List Row). AreSuited (map (aggregate_of self.def) calls) rows) (sym (c.as_slice.ensures ∙ c.in_ok-rows.ensures)) of_found in
    subst (λ (def : TableDef). AreSuited (map (aggregate_of def) calls) c.as_slice.result.now) (sym c.def.ensures) of_rows
