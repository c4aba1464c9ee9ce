-- A statement over partitions is the statement on the plain table.
use Rattle.std.proofs.Common.{◌≡◌, ℕ, List, [], ◌∷◌, map, None, sym, ◌∙◌, ap, subst}
use Rattle.std.specs.List.{AllByRecursion}
use Rattle.sql_values.specs.declared.table.TableDef.{TableDef}
use Rattle.part_rules.specs.declared.rule.Rule.{Rule}
use Rattle.sql_text.specs.declared.link.AggregateCall.{AggregateCall}
use Rattle.sql_text.specs.declared.link.ScanItems.TheVariants.{Aggregates}
use Rattle.sql_text.specs.declared.statement.AggregateItem.{AggregateItem}
use Rattle.sql_text.specs.declared.statement.Select.{Select}
use Rattle.sql_text.specs.declared.statement.SelectItems.{SelectItems}
use Rattle.sql_text.specs.declared.statement.SelectItems.TheVariants as items
use Rattle.sql_text.specs.declared.statement.TableStatement.{TableStatement}
use Rattle.sql_text.specs.declared.statement.TableStatement.TheVariants as statement
use Rattle.front_rows.specs.Aggregates.{merged_results, over}
use Rattle.front_rows.proofs.Aggregated.{map-map}
use Rattle.stmt_plan.specs.declared.planned.CellColumn.{CellColumn}
use Rattle.stmt_plan.specs.declared.planned.Plan.{Plan}
use Rattle.stmt_plan.specs.declared.planned.Work.{Work}
use Rattle.stmt_plan.specs.Plans.{IsPlan, work_of}
use Rattle.stmt_plan.specs.Plans.{IsTable as IsDefinition}
use Rattle.stmt_plan.specs.Refusals.{refusal}
use Rattle.stmt_plan.specs.Selects.{aggregate_of, aggregates_of, bare_call, called, cell_column, items_by, known_as, limit_by, work_by}
use Rattle.plain_tables.specs.Partitions.{IsTable}
use Rattle.plain_tables.specs.Rows.{FitsColumns, Row, kept}
use Rattle.plain_tables.specs.Statements.{Found, Puts, applied, arranged_by, finished}
use Rattle.plain_tables.proofs.Scanned.{statements_are_scans}
use Rattle.merge_law.specs.Merging.{StatementsAreMerged, concluded, part_answers}
use Rattle.merge_law.proofs.Counted.{aggregates_are_merged, asked_alike, asks_by_plan}
use Rattle.merge_law.proofs.Ordered.{merges, select_merges}

-- a work's answers are what it makes of the rows of the plain table
abbrev Concludes : TableDef → Rule → Plan → List Row → Work → Type 0
Concludes def rule plan rows w = finished def w (arranged_by w (kept def plan.cond rows)) ≡ concluded def w (part_answers def rule plan rows)

-- the statement is a SELECT of aggregates
of_aggregates : (number : ℕ) (def : TableDef) (rule : Rule) (s : TableStatement) (plan : Plan) (calls : List AggregateCall) (rows : List Row) → IsDefinition def → IsTable def rule rows → AllByRecursion (FitsColumns def) rows
    → refusal def rule s ≡ None → IsPlan number def rule s plan → plan.pushed ≡ Aggregates calls → Concludes def rule plan rows plan.work
of_aggregates number def rule s plan calls rows is table fit passes planned pushed =
    let asks = asks_by_plan number def rule s plan calls passes planned pushed in
    let found = kept def plan.cond rows in
    let columns = map (cell_column (called def asks.name)) asks.list in
    let alike = asked_alike def s calls asks in
    let same : map (λ (column : CellColumn). over found column.aggregate) columns ≡ merged_results (aggregates_of columns) (part_answers def rule plan rows) =
    sym (map-map (λ (column : CellColumn). column.aggregate) (over found) columns)
    ∙ ap (map (over found)) alike
    ∙ map-map (aggregate_of def) (over found) calls
    ∙ sym (aggregates_are_merged number def rule s plan calls rows is table fit passes planned pushed)
    ∙ ap (λ aggregates. merged_results aggregates (part_answers def rule plan rows)) (sym alike) in
    subst (Concludes def rule plan rows) (sym (planned.work_is ∙ asks.work_is)) (ap (λ cells. (Found (cells ∷ []), Puts [])) same)

select_concludes : (number : ℕ) (def : TableDef) (rule : Rule) (select : Select) (plan : Plan) (rows : List Row) (l : SelectItems) → IsDefinition def → IsTable def rule rows → AllByRecursion (FitsColumns def) rows
    → refusal def rule (statement.Select select) ≡ None → IsPlan number def rule (statement.Select select) plan
    → plan.pushed ≡ items_by l → plan.limit ≡ limit_by (known_as def select.tab) select l → plan.work ≡ work_by (known_as def select.tab) select l → Concludes def rule plan rows (work_by (known_as def select.tab) select l)
select_concludes number def rule select plan rows items.All is table fit passes planned pushed limited works =
    ap (finished def (work_by (known_as def select.tab) select items.All)) (sym (select_merges number def rule select plan rows items.All is table planned pushed limited))
select_concludes number def rule select plan rows (items.Columns list) is table fit passes planned pushed limited works =
    ap (finished def (work_by (known_as def select.tab) select (items.Columns list))) (sym (select_merges number def rule select plan rows (items.Columns list) is table planned pushed limited))
select_concludes number def rule select plan rows (items.Aggregates list) is table fit passes planned pushed limited works =
    subst (Concludes def rule plan rows) works
    (of_aggregates number def rule (statement.Select select) plan (map (λ (item : AggregateItem). bare_call item.call) list) rows is table fit passes planned pushed)

concludes : (number : ℕ) (def : TableDef) (rule : Rule) (s : TableStatement) (plan : Plan) (rows : List Row) → IsDefinition def → IsTable def rule rows → AllByRecursion (FitsColumns def) rows
    → refusal def rule s ≡ None → IsPlan number def rule s plan → Concludes def rule plan rows (work_of def s)
concludes number def rule (statement.Insert insert) plan rows is table fit passes planned =
    ap (finished def (work_of def (statement.Insert insert))) (sym (merges number def rule (statement.Insert insert) plan rows is table planned planned.items))
concludes number def rule (statement.Select select) plan rows is table fit passes planned =
    select_concludes number def rule select plan rows select.items is table fit passes planned planned.items planned.limit_is planned.work_is
concludes number def rule (statement.Update update) plan rows is table fit passes planned =
    ap (finished def (work_of def (statement.Update update))) (sym (merges number def rule (statement.Update update) plan rows is table planned planned.items))
concludes number def rule (statement.Delete delete) plan rows is table fit passes planned =
    ap (finished def (work_of def (statement.Delete delete))) (sym (merges number def rule (statement.Delete delete) plan rows is table planned planned.items))

pub statements_are_merged : StatementsAreMerged
statements_are_merged number def rule s plan rows is table fit passes planned =
    statements_are_scans number def rule s plan rows is table passes planned
    ∙ ap (applied def rows) (subst (Concludes def rule plan rows) (sym planned.work_is) (concludes number def rule s plan rows is table fit passes planned))
