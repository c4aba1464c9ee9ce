-- What a statement on one table answers, and what it leaves.
use Rattle.std.specs.Prelude.{◌≡◌, ℕ, ℤ, not, List, [], ◌∷◌, Option, Some, None, Result, Ok, Err, map, length, slice_get}
use Rattle.std.specs.List.{filter}
use Rattle.std.specs.Option.{option_map_or}
use Rattle.sql_values.specs.declared.literal.Literal.{Literal}
use Rattle.sql_values.specs.declared.literal.Literal.TheVariants as literal
use Rattle.sql_values.specs.declared.table.TableDef.{TableDef}
use Rattle.sql_values.specs.Conditions.{literal_of}
use Rattle.part_rules.specs.declared.rule.Rule.{Rule}
use Rattle.sql_text.specs.declared.statement.AggregateItem.{AggregateItem}
use Rattle.sql_text.specs.declared.statement.Delete.{Delete}
use Rattle.sql_text.specs.declared.statement.Select.{Select}
use Rattle.sql_text.specs.declared.statement.SelectItems.{SelectItems}
use Rattle.sql_text.specs.declared.statement.SelectItems.TheVariants as items
use Rattle.sql_text.specs.declared.statement.TableStatement.{TableStatement}
use Rattle.sql_text.specs.declared.statement.TableStatement.TheVariants as statement
use Rattle.sql_text.specs.declared.statement.Update.{Update}
use Rattle.front_rows.specs.Aggregates.{over}
use Rattle.front_rows.specs.Merging.{arranged}
use Rattle.stmt_plan.specs.declared.fault.RowFault.{RowFault}
use Rattle.stmt_plan.specs.declared.fault.StmtFault.{StmtFault}
use Rattle.stmt_plan.specs.declared.planned.CellColumn.{CellColumn}
use Rattle.stmt_plan.specs.declared.planned.Pick.{Pick}
use Rattle.stmt_plan.specs.declared.planned.Plan.{Plan}
use Rattle.stmt_plan.specs.declared.planned.Work.{Work}
use Rattle.stmt_plan.specs.declared.planned.Work.TheVariants as work
use Rattle.stmt_plan.specs.Inserts.{rows_of}
use Rattle.stmt_plan.specs.Plans.{IsPlan}
use Rattle.stmt_plan.specs.Plans.{IsTable as IsDefinition}
use Rattle.stmt_plan.specs.Refusals.{refusal}
use Rattle.stmt_plan.specs.Selects.{aggregate_of, known_as, most_of, order_of, picks_of, skip_of}
use Rattle.stmt_plan.specs.Settings.{settings}
use Rattle.plain_tables.specs.Inserts.{has_row, first_taken, put_all, without}
use Rattle.plain_tables.specs.Partitions.{IsTable}
use Rattle.plain_tables.specs.Rows.{Row, key_of, holds_on, kept}
use Rattle.plain_tables.specs.Updates.{set_rows, changed}

-- what a statement answers
pub data Answer : Type 0 where
  -- it is refused for what it says
  Refused : StmtFault → Answer
  -- a row has this key already, or two new rows have it
  Duplicate : ℤ → Answer
  -- a row can't be changed as it is to be
  RowRefused : RowFault → Answer
  -- so many rows were added or changed, or went
  Done : ℕ → Answer
  -- these rows of cells
  Found : List (List Literal) → Answer

-- the cell of a row in that column; a column that isn't there has NULL
abbrev pub cell_at : Row → Pick → Literal
cell_at row pick = option_map_or literal_of (slice_get row pick.column) literal.Null

abbrev pub cells_of : List Pick → Row → List Literal
cells_of picks row = map (cell_at row) picks

-- INSERT: none of the rows is added where a key is taken
abbrev pub inserted_by : TableDef → List Row → List Row → Option ℤ → Answer × List Row
inserted_by def rows news (Some key) = (Duplicate key, rows)
inserted_by def rows news None = (Done (length news), put_all def rows news)

abbrev pub inserted : TableDef → List Row → List Row → Answer × List Row
inserted def news rows = inserted_by def rows news (first_taken (has_row def rows) (map (key_of def) news))

-- SELECT: the rows on which WHERE holds, by the columns of ORDER BY and then by the key, without those that OFFSET skips, at most as many as LIMIT says
abbrev pub rows_by : TableDef → Select → List Row → List Row
rows_by def select rows = arranged (order_of def select.order) (skip_of select.limit) (most_of select.limit) (kept def select.cond rows)

-- of columns these rows, reduced to the items; of aggregates one row with those over all rows on which WHERE holds
abbrev pub selected_by : TableDef → Select → List Row → SelectItems → Answer
selected_by def select rows (items.Aggregates list) = Found (map (λ (item : AggregateItem). over (kept def select.cond rows) (aggregate_of def item.call)) list ∷ [])
selected_by def select rows list = Found (map (cells_of (picks_of def list)) (rows_by def select rows))

-- the table is known by the statement's name of it
abbrev pub selected : TableDef → Select → List Row → Answer
selected def select rows = selected_by (known_as def select.tab) select rows select.items

-- UPDATE: the rows on which WHERE holds are set, unless one can't be; those whose values change count
abbrev pub updated_by : TableDef → List Row → List Row → Result (List Row) RowFault → Answer × List Row
updated_by def rows hits (Err fault) = (RowRefused fault, rows)
updated_by def rows hits (Ok news) = (Done (length (changed hits news)), put_all def rows (changed hits news))

abbrev pub updated : TableDef → Update → List Row → Answer × List Row
updated def update rows = let hits = kept def update.cond rows in updated_by def rows hits (set_rows def (settings def update.sets) 1 hits)

-- DELETE: the rows on which WHERE holds go
abbrev pub deleted : TableDef → Delete → List Row → Answer × List Row
deleted def delete rows = (Done (length (kept def delete.cond rows)), filter (λ row. not (holds_on def delete.cond row)) rows)

abbrev pub done_by : TableDef → TableStatement → List Row → Answer × List Row
done_by def (statement.Insert insert) rows = inserted def (rows_of def insert.columns insert.rows) rows
done_by def (statement.Select select) rows = (selected def select rows, rows)
done_by def (statement.Update update) rows = updated def update rows
done_by def (statement.Delete delete) rows = deleted def delete rows

abbrev pub executed_by : TableDef → TableStatement → List Row → Option StmtFault → Answer × List Row
executed_by def s rows (Some fault) = (Refused fault, rows)
executed_by def s rows None = done_by def s rows

-- the answer of a statement on a table, and the rows that it leaves
abbrev pub executed : TableDef → Rule → TableStatement → List Row → Answer × List Row
executed def rule s rows = executed_by def s rows (refusal def rule s)

-- A STATEMENT AS WHAT ITS SCAN FINDS

-- what a statement writes: rows, each in place of one with its key, or keys whose rows go
pub data Writes : Type 0 where
  Puts : List Row → Writes
  Dels : List ℤ → Writes

-- the table with what is written
abbrev pub written : TableDef → List Row → Writes → List Row
written def rows (Puts news) = put_all def rows news
written def rows (Dels keys) = without def keys rows

-- what a statement makes of the rows that its scan found: its answer, and what it writes
abbrev pub added_by : List Row → Option ℤ → Answer × Writes
added_by news (Some key) = (Duplicate key, Puts [])
added_by news None = (Done (length news), Puts news)

abbrev pub changed_by : List Row → Result (List Row) RowFault → Answer × Writes
changed_by found (Err fault) = (RowRefused fault, Puts [])
changed_by found (Ok news) = (Done (length (changed found news)), Puts (changed found news))

abbrev pub finished : TableDef → Work → List Row → Answer × Writes
finished def (work.Insert news) found = added_by news (first_taken (has_row def found) (map (key_of def) news))
finished def (work.Select selected) found = (Found (map (cells_of selected.picks.picks) found), Puts [])
finished def (work.Aggregate columns) found = (Found (map (λ (column : CellColumn). over found column.aggregate) columns ∷ []), Puts [])
finished def (work.Update sets) found = changed_by found (set_rows def sets 1 found)
finished def work.Delete found = (Done (length found), Dels (map (key_of def) found))

-- the rows as a statement takes them: a SELECT of columns in its order, and cut; each other one by their keys, as they stand
abbrev pub arranged_by : Work → List Row → List Row
arranged_by (work.Select selected) rows = arranged selected.order selected.skip selected.most rows
arranged_by _ rows = rows

-- its answer, and the table with what it writes
abbrev pub applied : TableDef → List Row → Answer × Writes → Answer × List Row
applied def rows made = (made.0, written def rows made.1)

-- a statement that isn't refused is a scan of its condition, and what it makes of what that found
abbrev pub StatementsAreScans : Type 0
StatementsAreScans =
    (number : ℕ) (def : TableDef) (rule : Rule) (s : TableStatement) (plan : Plan) (rows : List Row) → IsDefinition def → IsTable def rule rows →
    refusal def rule s ≡ None → IsPlan number def rule s plan → executed def rule s rows ≡ applied def rows (finished def plan.work (arranged_by plan.work (kept def plan.cond rows)))
