-- What a statement's text answers on the plain tables, and what it leaves.
use Rattle.std.specs.Prelude.{ℕ, ◌==◌, Bool, not, ◌||◌, List, [], ◌∷◌, Option, Some, None, Result, Ok, Err, map, codes, if◌then◌else◌}
use Rattle.std.specs.List.{list_all}
use Rattle.std.specs.Option.{option_or}
use Rattle.sql_values.specs.declared.literal.Literal.{Literal}
use Rattle.sql_values.specs.declared.table.TableDef.{TableDef}
use Rattle.catalog.specs.declared.tables.Table.{Table}
use Rattle.catalog.specs.Views.{View, table_name}
use Rattle.catalog_plan.specs.Plans.{table_of}
use Rattle.sql_text.specs.declared.fault.ParseFault.{ParseFault}
use Rattle.sql_text.specs.declared.statement.Select.{Select}
use Rattle.sql_text.specs.declared.statement.SelectItems.{SelectItems}
use Rattle.sql_text.specs.declared.statement.SelectItems.TheVariants as items
use Rattle.sql_text.specs.declared.statement.Statement.{Statement}
use Rattle.sql_text.specs.declared.statement.Statement.TheVariants as client
use Rattle.sql_text.specs.declared.statement.TableStatement.{TableStatement}
use Rattle.sql_text.specs.declared.statement.TableStatement.TheVariants as statement
use Rattle.sql_text.specs.Parsing.{parsed}
use Rattle.stmt_plan.specs.declared.planned.AnswerColumns.TheVariants as columns
use Rattle.stmt_plan.specs.declared.planned.Work.{Work}
use Rattle.stmt_plan.specs.declared.planned.Work.TheVariants as work
use Rattle.stmt_plan.specs.Plans.{work_of}
use Rattle.stmt_plan.specs.Selects.{known_as}
use Rattle.front_rows.specs.Cells.{Cell, cell_text}
use Rattle.front_rows.specs.Merging.{is_too_large}
use Rattle.plain_tables.specs.Rows.{Row, kept}
use Rattle.plain_tables.specs.Statements.{Answer, Refused, Duplicate, RowRefused, Done, Found, Writes, Puts, Dels, executed, finished, rows_by}
use Rattle.txn_phases.specs.declared.deed.Outcome.TheVariants as outcome
use Rattle.txn_phases.specs.Deeds.{deletes_too_much, placed, placed_key, writes_too_much}
use Rattle.my_messages.specs.declared.reply.Column.{Column}
use Rattle.my_messages.specs.declared.reply.Reply.{Reply}
use Rattle.my_messages.specs.declared.reply.Reply.TheVariants as reply
use Rattle.sql_replies.specs.Admin.{admin_reply}
use Rattle.sql_replies.specs.Errors.{ok_reply, duplicate_reply, limit_reply, no_table_reply, parse_reply, plan_reply}
use Rattle.sql_replies.specs.Outcomes.{row_reply}
use Rattle.sql_replies.specs.Results.{column_of, cell_column_of}
use Rattle.front_core.specs.Core.{is_showable, table_named}
use Rattle.front_core.specs.Jobs.{columns_by, targets_for}

-- the rows of each table, by its number
abbrev pub Tables : Type 0
Tables = ℕ → List Row

abbrev pub no_rows : Tables
no_rows number = []

-- the tables with these rows in one
abbrev pub with_rows : Tables → ℕ → List Row → Tables
with_rows tables number rows n = if n == number then rows else tables n

-- ANSWERS

-- the columns of the answer
abbrev pub columns_shown : TableDef → Work → List Column
columns_shown def (work.Select selected) = map (column_of def selected.picks.table) selected.picks.picks
columns_shown def (work.Aggregate list) = map cell_column_of list
columns_shown def _ = []

-- a row of cells as its texts
abbrev pub cells_shown : List Literal → List Cell
cells_shown row = map cell_text row

-- what a client is told of an answer
abbrev pub reply_to : TableDef → Work → Answer → Reply
reply_to def w (Refused fault) = plan_reply fault
reply_to def w (Duplicate key) = duplicate_reply key
reply_to def w (RowRefused fault) = row_reply fault
reply_to def w (Done count) = ok_reply count
reply_to def w (Found cells) = reply.Rows (columns_shown def w) (map cells_shown cells) 2

-- LIMITS

-- the rows that a statement finds, whole, as it takes them: those of a SELECT in its order, and cut. An INSERT takes none, and neither do aggregates
abbrev pub rows_selected : TableDef → Select → List Row → SelectItems → List Row
rows_selected def select rows (items.Aggregates list) = []
rows_selected def select rows list = rows_by def select rows

abbrev pub rows_found : TableDef → TableStatement → List Row → List Row
rows_found def (statement.Insert insert) rows = []
rows_found def (statement.Select select) rows = rows_selected (known_as def select.tab) select rows select.items
rows_found def (statement.Update update) rows = kept def update.cond rows
rows_found def (statement.Delete delete) rows = kept def delete.cond rows

-- what a statement writes that is done
abbrev pub writes_of : TableDef → TableStatement → List Row → Writes
writes_of def s rows = (finished def (work_of def s) (rows_found def s rows)).1

-- more than may be written at a server
abbrev pub is_long : Table → TableStatement → Writes → Bool
is_long table s (Puts news) = writes_too_much (targets_for table s) (map (placed table.def table.rule) news)
is_long table s (Dels keys) = deletes_too_much (targets_for table s) (map (placed_key table.rule) keys)

-- packets can hold the rows, or the row of aggregates
abbrev pub is_shown : Work → List Row → List (List Literal) → Bool
is_shown (work.Aggregate list) found cells = list_all (λ (row : List Literal). is_showable (Some (columns.Cells list)) (outcome.Cells (cells_shown row))) cells
is_shown w found cells = is_showable (columns_by w) (outcome.Found found)

-- the answer has more rows, or more bytes of them, than it may have, or no packets can hold it
abbrev pub is_large : Work → List Row → List (List Literal) → Bool
is_large w found cells = is_too_large found || not (is_shown w found cells)

abbrev pub answer_limit : Bool → Option (List ℕ)
answer_limit large = if large then Some (codes "answer") else None

-- the limit that an answer passes: that of answers, which counts the rows of a SELECT as they are cut, and the rows that are found to be changed too, or that
-- of what is written at a server
abbrev pub limit_passed : Table → TableStatement → List Row → Answer → Option (List ℕ)
limit_passed table s rows (Refused fault) = None
limit_passed table s rows (Duplicate key) = None
limit_passed table s rows (RowRefused fault) = answer_limit (is_too_large (rows_found table.def s rows))
limit_passed table s rows (Done count) =
    option_or (answer_limit (is_too_large (rows_found table.def s rows))) (if is_long table s (writes_of table.def s rows) then Some (codes "write set") else None)
limit_passed table s rows (Found cells) = answer_limit (is_large (work_of table.def s) (rows_found table.def s rows) cells)

-- STATEMENTS

-- a statement that passes a limit changes nothing
abbrev pub within_limit : TableDef → Work → List Row → Answer × List Row → Option (List ℕ) → Reply × List Row
within_limit def w rows e (Some limit) = (limit_reply limit, rows)
within_limit def w rows e None = (reply_to def w e.0, e.1)

-- what a statement on a table answers, and the rows that it leaves there
abbrev pub exec_on : Table → TableStatement → List Row → Reply × List Row
exec_on table s rows = let e = executed table.def table.rule s rows in within_limit table.def (work_of table.def s) rows e (limit_passed table s rows e.0)

abbrev pub on_table : Tables → ℕ → Reply × List Row → Reply × Tables
on_table tables number e = (e.0, with_rows tables number e.1)

abbrev pub exec_at : Tables → TableStatement → Option (ℕ × Table) → Reply × Tables
exec_at tables s None = (no_table_reply (table_of s), tables)
exec_at tables s (Some (number, table)) = on_table tables number (exec_on table s (tables number))

-- a question about the server changes nothing
abbrev pub exec_one : View → Tables → Statement → Reply × Tables
exec_one catalog tables (client.Table s) = exec_at tables s (table_named catalog.tables (table_of s))
exec_one catalog tables (client.Admin admin) = (admin_reply (map table_name catalog.tables) admin, tables)

abbrev pub exec_by : View → Tables → Result Statement ParseFault → Reply × Tables
exec_by catalog tables (Err fault) = (parse_reply fault, tables)
exec_by catalog tables (Ok s) = exec_one catalog tables s

-- what a text answers, and the tables that it leaves
unfoldable pub exec : View → List ℕ → Tables → Reply × Tables
exec catalog text tables = exec_by catalog tables (parsed text)
