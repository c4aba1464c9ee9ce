-- Stores in which each row is one of its table.
use Rattle.std.specs.Prelude.{◌≡◌, ◌==◌, ℕ, Bool, true, false, ◌&&◌, List, map, length, nat_le, Option, Some, None}
use Rattle.std.specs.List.{AllByRecursion, list_all}
use Rattle.sql_values.specs.declared.table.TableDef.{TableDef}
use Rattle.sql_text.specs.declared.link.LinkAnswer.{LinkAnswer}
use Rattle.sql_text.specs.declared.link.LinkAnswer.TheVariants as answer
use Rattle.sql_text.specs.declared.link.ScanItems.{ScanItems}
use Rattle.sql_text.specs.declared.link.ScanItems.TheVariants as items
use Rattle.sql_text.specs.declared.link.LinkRequest.{LinkRequest}
use Rattle.sql_text.specs.declared.link.LinkRequest.TheVariants as request
use Rattle.plain_tables.specs.Rows.{Row, FitsColumns, HasKey, Rises, fits_columns}
use Rattle.branch_store.specs.declared.branch.Branch.{Branch}
use Rattle.branch_store.specs.declared.branch.Change.{Change}
use Rattle.branch_store.specs.declared.branch.Change.TheVariants.{Put, Del, Clear}
use Rattle.branch_store.specs.Changes.{is_called}
use Rattle.branch_store.specs.Opening.{are_apart, is_definition}
use Rattle.branch_store.specs.Store.{Store, store_step, table_called, hung_up}
use Rattle.branch_store.specs.Tables.{Table}

-- rows of a table, in the order of their keys
pub record AreRows (def : TableDef) (rows : List Row) : Type 0 where
  pub rises : Rises def rows
  pub fit : AllByRecursion (FitsColumns def) rows

-- the rows that a change puts are rows of this table, where it is a change of it
abbrev pub FitsTable : Change → TableDef → Type 0
FitsTable (Put name rows) def = is_called name def ≡ true → AllByRecursion (FitsColumns def) rows
FitsTable (Del name keys) def = Unit {0}
FitsTable (Clear name low high) def = Unit {0}

abbrev pub FitsTables : List TableDef → Change → Type 0
FitsTables defs change = AllByRecursion (FitsTable change) defs

abbrev pub definition : Table → TableDef
definition table = table.def

-- the tables' names differ, each is one that a backend can have, its rows are its rows, and so are those that branches put into it
pub record IsSound (store : Store) : Type 0 where
  pub apart : are_apart (map definition store.tables) ≡ true
  pub tables : AllByRecursion (λ (table : Table). is_definition table.def ≡ true) store.tables
  pub rows : AllByRecursion (λ (table : Table). AreRows table.def table.rows) store.tables
  pub branches : AllByRecursion (λ (branch : Branch). AllByRecursion (FitsTables (map definition store.tables)) branch.changes) store.branches

abbrev pub StepsKeepRows : Type 0
StepsKeepRows = (store : Store) (conn : ℕ) (request : LinkRequest) → IsSound store → IsSound (store_step store conn request).0

-- the key column of such a row has a BIGINT
abbrev pub RowsHaveKeys : Type 0
RowsHaveKeys = (def : TableDef) (row : Row) → is_definition def ≡ true → FitsColumns def row → HasKey def row

abbrev pub HangupsKeepRows : Type 0
HangupsKeepRows = (store : Store) (conn : ℕ) → IsSound store → IsSound (hung_up store conn)

-- the rows are rows of the table, where there is one
abbrev pub are_rows_of : Option Table → List Row → Bool
are_rows_of None rows = false
are_rows_of (Some table) rows = list_all (fits_columns table.def) rows

-- a scan is answered by rows of its table or by a row of cells, RECOVER by names of branches, and each other request by a number
abbrev pub rows_form : LinkAnswer → Option Table → Bool
rows_form (answer.Rows rows) table = are_rows_of table rows
rows_form (answer.Refused number message) table = true
rows_form _ table = false

-- one row at most, with a cell for each of so many aggregates
abbrev pub cells_form : ℕ → LinkAnswer → Bool
cells_form count (answer.Cells rows) = nat_le (length rows) 1 && list_all (λ (row : List (Option (List ℕ))). length row == count) rows
cells_form count (answer.Refused number message) = true
cells_form count _ = false

abbrev pub scan_form : ScanItems → LinkAnswer → Option Table → Bool
scan_form items.All a table = rows_form a table
scan_form (items.Aggregates calls) a table = cells_form (length calls) a

abbrev pub xids_form : LinkAnswer → Bool
xids_form (answer.Xids xids) = true
xids_form (answer.Refused number message) = true
xids_form _ = false

abbrev pub done_form : LinkAnswer → Bool
done_form (answer.Done count) = true
done_form (answer.Refused number message) = true
done_form _ = false

-- the answer has the form of its request's
abbrev pub has_form : Store → LinkRequest → LinkAnswer → Bool
has_form store (request.Scan scan) answer = scan_form scan.items answer (table_called store scan.table)
has_form store request.Recover answer = xids_form answer
has_form store (request.Start xid) answer = done_form answer
has_form store (request.End xid) answer = done_form answer
has_form store (request.Prepare xid) answer = done_form answer
has_form store (request.Commit xid) answer = done_form answer
has_form store (request.Rollback xid) answer = done_form answer
has_form store (request.Put table rows) answer = done_form answer
has_form store (request.Del table key keys) answer = done_form answer
has_form store (request.Clear table key low high) answer = done_form answer

abbrev pub AnswersHaveForm : Type 0
AnswersHaveForm = (store : Store) (conn : ℕ) (request : LinkRequest) → IsSound store → has_form store request (store_step store conn request).1 ≡ true
