-- Laws of the store.
use Rattle.std.specs.Prelude.{◌≡◌, ℕ, true, List, [], ◌∷◌, Some, map, if◌then◌else◌}
use Rattle.std.specs.List.{fold, list_all}
use Rattle.sql_values.specs.declared.places.Xid.{Xid}
use Rattle.sql_text.specs.declared.link.LinkAnswer.TheVariants.{Refused}
use Rattle.sql_text.specs.declared.link.LinkRequest.{LinkRequest}
use Rattle.sql_text.specs.declared.link.LinkRequest.TheVariants.{Start, End, Prepare, Commit, Rollback, Put}
use Rattle.plain_tables.specs.Inserts.{put_all}
use Rattle.plain_tables.specs.Rows.{Row, fits_columns}
use Rattle.branch_store.specs.Changes.{is_called}
use Rattle.branch_store.specs.Store.{Store, store_step, table_called}
use Rattle.branch_store.specs.Tables.{Table}

-- what is refused changes nothing
abbrev pub RefusalsChangeNothing : Type 0
RefusalsChangeNothing =
    (store : Store) (conn : ℕ) (request : LinkRequest) (number : ℕ) (message : List ℕ) → (store_step store conn request).1 ≡ Refused number message → (store_step store conn request).0 ≡ store

-- what requests leave, one after the other, each on its connection
abbrev pub after_all : Store → List (ℕ × LinkRequest) → Store
after_all store requests = fold (λ s asked. (store_step s asked.0 asked.1).0) store requests

-- tables without branches
abbrev pub at_rest : List Table → Store
at_rest tables = record { tables = tables; branches = [] }

-- the rows put into the tables of this name
abbrev pub put_into : List ℕ → List Row → Table → Table
put_into name rows table = if is_called name table.def then record table { rows = put_all table.def table.rows rows } else table

-- rows that one branch puts are there once it is committed, on whichever connection
abbrev pub CommitsKeepPuts : Type 0
CommitsKeepPuts =
    (tables : List Table) (conn other : ℕ) (xid : Xid) (name : List ℕ) (rows : List Row) (table : Table) → table_called (at_rest tables) name ≡ Some table → list_all (fits_columns table.def) rows ≡ true →
    after_all (at_rest tables) ((conn, Start xid) ∷ (conn, Put name rows) ∷ (conn, End xid) ∷ (conn, Prepare xid) ∷ (other, Commit xid) ∷ []) ≡ at_rest (map (put_into name rows) tables)

-- a branch that is rolled back leaves no trace
abbrev pub RollbacksLeaveNothing : Type 0
RollbacksLeaveNothing =
    (tables : List Table) (conn : ℕ) (xid : Xid) (name : List ℕ) (rows : List Row) (table : Table) → table_called (at_rest tables) name ≡ Some table → list_all (fits_columns table.def) rows ≡ true →
    after_all (at_rest tables) ((conn, Start xid) ∷ (conn, Put name rows) ∷ (conn, Rollback xid) ∷ []) ≡ at_rest tables
