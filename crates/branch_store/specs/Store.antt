-- A backend: its tables, the branches of transactions that live there, and what each request does (X/Open XA, "Distributed Transaction Processing: The XA
-- Specification").
use Rattle.std.specs.Prelude.{ℕ, Bool, List, [], ◌∷◌, ◌++◌, ◌&&◌, Option, Some, None, Result, Ok, Err, map, length, if◌then◌else◌}
use Rattle.std.specs.List.{filter, find, fold}
use Rattle.std.specs.Map.{keys_of}
use Rattle.std.specs.Cmp.Lexicographic.{slice_cmp}
use Rattle.std.specs.BTreeMap.{insert_entry}
use Rattle.std.specs.Ordering.{nat_cmp, ordering_then}
use Rattle.std.specs.declared.cmp.Ordering.{Ordering}
use Rattle.sql_values.specs.declared.places.Xid.{Xid}
use Rattle.sql_text.specs.declared.link.LinkAnswer.{LinkAnswer}
use Rattle.sql_text.specs.declared.link.LinkAnswer.TheVariants.{Done, Xids}
use Rattle.sql_text.specs.declared.link.LinkRequest.{LinkRequest}
use Rattle.sql_text.specs.declared.link.LinkRequest.TheVariants as request
use Rattle.sql_text.specs.declared.link.Scan.{Scan}
use Rattle.sql_values.specs.declared.tree.Cond.{Cond}
use Rattle.plain_tables.specs.Rows.{Row, kept}
use Rattle.plain_tables.specs.Scans.{answered, first_rows}
use Rattle.branch_store.specs.declared.branch.Branch.{Branch}
use Rattle.branch_store.specs.declared.branch.Change.{Change}
use Rattle.branch_store.specs.declared.branch.Change.TheVariants.{Put, Del, Clear}
use Rattle.branch_store.specs.declared.branch.Stage.{Stage}
use Rattle.branch_store.specs.declared.branch.Stage.TheVariants.{Active, Ended, Prepared}
use Rattle.branch_store.specs.declared.fault.BranchFault.{BranchFault}
use Rattle.branch_store.specs.declared.fault.BranchFault.TheVariants.{NoSuchBranch, WrongState, NoTable}
use Rattle.branch_store.specs.Answers.{refusal}
use Rattle.branch_store.specs.Changes.{after, has_key_in, has_key_from, is_called}
use Rattle.branch_store.specs.Faults.{has_xid, is_own, is_prepared, start_fault, branch_fault, may_end, may_prepare, may_commit, may_roll_back, rows_fault, key_fault, scan_fault}
use Rattle.branch_store.specs.Lists.{changed_first, without_first}
use Rattle.branch_store.specs.Tables.{Table}

pub record Store : Type 0 where
  pub tables : List Table
  pub branches : List Branch

abbrev pub with_branches : Store → List Branch → Store
with_branches store branches = record store { branches = branches }

-- a fault is answered, and changes nothing
abbrev pub unless_fault : Store → Option BranchFault → Store × LinkAnswer → Store × LinkAnswer
unless_fault store (Some fault) done = (store, refusal fault)
unless_fault store None done = done

-- THE LIFE OF A BRANCH

abbrev pub new_branch : ℕ → Xid → Branch
new_branch conn xid = record { xid = xid; stage = Active; owner = conn; changes = [] }

abbrev pub living : Store → Xid → Option Branch
living store xid = find (has_xid xid) store.branches

abbrev pub own : Store → ℕ → Option Branch
own store conn = find (is_own conn) store.branches

abbrev pub started : Store → ℕ → Xid → Store × LinkAnswer
started store conn xid = unless_fault store (start_fault (living store xid) (own store conn)) (with_branches store (store.branches ++ new_branch conn xid ∷ []), Done 0)

abbrev pub at_stage : Stage → Branch → Branch
at_stage stage branch = record branch { stage = stage }

-- the branch goes on to a stage, where it may
abbrev pub moved : Store → (Branch → Bool) → Xid → Stage → Store × LinkAnswer
moved store may xid stage = unless_fault store (branch_fault may (living store xid)) (with_branches store (changed_first (has_xid xid) (at_stage stage) store.branches), Done 0)

abbrev pub changes_of : Option Branch → List Change
changes_of None = []
changes_of (Some branch) = branch.changes

abbrev pub changed_table : List Change → Table → Table
changed_table changes table = record table { rows = after table.def changes table.rows }

abbrev pub without_branch : Store → Xid → Store
without_branch store xid = with_branches store (without_first (has_xid xid) store.branches)

abbrev pub committed : Store → Xid → Store × LinkAnswer
committed store xid =
    unless_fault store (branch_fault may_commit (living store xid))
    (record { tables = map (changed_table (changes_of (living store xid))) store.tables; branches = without_first (has_xid xid) store.branches }, Done 0)

abbrev pub rolled_back : Store → ℕ → Xid → Store × LinkAnswer
rolled_back store conn xid = unless_fault store (branch_fault (may_roll_back conn) (living store xid)) (without_branch store xid, Done 0)

-- what is left where a connection's end is met: its branch goes, unless it is prepared
abbrev pub hung_up : Store → ℕ → Store
hung_up store conn = with_branches store (without_first (is_own conn) store.branches)

-- WORK IN A BRANCH

-- the changes of a branch that is active
abbrev pub active_changes : List Change → Stage → Result (List Change) BranchFault
active_changes changes Active = Ok changes
active_changes changes Ended = Err (WrongState Ended)
active_changes changes Prepared = Err (WrongState Prepared)

abbrev pub own_changes : Option Branch → Result (List Change) BranchFault
own_changes None = Err NoSuchBranch
own_changes (Some branch) = active_changes branch.changes branch.stage

abbrev pub with_table : List ℕ → Option Table → List Change → Result (List Change × Table) BranchFault
with_table name None changes = Err (NoTable name)
with_table name (Some table) changes = Ok (changes, table)

abbrev pub and_table : List ℕ → Option Table → Result (List Change) BranchFault → Result (List Change × Table) BranchFault
and_table name table (Err fault) = Err fault
and_table name table (Ok changes) = with_table name table changes

-- the table that has this name
abbrev pub table_called : Store → List ℕ → Option Table
table_called store name = find (λ (table : Table). is_called name table.def) store.tables

-- the changes of the connection's active branch, and the table that has this name
abbrev pub work_on : Store → ℕ → List ℕ → Result (List Change × Table) BranchFault
work_on store conn name = and_table name (table_called store name) (own_changes (own store conn))

-- what is done there, where there is such a branch and such a table
abbrev pub working : Store → Result (List Change × Table) BranchFault → (List Change → Table → Store × LinkAnswer) → Store × LinkAnswer
working store (Err fault) act = (store, refusal fault)
working store (Ok (changes, table)) act = act changes table

-- the rows of a table as a branch with these changes sees them
abbrev pub seen : List Change → Table → List Row
seen changes table = after table.def changes table.rows

-- the first rows of those that a branch sees on which the condition holds, at most so many where there is a limit
abbrev pub found_rows : List Change → Table → Option Cond → Option ℕ → List Row
found_rows changes table cond limit = first_rows limit (kept table.def cond (seen changes table))

-- what a scan of the rows that a branch sees is answered
abbrev pub found : List Change → Table → Scan → LinkAnswer
found changes table scan = answered table.def scan.items scan.cond scan.limit (seen changes table)

abbrev pub scanned : Store → ℕ → Scan → Store × LinkAnswer
scanned store conn scan = working store (work_on store conn scan.table) (λ changes table. unless_fault store (scan_fault table.def scan) (store, found changes table scan))

abbrev pub add_change : Change → Branch → Branch
add_change change branch = record branch { changes = branch.changes ++ change ∷ [] }

-- the connection's branch has one more change
abbrev pub with_change : Store → ℕ → Change → Store
with_change store conn change = with_branches store (changed_first (is_own conn) (add_change change) store.branches)

abbrev pub put : Store → ℕ → List ℕ → List Row → Store × LinkAnswer
put store conn name rows = working store (work_on store conn name) (λ changes table. unless_fault store (rows_fault table.def rows) (with_change store conn (Put name rows), Done (length rows)))

-- how many of the rows that the branch sees pass the test
abbrev pub count_seen : List Change → Table → (Row → Bool) → ℕ
count_seen changes table test = length (filter test (seen changes table))

abbrev pub deleted : Store → ℕ → List ℕ → List ℕ → Change → (Table → Row → Bool) → Store × LinkAnswer
deleted store conn name key change goes =
    working store (work_on store conn name)
    (λ changes table. unless_fault store (key_fault table.def (Some key)) (with_change store conn change, Done (count_seen changes table (goes table))))

-- PREPARED BRANCHES

-- the prepared branches' names, each once, in their order
abbrev pub name_cmp : List ℕ × List ℕ → List ℕ × List ℕ → Ordering
name_cmp a b = ordering_then (slice_cmp nat_cmp a.0 b.0) (slice_cmp nat_cmp a.1 b.1)

abbrev pub add_name : List ((List ℕ × List ℕ) × Unit {0}) → Branch → List ((List ℕ × List ℕ) × Unit {0})
add_name names branch = if is_prepared branch.stage then insert_entry name_cmp names (branch.xid.gtrid, branch.xid.bqual) tt else names

abbrev pub xid_of : List ℕ × List ℕ → Xid
xid_of name = record { gtrid = name.0; bqual = name.1 }

abbrev pub recovered : List Branch → List Xid
recovered branches = map xid_of (keys_of (fold add_name [] branches))

-- the changes of the prepared branch of this name; none where there is no such branch
abbrev pub prepared_changes : List Branch → Xid → List Change
prepared_changes branches xid = changes_of (find (λ branch. has_xid xid branch && is_prepared branch.stage) branches)

-- the committed rows of a table, changed by prepared branches, one after the other
abbrev pub viewed_rows : List Branch → Table → List Xid → List Row
viewed_rows branches table xids = fold (λ rows xid. after table.def (prepared_changes branches xid) rows) table.rows xids

abbrev pub viewed_of : List Branch → Option Table → List Xid → List Row
viewed_of branches None xids = []
viewed_of branches (Some table) xids = viewed_rows branches table xids

abbrev pub viewed : Store → List ℕ → List Xid → List Row
viewed store name xids = viewed_of store.branches (table_called store name) xids

-- A REQUEST

-- a request on a connection: the store that it leaves, and its answer
abbrev pub store_step : Store → ℕ → LinkRequest → Store × LinkAnswer
store_step store conn (request.Start xid) = started store conn xid
store_step store conn (request.End xid) = moved store (may_end conn) xid Ended
store_step store conn (request.Prepare xid) = moved store (may_prepare conn) xid Prepared
store_step store conn (request.Commit xid) = committed store xid
store_step store conn (request.Rollback xid) = rolled_back store conn xid
store_step store conn request.Recover = (store, Xids (recovered store.branches))
store_step store conn (request.Scan scan) = scanned store conn scan
store_step store conn (request.Put table rows) = put store conn table rows
store_step store conn (request.Del table key keys) = deleted store conn table key (Del table keys) (λ t. has_key_in t.def keys)
store_step store conn (request.Clear table key low high) = deleted store conn table key (Clear table low high) (λ t. has_key_from t.def low high)
