-- Why a request is refused.
use Rattle.std.specs.Prelude.{ℕ, ◌==◌, Bool, true, false, not, ◌&&◌, ◌||◌, List, [], ◌∷◌, Option, Some, None, Result, Ok, Err, nat_eq, if◌then◌else◌}
use Rattle.std.specs.List.{list_all}
use Rattle.std.specs.Option.{option_or}
use Rattle.std.specs.Cmp.Lexicographic.{pointwise}
use Rattle.sql_values.specs.declared.checks.CheckFault.{CheckFault}
use Rattle.sql_values.specs.declared.checks.CheckFault.TheVariants as check
use Rattle.sql_values.specs.declared.places.Xid.{Xid}
use Rattle.sql_values.specs.declared.table.TableDef.{TableDef}
use Rattle.sql_values.specs.declared.tree.Cond.{Cond}
use Rattle.sql_values.specs.declared.tree.ColumnName.{ColumnName}
use Rattle.sql_values.specs.Checks.{checked_cond, is_unknown}
use Rattle.sql_text.specs.declared.link.AggregateCall.{AggregateCall}
use Rattle.sql_text.specs.declared.link.AggregateCall.TheVariants as call
use Rattle.sql_text.specs.declared.link.Scan.{Scan}
use Rattle.sql_text.specs.declared.link.ScanItems.{ScanItems}
use Rattle.sql_text.specs.declared.link.ScanItems.TheVariants as scanned
use Rattle.stmt_plan.specs.Inserts.{key_name}
use Rattle.stmt_plan.specs.Selects.{call_fits}
use Rattle.plain_tables.specs.Rows.{Row, fits_columns}
use Rattle.branch_store.specs.declared.branch.Branch.{Branch}
use Rattle.branch_store.specs.declared.branch.Stage.{Stage}
use Rattle.branch_store.specs.declared.branch.Stage.TheVariants.{Active, Ended, Prepared}
use Rattle.branch_store.specs.declared.fault.BranchFault.{BranchFault}
use Rattle.branch_store.specs.declared.fault.BranchFault.TheVariants.{NoSuchBranch, WrongState, Duplicate, NoColumn, TypeMismatch}

-- BRANCHES

abbrev pub is_active : Stage → Bool
is_active Active = true
is_active Ended = false
is_active Prepared = false

abbrev pub is_ended : Stage → Bool
is_ended Active = false
is_ended Ended = true
is_ended Prepared = false

abbrev pub is_prepared : Stage → Bool
is_prepared Active = false
is_prepared Ended = false
is_prepared Prepared = true

-- the branch has this name
abbrev pub has_xid : Xid → Branch → Bool
has_xid xid branch = pointwise nat_eq branch.xid.gtrid xid.gtrid && pointwise nat_eq branch.xid.bqual xid.bqual

-- the branch belongs to the connection: prepared branches belong to none
abbrev pub is_own : ℕ → Branch → Bool
is_own conn branch = (branch.owner == conn) && not (is_prepared branch.stage)

-- a branch may not begin where its name lives, or the connection has a branch already
abbrev pub start_fault : Option Branch → Option Branch → Option BranchFault
start_fault (Some living) own = Some Duplicate
start_fault None (Some own) = Some (WrongState own.stage)
start_fault None None = None

-- something may not be done with a branch that doesn't live, or that fails the test
abbrev pub branch_fault : (Branch → Bool) → Option Branch → Option BranchFault
branch_fault may None = Some NoSuchBranch
branch_fault may (Some branch) = if may branch then None else Some (WrongState branch.stage)

abbrev pub may_end : ℕ → Branch → Bool
may_end conn branch = (branch.owner == conn) && is_active branch.stage

abbrev pub may_prepare : ℕ → Branch → Bool
may_prepare conn branch = (branch.owner == conn) && is_ended branch.stage

abbrev pub may_commit : Branch → Bool
may_commit branch = is_prepared branch.stage

abbrev pub may_roll_back : ℕ → Branch → Bool
may_roll_back conn branch = is_prepared branch.stage || (branch.owner == conn)

-- ROWS

abbrev pub rows_fault : TableDef → List Row → Option BranchFault
rows_fault def rows = if list_all (fits_columns def) rows then None else Some TypeMismatch

-- NAMES AND CONDITIONS

-- the name, where there is one, has to be that of the key column
abbrev pub key_fault : TableDef → Option (List ℕ) → Option BranchFault
key_fault def None = None
key_fault def (Some name) = if pointwise nat_eq (key_name def) name then None else Some (NoColumn name)

abbrev pub fault_of_check : Result (Unit {0}) CheckFault → Option BranchFault
fault_of_check (Ok fits) = None
fault_of_check (Err (check.NoColumn name)) = Some (NoColumn name)
fault_of_check (Err (check.Ambiguous name)) = Some TypeMismatch
fault_of_check (Err check.TypeMismatch) = Some TypeMismatch
fault_of_check (Err check.NoMemory) = Some TypeMismatch

-- the condition, where there is one, has to fit the table
abbrev pub cond_fault : TableDef → Option Cond → Option BranchFault
cond_fault def None = None
cond_fault def (Some cond) = fault_of_check (checked_cond cond (def ∷ []))

-- AGGREGATES

-- the name has to be that of a column
abbrev pub column_fault : TableDef → ColumnName → Option BranchFault
column_fault def name = if is_unknown (def ∷ []) name then Some (NoColumn name.column) else None

-- a sum is one of numbers
abbrev pub sum_fault : TableDef → AggregateCall → Option BranchFault
sum_fault def c = if call_fits def c then None else Some TypeMismatch

abbrev pub call_fault : TableDef → AggregateCall → Option BranchFault
call_fault def call.Count = None
call_fault def (call.Sum name) = option_or (column_fault def name) (sum_fault def (call.Sum name))
call_fault def (call.Min name) = column_fault def name
call_fault def (call.Max name) = column_fault def name

-- the first call that doesn't fit
abbrev pub calls_fault : TableDef → List AggregateCall → Option BranchFault
calls_fault def [] = None
calls_fault def (c ∷ calls) = option_or (call_fault def c) (calls_fault def calls)

abbrev pub items_fault : TableDef → ScanItems → Option BranchFault
items_fault def scanned.All = None
items_fault def (scanned.Aggregates calls) = calls_fault def calls

-- what is asked for comes first, then the key column's name
abbrev pub scan_fault : TableDef → Scan → Option BranchFault
scan_fault def scan = option_or (items_fault def scan.items) (option_or (key_fault def scan.order) (cond_fault def scan.cond))
