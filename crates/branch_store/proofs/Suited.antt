-- Aggregates that are answered may be counted over rows of the table.
use Rattle.std.proofs.Common.{◌≡◌, Bool, true, false, ◌&&◌, not, cond, List, [], ◌∷◌, map, refl, ap, sym, ◌∙◌, Option, Some, None}
use Rattle.std.specs.List.{AllByRecursion, list_all}
use Rattle.std.specs.Option.{option_or}
use Rattle.std.proofs.lemmas.Bool.{and_from}
use Rattle.sql_values.specs.declared.table.TableDef.{TableDef}
use Rattle.sql_values.specs.declared.tree.ColumnName.{ColumnName}
use Rattle.sql_values.specs.declared.tree.Cond.{Cond}
use Rattle.sql_values.specs.Checks.{is_unknown}
use Rattle.sql_text.specs.declared.link.AggregateCall.{AggregateCall}
use Rattle.sql_text.specs.declared.link.AggregateCall.TheVariants as call
use Rattle.sql_text.specs.declared.link.Scan.{Scan}
use Rattle.sql_text.specs.declared.link.ScanItems.TheVariants as scanned
use Rattle.front_rows.specs.Laws.{AreSuited}
use Rattle.stmt_plan.specs.Selects.{aggregate_of, call_fits}
use Rattle.plain_tables.specs.Rows.{FitsColumns, holds_on}
use Rattle.plain_tables.proofs.Scanned.{both_none}
use Rattle.plain_tables.proofs.Suited.{IsMeant, calls_suit}
use Rattle.branch_store.specs.declared.branch.Change.{Change}
use Rattle.branch_store.specs.declared.fault.BranchFault.{BranchFault}
use Rattle.branch_store.specs.declared.fault.BranchFault.TheVariants.{NoColumn, TypeMismatch}
use Rattle.branch_store.specs.Faults.{call_fault, calls_fault, column_fault, cond_fault, items_fault, key_fault, scan_fault, sum_fault}
use Rattle.branch_store.specs.Scanning.{AreOfTable}
use Rattle.branch_store.specs.Sound.{AreRows}
use Rattle.branch_store.specs.Store.{found_rows, seen}
use Rattle.branch_store.specs.Tables.{Table}
use Rattle.branch_store.proofs.Sounds.{after_fits, all_filter}

-- CALLS WITHOUT A FAULT

not_told : (b : Bool) (fault : BranchFault) → cond {A = Option BranchFault} b (Some fault) None ≡ None → b ≡ false
not_told true fault none = let no : ⊥ = cc in absurd no
not_told false fault none = refl

has_passed : (b : Bool) (fault : BranchFault) → cond {A = Option BranchFault} b None (Some fault) ≡ None → b ≡ true
has_passed true fault none = refl
has_passed false fault none = let no : ⊥ = cc in absurd no

named : (def : TableDef) (name : ColumnName) → column_fault def name ≡ None → list_all (λ n. not (is_unknown (def ∷ []) n)) (name ∷ []) ≡ true
named def name none = ap (λ b. not b && true) (not_told (is_unknown (def ∷ []) name) (NoColumn name.column) none)

-- each column is one of the table, and each sum one of numbers
call_meant : (def : TableDef) (c : AggregateCall) → call_fault def c ≡ None → IsMeant def c
call_meant def call.Count none = refl
call_meant def (call.Sum name) none =
    let both = both_none (column_fault def name) (sum_fault def (call.Sum name)) none in
    and_from _ _ (named def name both.0) (has_passed (call_fits def (call.Sum name)) TypeMismatch both.1)
call_meant def (call.Min name) none = and_from _ _ (named def name none) refl
call_meant def (call.Max name) none = and_from _ _ (named def name none) refl

calls_meant : (def : TableDef) (calls : List AggregateCall) → calls_fault def calls ≡ None → AllByRecursion (IsMeant def) calls
calls_meant def [] none = tt
calls_meant def (c ∷ calls) none = let both = both_none (call_fault def c) (calls_fault def calls) none in (call_meant def c both.0, calls_meant def calls both.1)

-- SCANS

-- a scan that has no fault asks for none that has one
pub calls_fit : (def : TableDef) (scan : Scan) (calls : List AggregateCall) → scan.items ≡ scanned.Aggregates calls → scan_fault def scan ≡ None → calls_fault def calls ≡ None
calls_fit def scan calls is none = sym (ap (items_fault def) is) ∙ (both_none (items_fault def scan.items) (option_or (key_fault def scan.order) (cond_fault def scan.cond)) none).0

pub found_suited : (changes : List Change) (table : Table) (cond : Option Cond) (calls : List AggregateCall) → AreOfTable changes table → calls_fault table.def calls ≡ None → AreSuited (map (aggregate_of table.def) calls) (found_rows changes table cond None)
found_suited changes table cond calls are none =
    let rows : AreRows table.def (seen changes table) = after_fits table.def changes table.rows are.rows are.changes in
    calls_suit table.def calls (found_rows changes table cond None) (calls_meant table.def calls none) (all_filter (FitsColumns table.def) (holds_on table.def cond) (seen changes table) rows.fit)
