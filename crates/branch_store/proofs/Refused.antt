-- What is refused changes nothing.
use Rattle.std.proofs.Common.{◌≡◌, ℕ, List, Option, Some, None, Result, Ok, Err, refl}
use Rattle.sql_values.specs.declared.table.TableDef.{TableDef}
use Rattle.sql_text.specs.declared.link.LinkAnswer.{LinkAnswer}
use Rattle.sql_text.specs.declared.link.LinkAnswer.TheVariants.{Done, Xids, Refused}
use Rattle.sql_text.specs.declared.link.LinkRequest.TheVariants.{Start, End, Prepare, Commit, Rollback, Recover, Scan, Put, Del, Clear}
use Rattle.sql_text.specs.declared.link.ScanItems.{ScanItems}
use Rattle.sql_text.specs.declared.link.ScanItems.TheVariants as items
use Rattle.plain_tables.specs.Rows.{Row}
use Rattle.plain_tables.specs.Scans.{answer_of}
use Rattle.branch_store.specs.declared.branch.Change.{Change}
use Rattle.branch_store.specs.declared.fault.BranchFault.{BranchFault}
use Rattle.branch_store.specs.Faults.{start_fault, branch_fault, may_end, may_prepare, may_commit, may_roll_back, rows_fault, key_fault, scan_fault}
use Rattle.branch_store.specs.Laws.{RefusalsChangeNothing}
use Rattle.branch_store.specs.Store.{Store, found, unless_fault, working, work_on, living, own}
use Rattle.branch_store.specs.Tables.{Table}

module _ (number : ℕ) (message : List ℕ) where
  done_not : (count : ℕ) → Done count ≡ Refused number message → ⊥
  done_not count is = cc

  found_not : (def : TableDef) (asked : ScanItems) (limit : Option ℕ) (rows : List Row) → answer_of def asked limit rows ≡ Refused number message → ⊥
  found_not def items.All limit rows is = cc
  found_not def (items.Aggregates calls) limit rows is = cc

  xids_not : (xids : _) → Xids xids ≡ Refused number message → ⊥
  xids_not xids is = cc

  unless : (store : Store) (fault : Option BranchFault) (done : Store × LinkAnswer) → (done.1 ≡ Refused number message → ⊥) → (unless_fault store fault done).1 ≡ Refused number message → (unless_fault store fault done).0 ≡ store
  unless store (Some fault) done apart is = refl
  unless store None done apart is = absurd (apart is)

  at_work : (store : Store) (found : Result (List Change × Table) BranchFault) (act : List Change → Table → Store × LinkAnswer)
      → ((changes : List Change) (table : Table) → (act changes table).1 ≡ Refused number message → (act changes table).0 ≡ store) → (working store found act).1 ≡ Refused number message → (working store found act).0 ≡ store
  at_work store (Err fault) act keeps is = refl
  at_work store (Ok w) act keeps is = keeps w.0 w.1 is

pub refusals_change_nothing : RefusalsChangeNothing
refusals_change_nothing store conn (Start xid) n m is = unless n m store (start_fault (living store xid) (own store conn)) _ (done_not n m 0) is
refusals_change_nothing store conn (End xid) n m is = unless n m store (branch_fault (may_end conn) (living store xid)) _ (done_not n m 0) is
refusals_change_nothing store conn (Prepare xid) n m is = unless n m store (branch_fault (may_prepare conn) (living store xid)) _ (done_not n m 0) is
refusals_change_nothing store conn (Commit xid) n m is = unless n m store (branch_fault may_commit (living store xid)) _ (done_not n m 0) is
refusals_change_nothing store conn (Rollback xid) n m is = unless n m store (branch_fault (may_roll_back conn) (living store xid)) _ (done_not n m 0) is
refusals_change_nothing store conn Recover n m is = refl
refusals_change_nothing store conn (Scan scan) n m is =
    at_work n m store (work_on store conn scan.table) _ (λ changes table. unless n m store (scan_fault table.def scan) (store, found changes table scan) (found_not n m table.def scan.items scan.limit _)) is
refusals_change_nothing store conn (Put name rows) n m is =
    at_work n m store (work_on store conn name) _ (λ changes table. unless n m store (rows_fault table.def rows) _ (done_not n m _)) is
refusals_change_nothing store conn (Del name key keys) n m is =
    at_work n m store (work_on store conn name) _ (λ changes table. unless n m store (key_fault table.def (Some key)) _ (done_not n m _)) is
refusals_change_nothing store conn (Clear name key low high) n m is =
    at_work n m store (work_on store conn name) _ (λ changes table. unless n m store (key_fault table.def (Some key)) _ (done_not n m _)) is
