-- The scans of a statement, served by stores that hold the plain tables.
use Rattle.std.proofs.Common.{◌≡◌, ℕ, ◌&&◌, true, List, [], ◌∷◌, map, set, Option, Some, None, Ok, refl, sym, ◌∙◌, ap, subst, cond, find, length}
use Rattle.std.specs.Prelude.{slice_get}
use Rattle.std.specs.List.{Contains}
use Rattle.sql_values.specs.declared.places.Xid.{Xid}
use Rattle.sql_values.specs.declared.table.TableDef.{TableDef}
use Rattle.sql_text.specs.declared.link.LinkAnswer.{LinkAnswer}
use Rattle.sql_text.specs.declared.link.Scan.{Scan}
use Rattle.catalog.specs.declared.tables.Table.{Table}
use Rattle.catalog.specs.Views.{View}
use Rattle.plain_tables.specs.Partitions.{rows_in}
use Rattle.plain_tables.specs.Rows.{Row}
use Rattle.plain_tables.specs.Scans.{answered}
use Rattle.plain_tables.proofs.Members.{at_front, behind}
use Rattle.branch_store.specs.declared.branch.Branch as backend
use Rattle.branch_store.specs.declared.branch.Change.{Change}
use Rattle.branch_store.specs.declared.branch.Stage.TheVariants.{Active}
use Rattle.branch_store.specs.Changes.{is_called}
use Rattle.branch_store.specs.Faults.{is_own, scan_fault}
use Rattle.branch_store.specs.Store.{Store, store_step, work_on, working, and_table, own_changes, unless_fault, found}
use Rattle.branch_store.specs.Tables as stored
use Rattle.txn_phases.specs.declared.job.TableScan.{TableScan}
use Rattle.txn_phases.specs.declared.phase.Target.{Target}
use Rattle.txn_phases.specs.Phases.{order_of, scan_of, scans_of}
use Rattle.front_core.specs.declared.event.TxNo.{TxNo}
use Rattle.front_core.specs.Jobs.{branches_of, xid_at}
use Rattle.plain_sessions.specs.Exec.{Tables}
use Rattle.plain_sessions.specs.Held.{CanBeServed, tables_at}
use Rattle.phase_law.proofs.Lists.{is_itself, set_same}
use Rattle.phase_law.proofs.Stages.{stores_as, holding, no_changes, Served}
use Rattle.phase_law.proofs.Targets.{IsLink, link_is_there, branch_of, target_branch, store_of}

-- ONE BRANCH, OF THIS CONNECTION

abbrev pub active : Xid → ℕ → List Change → backend.Branch
active xid n changes = record { xid = xid; stage = Active; owner = n; changes = changes }

pub is_owned : (xid : Xid) (n : ℕ) (changes : List Change) → is_own n (active xid n changes) ≡ true
is_owned xid n changes = ap (λ b. b && true) (is_itself n)

-- the work of a request there
pub work_there : (tables : List stored.Table) (xid : Xid) (n : ℕ) (changes : List Change) (name : List ℕ) (table : stored.Table) → find (λ (t : stored.Table). is_called name t.def) tables ≡ Some table
    → work_on (record { tables = tables; branches = active xid n changes ∷ [] }) n name ≡ Ok (changes, table)
work_there tables xid n changes name table there =
    ap (λ b. and_table name (find (λ (t : stored.Table). is_called name t.def) tables) (own_changes (cond b (Some (active xid n changes)) None))) (is_owned xid n changes)
    ∙ ap (λ o. and_table name o (Ok changes)) there

-- the scan that a link is asked for
abbrev pub asked_of : TableScan → Target → Scan
asked_of scan t = record { table = t.remote; items = scan.items; cond = scan.cond; order = order_of scan.items scan.key; limit = scan.limit; lock = scan.lock }

-- a scan that fits its table is answered by what it asks of its rows
pub scan_there : (tables : List stored.Table) (xid : Xid) (n : ℕ) (scan : TableScan) (t : Target) (table : stored.Table) → find (λ (u : stored.Table). is_called t.remote u.def) tables ≡ Some table
    → scan_fault table.def (asked_of scan t) ≡ None
    → store_step (record { tables = tables; branches = active xid n [] ∷ [] }) n (scan_of scan t) ≡ (record { tables = tables; branches = active xid n [] ∷ [] }, answered table.def scan.items scan.cond scan.limit table.rows)
scan_there tables xid n scan t table there fits =
    let store : Store = record { tables = tables; branches = active xid n [] ∷ [] } in
    let asked : Scan = asked_of scan t in
    let act : List Change → stored.Table → Store × LinkAnswer = λ changes u. unless_fault store (scan_fault u.def asked) (store, found changes u asked) in
    ap (λ w. working store w act) (work_there tables xid n [] t.remote table there)
    ∙ ap (λ f. unless_fault store f (store, found [] table asked)) fits

-- ALL SCANS

-- what the scan of a link asks, of that link's table
abbrev pub FitsScan : Table → TableScan → Target → Type 0
FitsScan table scan t = scan_fault (record table.def { name = t.remote }) (asked_of scan t) ≡ None

-- what a scan is answered of these rows
abbrev pub found_of : TableDef → TableScan → List Row → LinkAnswer
found_of def scan rows = answered def scan.items scan.cond scan.limit rows

-- the answer of a link is what the scan asks of its partition's rows
abbrev pub scanned : Table → Tables → ℕ → TableScan → Target → LinkAnswer
scanned table tables number scan t = found_of table.def scan (rows_in table.def table.rule t.part (tables number))

-- what a scan is answered is the same under each name of the table
abbrev pub FindsAlike : Table → TableScan → Target → Type 0
FindsAlike table scan t = (rows : List Row) → found_of (record table.def { name = t.remote }) scan rows ≡ found_of table.def scan rows

module _ (catalog : View) (tables : Tables) (tx : TxNo) (n number : ℕ) (table : Table) (targets : List Target) (scan : TableScan)
    (served : CanBeServed catalog) (at : slice_get catalog.tables number ≡ Some table) (links : (t : Target) → Contains targets t → IsLink table.parts t)
    (fits : (t : Target) → Contains targets t → FitsScan table scan t) (alike : (t : Target) → Contains targets t → FindsAlike table scan t) where
  -- the stores while the transaction is open and has changed nothing
  abbrev open_stores : List Store
  open_stores = stores_as (length catalog.servers) (tables_at catalog tables) (holding n (branches_of catalog tx targets) Active no_changes)

  scans_from : (asked : List Target) → ((t : Target) → Contains asked t → Contains targets t) → Served n open_stores (scans_of scan asked) (map (scanned table tables number scan) asked) open_stores
  scans_from [] among = refl
  scans_from (t ∷ asked) among =
      let here : Contains targets t = among t (at_front t asked) in
      let there = link_is_there catalog tables number table t served at (links t here) in
      let open_there : List backend.Branch = holding n (branches_of catalog tx targets) Active no_changes t.server in
      let store : Store = record { tables = tables_at catalog tables t.server; branches = open_there } in
      let one : open_there ≡ branch_of catalog tx n Active [] t.server ∷ [] = target_branch catalog tx targets n Active no_changes t here there.within in
      let stands : slice_get open_stores t.server ≡ Some store = store_of (length catalog.servers) (tables_at catalog tables) (holding n (branches_of catalog tx targets) Active no_changes) t.server there.within in
      let with_one : List backend.Branch → Store = λ bs. record { tables = tables_at catalog tables t.server; branches = bs } in
      let step : store_step store n (scan_of scan t) ≡ (store, scanned table tables number scan t) =
      subst (λ bs. store_step (with_one bs) n (scan_of scan t) ≡ (with_one bs, scanned table tables number scan t)) (sym one)
      (scan_there (tables_at catalog tables t.server) (xid_at catalog tx t.server) n scan t _ there.found (fits t here)
      ∙ ap (λ a. (with_one (branch_of catalog tx n Active [] t.server ∷ []), a)) (alike t here (rows_in table.def table.rule t.part (tables number)))) in
      let kept_stores : set open_stores t.server store ≡ open_stores = set_same open_stores t.server store stands in
      (store, store, stands, step, subst (λ stores. Served n stores (scans_of scan asked) (map (scanned table tables number scan) asked) open_stores) (sym kept_stores) (scans_from asked (λ u c. among u (behind t u asked c))))

  -- each scan is answered by what it asks of its partition's rows, and nothing has changed
  pub scans_are_served : Served n open_stores (scans_of scan targets) (map (scanned table tables number scan) targets) open_stores
  scans_are_served = scans_from targets (λ t c. c)
