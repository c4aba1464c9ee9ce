-- What is written at the links of the partitions, served by stores that hold the plain tables.
use Rattle.std.proofs.Common.{◌≡◌, ℕ, ◌==◌, ℤ, Bool, true, false, List, [], ◌∷◌, ◌++◌, set, Some, None, refl, sym, ◌∙◌, ap, subst, cond, find, flat_map, length}
use Rattle.std.specs.Prelude.{slice_get}
use Rattle.std.specs.List.{AllByRecursion, Contains, list_all}
use Rattle.std.specs.Cmp.Lexicographic.{nat_list_eq_equiv}
use Rattle.std.proofs.lemmas.Bool.{and_from}
use Rattle.std.proofs.lemmas.List.{append-nil, append_assoc}
use Rattle.sql_values.specs.declared.places.Xid.{Xid}
use Rattle.sql_values.specs.declared.table.TableDef.{TableDef}
use Rattle.sql_text.specs.declared.link.LinkAnswer.{LinkAnswer}
use Rattle.sql_text.specs.declared.link.LinkAnswer.TheVariants.{Done}
use Rattle.sql_text.specs.declared.link.LinkRequest.{LinkRequest}
use Rattle.sql_text.specs.declared.link.LinkRequest.TheVariants as request
use Rattle.catalog.specs.declared.tables.Table.{Table}
use Rattle.catalog.specs.Views.{View}
use Rattle.stmt_plan.specs.Inserts.{key_name}
use Rattle.plain_tables.specs.Rows.{Row, fits_columns, FitsColumns}
use Rattle.plain_tables.specs.Statements.{Writes, Puts, Dels}
use Rattle.plain_tables.proofs.Members.{at_front, behind}
use Rattle.branch_store.specs.declared.branch.Branch as backend
use Rattle.branch_store.specs.declared.branch.Change.{Change}
use Rattle.branch_store.specs.declared.branch.Change.TheVariants.{Put, Del}
use Rattle.branch_store.specs.declared.branch.Stage.TheVariants.{Active}
use Rattle.branch_store.specs.declared.fault.BranchFault.TheVariants.{NoColumn, TypeMismatch}
use Rattle.branch_store.specs.Changes.{has_key_in, is_called}
use Rattle.branch_store.specs.Faults.{key_fault, rows_fault}
use Rattle.branch_store.specs.Store.{Store, store_step, working, unless_fault, with_change, with_branches, add_change, count_seen}
use Rattle.branch_store.specs.Tables as stored
use Rattle.txn_phases.specs.declared.phase.Target.{Target}
use Rattle.txn_phases.specs.declared.requests.Ask.{Ask}
use Rattle.front_core.specs.declared.event.TxNo.{TxNo}
use Rattle.front_core.specs.Jobs.{branches_of, xid_at}
use Rattle.plain_sessions.specs.Exec.{Tables}
use Rattle.plain_sessions.specs.Held.{CanBeServed, tables_at}
use Rattle.phase_law.proofs.Lists.{is_itself, is_other}
use Rattle.phase_law.proofs.Noted.{AllDone}
use Rattle.phase_law.proofs.Scans.{active, is_owned, work_there}
use Rattle.phase_law.proofs.Stages.{stores_as, holding, branch_there, no_changes, Served}
use Rattle.phase_law.proofs.Targets.{IsLink, link_is_there, branch_of, target_branch, store_of, store_set}
use Rattle.phase_law.proofs.Writes.{request_of, requests_of, change_of, changes_at, FitsWrites}

-- the requests are served one after the other, and each is done
pub record AreDone (n : ℕ) (stores : List Store) (asks : List Ask) (left : List Store) : Type 0 where
  pub answers : List LinkAnswer
  pub served : Served n stores asks answers left
  pub done : AllDone answers

-- ONE REQUEST

-- it is done, and then the only branch, which is this connection's, has one more change
abbrev AddsChange : List stored.Table → Xid → ℕ → List Change → LinkRequest → Change → Type 0
AddsChange tables xid n changes asked change =
    (count : ℕ) × (◌≡◌ {A = Store × LinkAnswer} (store_step (record { tables = tables; branches = active xid n changes ∷ [] }) n asked) (record { tables = tables; branches = active xid n (changes ++ change ∷ []) ∷ [] }, Done count))

all_rows : (def : TableDef) (rows : List Row) → AllByRecursion (FitsColumns def) rows → list_all (fits_columns def) rows ≡ true
all_rows def [] all = refl
all_rows def (row ∷ rows) all = and_from _ _ all.0 (all_rows def rows all.1)

rows_fit : (def : TableDef) (rows : List Row) → AllByRecursion (FitsColumns def) rows → rows_fault def rows ≡ None
rows_fit def rows all = ap (λ b. cond b None (Some TypeMismatch)) (all_rows def rows all)

-- rows of the table are put
put_there : (tables : List stored.Table) (xid : Xid) (n : ℕ) (changes : List Change) (name : List ℕ) (rows : List Row) (table : stored.Table) → find (λ (u : stored.Table). is_called name u.def) tables ≡ Some table
    → AllByRecursion (FitsColumns table.def) rows → AddsChange tables xid n changes (request.Put name rows) (Put name rows)
put_there tables xid n changes name rows table there fit =
    let store : Store = record { tables = tables; branches = active xid n changes ∷ [] } in
    let act : List Change → stored.Table → Store × LinkAnswer = λ cs u. unless_fault store (rows_fault u.def rows) (with_change store n (Put name rows), Done (length rows)) in (
      length rows,
      ap (λ w. working store w act) (work_there tables xid n changes name table there)
          ∙ (ap (λ f. unless_fault store f (with_change store n (Put name rows), Done (length rows))) (rows_fit table.def rows fit)
          ∙ ap (λ b. (with_branches store (cond b (add_change (Put name rows) (active xid n changes) ∷ []) (active xid n changes ∷ [])), Done (length rows))) (is_owned xid n changes)),
    )

-- rows go by their keys, where the key column has its name
del_there : (tables : List stored.Table) (xid : Xid) (n : ℕ) (changes : List Change) (name key : List ℕ) (keys : List ℤ) (table : stored.Table) → find (λ (u : stored.Table). is_called name u.def) tables ≡ Some table
    → key_fault table.def (Some key) ≡ None → AddsChange tables xid n changes (request.Del name key keys) (Del name keys)
del_there tables xid n changes name key keys table there named =
    let store : Store = record { tables = tables; branches = active xid n changes ∷ [] } in
    let act : List Change → stored.Table → Store × LinkAnswer = λ cs u. unless_fault store (key_fault u.def (Some key)) (with_change store n (Del name keys), Done (count_seen cs u (has_key_in u.def keys))) in
    let count : ℕ = count_seen changes table (has_key_in table.def keys) in (
      count,
      ap (λ w. working store w act) (work_there tables xid n changes name table there)
          ∙ (ap (λ f. unless_fault store f (with_change store n (Del name keys), Done count)) named
          ∙ ap (λ b. (with_branches store (cond b (add_change (Del name keys) (active xid n changes) ∷ []) (active xid n changes ∷ [])), Done count)) (is_owned xid n changes)),
    )

-- under each name of the table
key_is_named : (def : TableDef) (name : List ℕ) → key_fault (record def { name = name }) (Some (key_name def)) ≡ None
key_is_named def name = ap (λ b. cond b None (Some (NoColumn (key_name def)))) (nat_list_eq_equiv.refl (key_name def))

-- ALL REQUESTS

module _ (catalog : View) (tables : Tables) (tx : TxNo) (n number : ℕ) (table : Table) (targets : List Target) (w : ℕ → Writes)
    (served : CanBeServed catalog) (at : slice_get catalog.tables number ≡ Some table) (links : (t : Target) → Contains targets t → IsLink table.parts t)
    (fit : (p : ℕ) → FitsWrites table.def (w p)) where
  -- the stores while the transaction is open, with these changes
  abbrev changed_stores : (ℕ → List Change) → List Store
  changed_stores changes = stores_as (length catalog.servers) (tables_at catalog tables) (holding n (branches_of catalog tx targets) Active changes)

  -- so many changes more at the server of a link
  abbrev more_at : Target → List Change → (ℕ → List Change) → ℕ → List Change
  more_at t more changes s = changes s ++ cond (t.server == s) more []

  abbrev with_all : (ℕ → List Change) → List Target → ℕ → List Change
  with_all changes asked s = changes s ++ changes_at asked w s

  -- the requests of these links
  abbrev asks_of : List Target → List Ask
  asks_of asked = requests_of (key_name table.def) asked w

  -- at the server of a link, among the changes that its branch has
  abbrev AddsThere : Target → (ℕ → List Change) → LinkRequest → Change → Type 0
  AddsThere t changes asked change = AddsChange (tables_at catalog tables t.server) (xid_at catalog tx t.server) n (changes t.server) asked change

  -- a request of a link is done there
  one_write : (t : Target) (asked : LinkRequest) (change : Change) (changes : ℕ → List Change) → Contains targets t → AddsThere t changes asked change →
      (store : Store) × (after : Store) × (count : ℕ) × (slice_get (changed_stores changes) t.server ≡ Some store) × (◌≡◌ {A = Store × LinkAnswer} (store_step store n asked) (after, Done count))
      × (set (changed_stores changes) t.server after ≡ changed_stores (more_at t (change ∷ []) changes))
  one_write t asked change changes here adds =
      let there = link_is_there catalog tables number table t served at (links t here) in
      let bs : List backend.Branch = holding n (branches_of catalog tx targets) Active changes t.server in
      let with_these : List backend.Branch → Store = λ bs. record { tables = tables_at catalog tables t.server; branches = bs } in
      let more : ℕ → List Change = more_at t (change ∷ []) changes in
      let now : List Change = changes t.server ++ change ∷ [] in
      let one : bs ≡ branch_of catalog tx n Active (changes t.server) t.server ∷ [] = target_branch catalog tx targets n Active changes t here there.within in
      let step : ◌≡◌ {A = Store × LinkAnswer} (store_step (with_these bs) n asked) (with_these (branch_of catalog tx n Active now t.server ∷ []), Done adds.0) =
      subst (λ cs. ◌≡◌ {A = Store × LinkAnswer} (store_step (with_these cs) n asked) (with_these (branch_of catalog tx n Active now t.server ∷ []), Done adds.0)) (sym one) adds.1 in
      let added : more t.server ≡ now = ap (λ b. changes t.server ++ cond b (change ∷ []) []) (is_itself t.server) in
      let after_it : holding n (branches_of catalog tx targets) Active more t.server ≡ branch_of catalog tx n Active now t.server ∷ [] =
      target_branch catalog tx targets n Active more t here there.within ∙ ap (λ cs. branch_of catalog tx n Active cs t.server ∷ []) added in
      let apart : (k : ℕ) → (k ≡ t.server → ⊥) → holding n (branches_of catalog tx targets) Active more k ≡ holding n (branches_of catalog tx targets) Active changes k = λ k not.
      let other : (t.server == k) ≡ false = is_other t.server k (λ same. not (sym same)) in
      let same : more k ≡ changes k = ap (λ b. changes k ++ cond b (change ∷ []) []) other ∙ append-nil (changes k) in
      ap (λ cs. flat_map (branch_there n Active cs k) (branches_of catalog tx targets)) same in (
        with_these bs,
        with_these (branch_of catalog tx n Active now t.server ∷ []),
        adds.0,
        store_of (length catalog.servers) (tables_at catalog tables) (holding n (branches_of catalog tx targets) Active changes) t.server there.within,
        step,
        store_set (length catalog.servers) (tables_at catalog tables) (holding n (branches_of catalog tx targets) Active changes) (holding n (branches_of catalog tx targets) Active more) t.server
            (branch_of catalog tx n Active now t.server ∷ []) there.within after_it apart,
      )

  -- and others after it
  then_more : (t : Target) (asked : LinkRequest) (change : Change) (asks : List Ask) (changes : ℕ → List Change) (left : List Store) → Contains targets t → AddsThere t changes asked change
      → AreDone n (changed_stores (more_at t (change ∷ []) changes)) asks left → AreDone n (changed_stores changes) (record { server = t.server; request = asked } ∷ asks) left
  then_more t asked change asks changes left here adds rest =
      let one = one_write t asked change changes here adds in
      record {
        answers = Done one.2 ∷ rest.answers;
        served = (one.0, one.1, one.3, one.4, subst (λ stores. Served n stores asks rest.answers left) (sym one.5) rest.served);
        done = (refl, rest.done);
      }

  -- changes that are the same at each server
  alike : (one other : ℕ → List Change) → ((s : ℕ) → one s ≡ other s) → one ≡ other
  alike one other same = λ i s. same s i

  none_by : (b : Bool) → cond {A = List Change} b [] [] ≡ []
  none_by true = refl
  none_by false = refl

  -- for the links after the first, whatever was changed before
  abbrev Later : List Target → Type 0
  Later asked = (before : ℕ → List Change) → AreDone n (changed_stores before) (asks_of asked) (changed_stores (with_all before asked))

  -- nothing is written at a link
  no_request : (t : Target) (asked : List Target) (changes : ℕ → List Change) → Later asked
      → AreDone n (changed_stores changes) (asks_of asked) (changed_stores (λ s. changes s ++ (cond {A = List Change} (t.server == s) [] [] ++ changes_at asked w s)))
  no_request t asked changes later =
      let all : ℕ → List Change = λ s. changes s ++ (cond {A = List Change} (t.server == s) [] [] ++ changes_at asked w s) in
      let same : with_all changes asked ≡ all = alike (with_all changes asked) all (λ s. ap (λ l. changes s ++ (l ++ changes_at asked w s)) (sym (none_by (t.server == s)))) in
      subst (λ cs. AreDone n (changed_stores changes) (asks_of asked) (changed_stores cs)) same (later changes)

  -- or one change is made
  one_request : (t : Target) (asked_of : LinkRequest) (change : Change) (asked : List Target) (changes : ℕ → List Change) → Contains targets t → AddsThere t changes asked_of change → Later asked
      → AreDone n (changed_stores changes) (record { server = t.server; request = asked_of } ∷ asks_of asked) (changed_stores (λ s. changes s ++ (cond (t.server == s) (change ∷ []) [] ++ changes_at asked w s)))
  one_request t asked_of change asked changes here adds later =
      let more : ℕ → List Change = more_at t (change ∷ []) changes in
      let all : ℕ → List Change = λ s. changes s ++ (cond (t.server == s) (change ∷ []) [] ++ changes_at asked w s) in
      let same : with_all more asked ≡ all = alike (with_all more asked) all (λ s. append_assoc (changes s) (cond (t.server == s) (change ∷ []) []) (changes_at asked w s)) in
      then_more t asked_of change (asks_of asked) changes (changed_stores all) here adds (subst (λ cs. AreDone n (changed_stores more) (asks_of asked) (changed_stores cs)) same (later more))

  first_write : (t : Target) (asked : List Target) (changes : ℕ → List Change) (v : Writes) → Contains targets t → FitsWrites table.def v → Later asked
      → AreDone n (changed_stores changes) (request_of (key_name table.def) t v ++ asks_of asked) (changed_stores (λ s. changes s ++ (cond (t.server == s) (change_of t v) [] ++ changes_at asked w s)))
  first_write t asked changes (Puts []) here fits later = no_request t asked changes later
  first_write t asked changes (Puts (row ∷ rows)) here fits later =
      let there = link_is_there catalog tables number table t served at (links t here) in
      one_request t (request.Put t.remote (row ∷ rows)) (Put t.remote (row ∷ rows)) asked changes here
      (put_there (tables_at catalog tables t.server) (xid_at catalog tx t.server) n (changes t.server) t.remote (row ∷ rows) _ there.found fits) later
  first_write t asked changes (Dels []) here fits later = no_request t asked changes later
  first_write t asked changes (Dels (k ∷ keys)) here fits later =
      let there = link_is_there catalog tables number table t served at (links t here) in
      one_request t (request.Del t.remote (key_name table.def) (k ∷ keys)) (Del t.remote (k ∷ keys)) asked changes here
      (del_there (tables_at catalog tables t.server) (xid_at catalog tx t.server) n (changes t.server) t.remote (key_name table.def) (k ∷ keys) _ there.found (key_is_named table.def t.remote)) later

  writes_from : (asked : List Target) → ((t : Target) → Contains asked t → Contains targets t) → Later asked
  writes_from [] among changes = record { answers = []; served = ap changed_stores (alike (with_all changes []) changes (λ s. append-nil (changes s))); done = tt }
  writes_from (t ∷ asked) among changes = first_write t asked changes (w t.part) (among t (at_front t asked)) (fit t.part) (writes_from asked (λ u c. among u (behind t u asked c)))

  -- each link gets what is written in its partition, and then the branches have these changes
  pub writes_are_served : AreDone n (changed_stores no_changes) (asks_of targets) (changed_stores (changes_at targets w))
  writes_are_served = writes_from targets (λ t c. c) no_changes
