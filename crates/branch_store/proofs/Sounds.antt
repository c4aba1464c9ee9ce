-- Each row stays one of its table.
use Rattle.std.proofs.Common.{◌≡◌, ℕ, ◌==◌, nat_eq, arith, Bool, true, false, not, ◌&&◌, ◌||◌, List, [], ◌∷◌, ◌++◌, map, take, zero, suc, Option, Some, None, Result, Ok, Err, refl, sym, ◌∙◌, ap, subst, inl, inr, cond, length}
use Rattle.std.specs.Prelude.{IfSome}
use Rattle.std.specs.List.{AllByRecursion, Contains, filter, find, list_all, list_any}
use Rattle.std.specs.Cmp.Lexicographic.{pointwise, nat_list_eq_equiv}
use Rattle.std.specs.List.Sorted.{IsStrictlySortedBy}
use Rattle.std.proofs.lemmas.Bool.{and_from, false≢true}
use Rattle.std.proofs.lemmas.Bool.Decides.{nat_tests}
use Rattle.std.proofs.lemmas.List.{length-map}
use Rattle.std.proofs.lemmas.List.Elements.{Contains-append_cases}
use Rattle.std.proofs.lemmas.List.Kept.{IsStrictlySortedBy-filter}
use Rattle.sql_values.specs.declared.table.TableDef.{TableDef}
use Rattle.sql_values.specs.declared.tree.Cond.{Cond}
use Rattle.sql_text.specs.declared.link.LinkAnswer.{LinkAnswer}
use Rattle.sql_text.specs.declared.link.LinkAnswer.TheVariants.{Cells, Done}
use Rattle.sql_text.specs.declared.link.LinkRequest.TheVariants as request
use Rattle.sql_text.specs.declared.link.Scan.{Scan}
use Rattle.sql_text.specs.declared.link.ScanItems.{ScanItems}
use Rattle.sql_text.specs.declared.link.ScanItems.TheVariants as items
use Rattle.front_rows.specs.Aggregates.{cells_over}
use Rattle.front_rows.specs.Cells.{Cell}
use Rattle.stmt_plan.specs.Selects.{aggregate_of}
use Rattle.plain_tables.specs.Inserts.{put, put_all}
use Rattle.plain_tables.specs.Rows.{Row, by_key, holds_on, kept, FitsColumns, fits_columns}
use Rattle.plain_tables.specs.Scans.{answer_of, first_rows}
use Rattle.plain_tables.proofs.Inserted.{put_rises, in_put}
use Rattle.plain_tables.proofs.Members.{all_of, all_by, kept_passes}
use Rattle.branch_store.specs.declared.branch.Branch.{Branch}
use Rattle.branch_store.specs.declared.branch.Change.{Change}
use Rattle.branch_store.specs.declared.branch.Change.TheVariants.{Put, Del, Clear}
use Rattle.branch_store.specs.declared.branch.Stage.{Stage}
use Rattle.branch_store.specs.declared.branch.Stage.TheVariants.{Active, Ended, Prepared}
use Rattle.branch_store.specs.declared.fault.BranchFault.{BranchFault}
use Rattle.branch_store.specs.declared.fault.BranchFault.TheVariants.{NoSuchBranch, WrongState, Duplicate, NoTable, NoColumn, TypeMismatch}
use Rattle.branch_store.specs.Changes.{after, changed, has_key_in, has_key_from, is_called, without}
use Rattle.branch_store.specs.Answers.{refusal}
use Rattle.branch_store.specs.Faults.{has_xid, is_own, start_fault, branch_fault, rows_fault, key_fault, scan_fault, may_end, may_prepare, may_commit, may_roll_back}
use Rattle.branch_store.specs.Lists.{changed_first, without_first}
use Rattle.branch_store.specs.Opening.{are_apart, are_tables, is_definition, empty_table, empty_tables}
use Rattle.branch_store.specs.Scanning.{AreOfTable}
use Rattle.branch_store.specs.Sound.{AreRows, FitsTable, FitsTables, definition, IsSound, StepsKeepRows, HangupsKeepRows, AnswersHaveForm, are_rows_of, cells_form, rows_form, scan_form, done_form}
use Rattle.branch_store.specs.Store.{Store, own, living, working, work_on, with_table, and_table, own_changes, active_changes, table_called, unless_fault, with_branches, with_change, add_change, at_stage, changed_table, changes_of, seen, found, found_rows, new_branch}
use Rattle.branch_store.specs.Tables.{Table}

-- LISTS

module _ {X : Type 0} (P : X → Type 0) where
  pub all_filter : (p : X → Bool) (xs : List X) → AllByRecursion P xs → AllByRecursion P (filter p xs)
  all_filter p xs all = all_by P (filter p xs) (λ z c. all_of P xs z all (kept_passes p xs z c).0)

  all_append : (xs ys : List X) → AllByRecursion P xs → AllByRecursion P ys → AllByRecursion P (xs ++ ys)
  all_append xs ys left right = all_by P (xs ++ ys) (λ z c. elim (Contains-append_cases xs ys z c) [ inl early ↦ all_of P xs z left early | inr late ↦ all_of P ys z right late ])

  all_take : (n : ℕ) (xs : List X) → AllByRecursion P xs → AllByRecursion P (take n xs)
  all_take zero xs all = tt
  all_take (suc n) [] all = tt
  all_take (suc n) (x ∷ xs) all = (all.0, all_take n xs all.1)

  changed_by : (f : X → X) (x : X) (xs rest : List X) (b : Bool) → P (f x) → P x → AllByRecursion P xs → AllByRecursion P rest → AllByRecursion P (cond b (f x ∷ xs) (x ∷ rest))
  changed_by f x xs rest true here was all more = (here, all)
  changed_by f x xs rest false here was all more = (was, more)

  all_changed : (p : X → Bool) (f : X → X) → ((x : X) → P x → P (f x)) → (xs : List X) → AllByRecursion P xs → AllByRecursion P (changed_first p f xs)
  all_changed p f keeps [] all = tt
  all_changed p f keeps (x ∷ xs) all = changed_by f x xs (changed_first p f xs) (p x) (keeps x all.0) all.0 all.1 (all_changed p f keeps xs all.1)

  left_by : (x : X) (xs rest : List X) (b : Bool) → P x → AllByRecursion P xs → AllByRecursion P rest → AllByRecursion P (cond b xs (x ∷ rest))
  left_by x xs rest true was all more = all
  left_by x xs rest false was all more = (was, more)

  all_without : (p : X → Bool) (xs : List X) → AllByRecursion P xs → AllByRecursion P (without_first p xs)
  all_without p [] all = tt
  all_without p (x ∷ xs) all = left_by x xs (without_first p xs) (p x) all.0 all.1 (all_without p xs all.1)

  found_by : (x : X) (rest : Option X) (b : Bool) → P x → IfSome rest P → IfSome (cond b (Some x) rest) P
  found_by x rest true here later = here
  found_by x rest false here later = later

  all_found : (p : X → Bool) (xs : List X) → AllByRecursion P xs → IfSome (find p xs) P
  all_found p [] all = tt
  all_found p (x ∷ xs) all = found_by x (find p xs) (p x) all.0 (all_found p xs all.1)

all_mapped : {X Y : Type 0} (P : X → Type 0) (Q : Y → Type 0) (f : X → Y) → ((x : X) → P x → Q (f x)) → (xs : List X) → AllByRecursion P xs → AllByRecursion Q (map f xs)
all_mapped P Q f gives [] all = tt
all_mapped P Q f gives (x ∷ xs) all = (gives x all.0, all_mapped P Q f gives xs all.1)

pub both_of : (a b : Bool) → (a && b) ≡ true → (a ≡ true) × (b ≡ true)
both_of true b is = (refl, is)
both_of false b is = absurd (false≢true is)

neither_of : (a b : Bool) → not (a || b) ≡ true → (a ≡ false) × (not b ≡ true)
neither_of true b is = absurd (false≢true is)
neither_of false b is = (refl, is)

rows_all : {X : Type 0} (p : X → Bool) (xs : List X) → list_all p xs ≡ true → AllByRecursion (λ x. p x ≡ true) xs
rows_all p [] is = tt
rows_all p (x ∷ xs) is = let each = both_of (p x) (list_all p xs) is in (each.0, rows_all p xs each.1)

all_rows : {X : Type 0} (p : X → Bool) (xs : List X) → AllByRecursion (λ x. p x ≡ true) xs → list_all p xs ≡ true
all_rows p [] all = refl
all_rows p (x ∷ xs) all = ap (λ b. b && list_all p xs) all.0 ∙ all_rows p xs all.1

-- ROWS

module _ (def : TableDef) where
  put_fits : (rows : List Row) (row : Row) → AllByRecursion (FitsColumns def) rows → FitsColumns def row → AllByRecursion (FitsColumns def) (put def rows row)
  put_fits rows row all here = all_by (FitsColumns def) (put def rows row) (λ z c. elim (in_put def rows row z c) [ inl same ↦ subst (FitsColumns def) same here | inr old ↦ all_of (FitsColumns def) rows z all old.0 ])

  put_all_fit : (news rows : List Row) → AreRows def rows → AllByRecursion (FitsColumns def) news → AreRows def (put_all def rows news)
  unfolding put_all
  put_all_fit [] rows are all = are
  put_all_fit (row ∷ news) rows are all = put_all_fit news (put def rows row) (record { rises = put_rises def rows row are.rises; fit = put_fits rows row are.fit all.0 }) all.1

  without_fit : (test : Row → Bool) (rows : List Row) → AreRows def rows → AreRows def (without test rows)
  without_fit test rows are = record { rises = IsStrictlySortedBy-filter (by_key def) (λ row. not (test row)) rows are.rises; fit = all_filter (FitsColumns def) (λ row. not (test row)) rows are.fit }

  either_fit : (rows news : List Row) (b : Bool) → (b ≡ true → AreRows def news) → AreRows def rows → AreRows def (cond b news rows)
  either_fit rows news true new old = new refl
  either_fit rows news false new old = old

  change_fits : (change : Change) (rows : List Row) → AreRows def rows → FitsTable change def → AreRows def (changed def rows change)
  change_fits (Put name news) rows are fit = either_fit rows (put_all def rows news) (is_called name def) (λ called. put_all_fit news rows are (fit called)) are
  change_fits (Del name keys) rows are fit = either_fit rows (without (has_key_in def keys) rows) (is_called name def) (λ called. without_fit (has_key_in def keys) rows are) are
  change_fits (Clear name low high) rows are fit = either_fit rows (without (has_key_from def low high) rows) (is_called name def) (λ called. without_fit (has_key_from def low high) rows are) are

  pub after_fits : (changes : List Change) (rows : List Row) → AreRows def rows → AllByRecursion (λ change. FitsTable change def) changes → AreRows def (after def changes rows)
  after_fits [] rows are all = are
  after_fits (change ∷ changes) rows are all = after_fits changes (changed def rows change) (change_fits change rows are all.0) all.1

-- TABLES

module _ (defs : List TableDef) where
  -- changes that fit all tables fit each
  fit_one : (def : TableDef) → Contains defs def → (changes : List Change) → AllByRecursion (FitsTables defs) changes → AllByRecursion (λ change. FitsTable change def) changes
  fit_one def at [] all = tt
  fit_one def at (change ∷ changes) all = (all_of (FitsTable change) defs def all.0 at, fit_one def at changes all.1)

tables_fit : (changes : List Change) (tables : List Table) → AllByRecursion (λ (table : Table). AreRows table.def table.rows) tables
    → AllByRecursion (λ def. AllByRecursion (λ change. FitsTable change def) changes) (map definition tables) → AllByRecursion (λ (table : Table). AreRows table.def table.rows) (map (changed_table changes) tables)
tables_fit changes [] are fit = tt
tables_fit changes (table ∷ tables) are fit = (after_fits table.def changes table.rows are.0 fit.0, tables_fit changes tables are.1 fit.1)

same_definitions : (changes : List Change) (tables : List Table) → map definition (map (changed_table changes) tables) ≡ map definition tables
same_definitions changes [] = refl
same_definitions changes (table ∷ tables) = ap (λ (l : List TableDef). table.def ∷ l) (same_definitions changes tables)

still_definitions : (changes : List Change) (tables : List Table) → AllByRecursion (λ (table : Table). is_definition table.def ≡ true) tables → AllByRecursion (λ (table : Table). is_definition table.def ≡ true) (map (changed_table changes) tables)
still_definitions changes [] all = tt
still_definitions changes (table ∷ tables) all = (all.0, still_definitions changes tables all.1)

-- a later table has another name
later_differs : (name : List ℕ) (first : TableDef) (defs : List TableDef) (rows : List Row) → is_called name first ≡ true → not (list_any (is_called first.name) defs) ≡ true → FitsTables defs (Put name rows)
later_differs name first [] rows called apart = tt
later_differs name first (def ∷ defs) rows called apart =
    let each = neither_of (is_called first.name def) (list_any (is_called first.name) defs) apart in (
      (λ also.
          let meets : pointwise nat_eq first.name def.name ≡ true = nat_list_eq_equiv.congr first.name name def.name called ∙ (nat_list_eq_equiv.symm name def.name ∙ also) in
          absurd (false≢true (sym each.0 ∙ (nat_list_eq_equiv.symm def.name first.name ∙ meets)))),
      later_differs name first defs rows called each.1,
    )

-- rows that fit the first table of a name fit each table of the name
put_fits_by : (name : List ℕ) (rows : List Row) (table : Table) (tables : List Table) (rest : Option Table) (b : Bool) → is_called name table.def ≡ b → are_apart (map definition (table ∷ tables)) ≡ true
    → (are_rows_of rest rows ≡ true → FitsTables (map definition tables) (Put name rows)) → are_rows_of (cond b (Some table) rest) rows ≡ true → FitsTables (map definition (table ∷ tables)) (Put name rows)
put_fits_by name rows table tables rest true called apart later fit =
    let each = both_of (not (list_any (is_called table.def.name) (map definition tables))) (are_apart (map definition tables)) apart in
    ((λ also. rows_all (fits_columns table.def) rows fit), later_differs name table.def (map definition tables) rows called each.0)
put_fits_by name rows table tables rest false called apart later fit = ((λ also. absurd (false≢true (sym called ∙ also))), later fit)

put_fits_tables : (name : List ℕ) (rows : List Row) (tables : List Table) → are_apart (map definition tables) ≡ true → are_rows_of (find (λ (table : Table). is_called name table.def) tables) rows ≡ true → FitsTables (map definition tables) (Put name rows)
put_fits_tables name rows [] apart fit = tt
put_fits_tables name rows (table ∷ tables) apart fit =
    let each = both_of (not (list_any (is_called table.def.name) (map definition tables))) (are_apart (map definition tables)) apart in
    put_fits_by name rows table tables (find (λ (t : Table). is_called name t.def) tables) (is_called name table.def) refl apart (put_fits_tables name rows tables each.1) fit

del_fits : (name : List ℕ) (keys : _) (defs : List TableDef) → FitsTables defs (Del name keys)
del_fits name keys [] = tt
del_fits name keys (def ∷ defs) = (tt, del_fits name keys defs)

clear_fits : (name : List ℕ) (low high : _) (defs : List TableDef) → FitsTables defs (Clear name low high)
clear_fits name low high [] = tt
clear_fits name low high (def ∷ defs) = (tt, clear_fits name low high defs)

-- STEPS

abbrev FitBranch : List TableDef → Branch → Type 0
FitBranch defs branch = AllByRecursion (FitsTables defs) branch.changes

with_sound : (store : Store) (branches : List Branch) → IsSound store → AllByRecursion (FitBranch (map definition store.tables)) branches → IsSound (with_branches store branches)
with_sound store branches sound fit = record { apart = sound.apart; tables = sound.tables; rows = sound.rows; branches = fit }

unless_sound : (store : Store) (fault : Option BranchFault) (done : Store × LinkAnswer) → IsSound store → IsSound done.0 → IsSound (unless_fault store fault done).0
unless_sound store (Some fault) done sound after_it = sound
unless_sound store None done sound after_it = after_it

fit_changes : (defs : List TableDef) (branch : Option Branch) → IfSome branch (FitBranch defs) → AllByRecursion (FitsTables defs) (changes_of branch)
fit_changes defs None fit = tt
fit_changes defs (Some branch) fit = fit

commit_sound : (store : Store) (changes : List Change) (branches : List Branch) → IsSound store → AllByRecursion (FitsTables (map definition store.tables)) changes → AllByRecursion (FitBranch (map definition store.tables)) branches
    → IsSound (record { tables = map (changed_table changes) store.tables; branches = branches })
commit_sound store changes branches sound fit fits =
    let defs : List TableDef = map definition store.tables in
    let same : map definition (map (changed_table changes) store.tables) ≡ defs = same_definitions changes store.tables in
    record {
      apart = ap are_apart same ∙ sound.apart;
      tables = still_definitions changes store.tables sound.tables;
      rows = tables_fit changes store.tables sound.rows (all_by (λ def. AllByRecursion (λ change. FitsTable change def) changes) defs (λ def at. fit_one defs def at changes fit));
      branches = subst (λ (ds : List TableDef). AllByRecursion (FitBranch ds) branches) (sym same) fits;
    }

-- what is done in a branch, by what is found
active_by : (store : Store) (name : List ℕ) (table : Option Table) (changes : List Change) (stage : Stage) (act : List Change → Table → Store × LinkAnswer) (P : Store × LinkAnswer → Type 0)
    → ((fault : BranchFault) → P (store, refusal fault)) → ((t : Table) → table ≡ Some t → P (act changes t)) → P (working store (and_table name table (active_changes changes stage)) act)
active_by store name None changes Active act P refused done = refused (NoTable name)
active_by store name (Some t) changes Active act P refused done = done t refl
active_by store name table changes Ended act P refused done = refused (WrongState Ended)
active_by store name table changes Prepared act P refused done = refused (WrongState Prepared)

work_by : (store : Store) (name : List ℕ) (table : Option Table) (branch : Option Branch) (act : List Change → Table → Store × LinkAnswer) (P : Store × LinkAnswer → Type 0) (Q : Branch → Type 0) → IfSome branch Q
    → ((fault : BranchFault) → P (store, refusal fault)) → ((b : Branch) (t : Table) → Q b → table ≡ Some t → P (act b.changes t)) → P (working store (and_table name table (own_changes branch)) act)
work_by store name table None act P Q fit refused done = refused NoSuchBranch
work_by store name table (Some b) act P Q fit refused done = active_by store name table b.changes b.stage act P refused (λ t is. done b t fit is)

own_fits : (store : Store) (conn : ℕ) → IsSound store → IfSome (own store conn) (FitBranch (map definition store.tables))
own_fits store conn sound = all_found (FitBranch (map definition store.tables)) (is_own conn) store.branches sound.branches

change_sound : (store : Store) (conn : ℕ) (change : Change) → IsSound store → FitsTables (map definition store.tables) change → IsSound (with_change store conn change)
change_sound store conn change sound fit =
    let defs : List TableDef = map definition store.tables in
    with_sound store (changed_first (is_own conn) (add_change change) store.branches) sound
    (all_changed (FitBranch defs) (is_own conn) (add_change change) (λ branch fits. all_append (FitsTables defs) branch.changes (change ∷ []) fits (fit, tt)) store.branches sound.branches)

moved_sound : (store : Store) (may : Branch → Bool) (xid : _) (stage : Stage) → IsSound store → IsSound (with_branches store (changed_first (has_xid xid) (at_stage stage) store.branches))
moved_sound store may xid stage sound =
    with_sound store (changed_first (has_xid xid) (at_stage stage) store.branches) sound
    (all_changed (FitBranch (map definition store.tables)) (has_xid xid) (at_stage stage) (λ branch fits. fits) store.branches sound.branches)

gone_sound : (store : Store) (p : Branch → Bool) → IsSound store → IsSound (with_branches store (without_first p store.branches))
gone_sound store p sound = with_sound store (without_first p store.branches) sound (all_without (FitBranch (map definition store.tables)) p store.branches sound.branches)

put_sound : (store : Store) (conn : ℕ) (name : List ℕ) (rows : List Row) (table : Table) (b : Bool) → list_all (fits_columns table.def) rows ≡ b → table_called store name ≡ Some table → IsSound store
    → IsSound (unless_fault store (cond b None (Some TypeMismatch)) (with_change store conn (Put name rows), Done (length rows))).0
put_sound store conn name rows table false fit there sound = sound
put_sound store conn name rows table true fit there sound =
    change_sound store conn (Put name rows) sound (put_fits_tables name rows store.tables sound.apart (ap (λ t. are_rows_of t rows) there ∙ fit))

pub steps_keep_rows : StepsKeepRows
steps_keep_rows store conn (request.Start xid) sound =
    let defs : List TableDef = map definition store.tables in
    unless_sound store (start_fault (living store xid) (own store conn)) (with_branches store (store.branches ++ new_branch conn xid ∷ []), Done 0) sound
    (with_sound store (store.branches ++ new_branch conn xid ∷ []) sound (all_append (FitBranch defs) store.branches (new_branch conn xid ∷ []) sound.branches (tt, tt)))
steps_keep_rows store conn (request.End xid) sound = unless_sound store (branch_fault (may_end conn) (living store xid)) (with_branches store (changed_first (has_xid xid) (at_stage Ended) store.branches), Done 0) sound (moved_sound store (may_end conn) xid Ended sound)
steps_keep_rows store conn (request.Prepare xid) sound =
    unless_sound store (branch_fault (may_prepare conn) (living store xid)) (with_branches store (changed_first (has_xid xid) (at_stage Prepared) store.branches), Done 0) sound (moved_sound store (may_prepare conn) xid Prepared sound)
steps_keep_rows store conn (request.Commit xid) sound =
    let defs : List TableDef = map definition store.tables in
    unless_sound store (branch_fault may_commit (living store xid)) (record { tables = map (changed_table (changes_of (living store xid))) store.tables; branches = without_first (has_xid xid) store.branches }, Done 0) sound
    (commit_sound store (changes_of (living store xid)) (without_first (has_xid xid) store.branches) sound (fit_changes defs (living store xid) (all_found (FitBranch defs) (has_xid xid) store.branches sound.branches))
    (all_without (FitBranch defs) (has_xid xid) store.branches sound.branches))
steps_keep_rows store conn (request.Rollback xid) sound =
    unless_sound store (branch_fault (may_roll_back conn) (living store xid)) (with_branches store (without_first (has_xid xid) store.branches), Done 0) sound (gone_sound store (has_xid xid) sound)
steps_keep_rows store conn request.Recover sound = sound
steps_keep_rows store conn (request.Scan scan) sound =
    work_by store scan.table (table_called store scan.table) (own store conn) _ (λ done. IsSound done.0) (FitBranch (map definition store.tables)) (own_fits store conn sound) (λ fault. sound)
    (λ b t fit there. unless_sound store (scan_fault t.def scan) (store, found b.changes t scan) sound sound)
steps_keep_rows store conn (request.Put name rows) sound =
    work_by store name (table_called store name) (own store conn) _ (λ done. IsSound done.0) (FitBranch (map definition store.tables)) (own_fits store conn sound) (λ fault. sound)
    (λ b t fit there. put_sound store conn name rows t (list_all (fits_columns t.def) rows) refl there sound)
steps_keep_rows store conn (request.Del name key keys) sound =
    work_by store name (table_called store name) (own store conn) _ (λ done. IsSound done.0) (FitBranch (map definition store.tables)) (own_fits store conn sound) (λ fault. sound)
    (λ b t fit there. unless_sound store (key_fault t.def (Some key)) _ sound (change_sound store conn (Del name keys) sound (del_fits name keys (map definition store.tables))))
steps_keep_rows store conn (request.Clear name key low high) sound =
    work_by store name (table_called store name) (own store conn) _ (λ done. IsSound done.0) (FitBranch (map definition store.tables)) (own_fits store conn sound) (λ fault. sound)
    (λ b t fit there. unless_sound store (key_fault t.def (Some key)) _ sound (change_sound store conn (Clear name low high) sound (clear_fits name low high (map definition store.tables))))

pub hangups_keep_rows : HangupsKeepRows
hangups_keep_rows store conn sound = gone_sound store (is_own conn) sound

-- ANSWERS

refusals_done : (fault : BranchFault) → done_form (refusal fault) ≡ true
refusals_done NoSuchBranch = refl
refusals_done (WrongState stage) = refl
refusals_done Duplicate = refl
refusals_done (NoTable name) = refl
refusals_done (NoColumn name) = refl
refusals_done TypeMismatch = refl

refusals_rows : (table : Option Table) (fault : BranchFault) → rows_form (refusal fault) table ≡ true
refusals_rows table NoSuchBranch = refl
refusals_rows table (WrongState stage) = refl
refusals_rows table Duplicate = refl
refusals_rows table (NoTable name) = refl
refusals_rows table (NoColumn name) = refl
refusals_rows table TypeMismatch = refl

refusals_cells : (count : ℕ) (fault : BranchFault) → cells_form count (refusal fault) ≡ true
refusals_cells count NoSuchBranch = refl
refusals_cells count (WrongState stage) = refl
refusals_cells count Duplicate = refl
refusals_cells count (NoTable name) = refl
refusals_cells count (NoColumn name) = refl
refusals_cells count TypeMismatch = refl

refusals_scan : (asked : ScanItems) (table : Option Table) (fault : BranchFault) → scan_form asked (refusal fault) table ≡ true
refusals_scan items.All table fault = refusals_rows table fault
refusals_scan (items.Aggregates calls) table fault = refusals_cells (length calls) fault

unless_done : (store : Store) (fault : Option BranchFault) (done : Store × LinkAnswer) → done_form done.1 ≡ true → done_form (unless_fault store fault done).1 ≡ true
unless_done store (Some fault) done form = refusals_done fault
unless_done store None done form = form

unless_scan : (store : Store) (asked : ScanItems) (table : Option Table) (fault : Option BranchFault) (done : Store × LinkAnswer) → scan_form asked done.1 table ≡ true → scan_form asked (unless_fault store fault done).1 table ≡ true
unless_scan store asked table (Some fault) done form = refusals_scan asked table fault
unless_scan store asked table None done form = form

all_unmapped : {X Y : Type 0} (Q : Y → Type 0) (f : X → Y) (xs : List X) → AllByRecursion Q (map f xs) → AllByRecursion (λ x. Q (f x)) xs
all_unmapped Q f [] all = tt
all_unmapped Q f (x ∷ xs) all = (all.0, all_unmapped Q f xs all.1)

first_fit : (def : TableDef) (limit : Option ℕ) (rows : List Row) → AllByRecursion (FitsColumns def) rows → AllByRecursion (FitsColumns def) (first_rows limit rows)
first_fit def None rows all = all
first_fit def (Some most) rows all = all_take (FitsColumns def) most rows all

-- what a scan finds are rows of its table
found_fits : (store : Store) (scan : Scan) (cond : Option Cond) (limit : Option ℕ) (changes : List Change) (table : Table) → IsSound store → AllByRecursion (FitsTables (map definition store.tables)) changes → table_called store scan.table ≡ Some table
    → are_rows_of (table_called store scan.table) (found_rows changes table cond limit) ≡ true
found_fits store scan cond limit changes table sound fit there =
    let defs : List TableDef = map definition store.tables in
    let called : Table → Bool = λ t. is_called scan.table t.def in
    let have : Table → Type 0 = λ t. AreRows t.def t.rows in
    let take_changes : Table → Type 0 = λ t. AllByRecursion (λ change. FitsTable change t.def) changes in
    let rows : AreRows table.def table.rows = subst (λ o. IfSome o have) there (all_found have called store.tables sound.rows) in
    let each : AllByRecursion take_changes store.tables = all_unmapped (λ def. AllByRecursion (λ change. FitsTable change def) changes) definition store.tables (all_by (λ def. AllByRecursion (λ change. FitsTable change def) changes) defs (λ def at. fit_one defs def at changes fit)) in
    let its : take_changes table = subst (λ o. IfSome o take_changes) there (all_found take_changes called store.tables each) in
    let all : AllByRecursion (FitsColumns table.def) (found_rows changes table cond limit) =
    first_fit table.def limit (kept table.def cond (seen changes table)) (all_filter (FitsColumns table.def) (holds_on table.def cond) (seen changes table) (after_fits table.def changes table.rows rows its).fit) in
    ap (λ t. are_rows_of t (found_rows changes table cond limit)) there ∙ all_rows (fits_columns table.def) (found_rows changes table cond limit) all

same_count : (m n : ℕ) → m ≡ n → (m == n) ≡ true
same_count m n same = grind (arith, nat_tests)

-- the row of cells, or none where no row is wanted
one_row : (limit : Option ℕ) (cells : List Cell) (count : ℕ) → length cells ≡ count → cells_form count (Cells (first_rows limit (cells ∷ []))) ≡ true
one_row None cells count is = and_from _ _ (same_count (length cells) count is) refl
one_row (Some zero) cells count is = refl
one_row (Some (suc zero)) cells count is = and_from _ _ (same_count (length cells) count is) refl
one_row (Some (suc (suc most))) cells count is = and_from _ _ (same_count (length cells) count is) refl

-- what a scan finds has the form of what it asks for
found_has_form : (store : Store) (scan : Scan) (asked : ScanItems) (changes : List Change) (table : Table) → IsSound store → AllByRecursion (FitsTables (map definition store.tables)) changes → table_called store scan.table ≡ Some table
    → scan_form asked (answer_of table.def asked scan.limit (kept table.def scan.cond (seen changes table))) (table_called store scan.table) ≡ true
found_has_form store scan items.All changes table sound fit there = found_fits store scan scan.cond scan.limit changes table sound fit there
found_has_form store scan (items.Aggregates calls) changes table sound fit there =
    let rows : List Row = kept table.def scan.cond (seen changes table) in
    one_row scan.limit (cells_over (map (aggregate_of table.def) calls) rows) (length calls)
    (simp length-map)

pub answers_have_form : AnswersHaveForm
answers_have_form store conn (request.Start xid) sound = unless_done store (start_fault (living store xid) (own store conn)) _ refl
answers_have_form store conn (request.End xid) sound = unless_done store (branch_fault (may_end conn) (living store xid)) _ refl
answers_have_form store conn (request.Prepare xid) sound = unless_done store (branch_fault (may_prepare conn) (living store xid)) _ refl
answers_have_form store conn (request.Commit xid) sound = unless_done store (branch_fault may_commit (living store xid)) _ refl
answers_have_form store conn (request.Rollback xid) sound = unless_done store (branch_fault (may_roll_back conn) (living store xid)) _ refl
answers_have_form store conn request.Recover sound = refl
answers_have_form store conn (request.Scan scan) sound =
    work_by store scan.table (table_called store scan.table) (own store conn) _ (λ done. scan_form scan.items done.1 (table_called store scan.table) ≡ true) (FitBranch (map definition store.tables)) (own_fits store conn sound)
    (refusals_scan scan.items (table_called store scan.table))
    (λ b t fit there. unless_scan store scan.items (table_called store scan.table) (scan_fault t.def scan) (store, found b.changes t scan) (found_has_form store scan scan.items b.changes t sound fit there))
answers_have_form store conn (request.Put name rows) sound =
    work_by store name (table_called store name) (own store conn) _ (λ done. done_form done.1 ≡ true) (FitBranch (map definition store.tables)) (own_fits store conn sound) refusals_done
    (λ b t fit there. unless_done store (rows_fault t.def rows) _ refl)
answers_have_form store conn (request.Del name key keys) sound =
    work_by store name (table_called store name) (own store conn) _ (λ done. done_form done.1 ≡ true) (FitBranch (map definition store.tables)) (own_fits store conn sound) refusals_done
    (λ b t fit there. unless_done store (key_fault t.def (Some key)) _ refl)
answers_have_form store conn (request.Clear name key low high) sound =
    work_by store name (table_called store name) (own store conn) _ (λ done. done_form done.1 ≡ true) (FitBranch (map definition store.tables)) (own_fits store conn sound) refusals_done
    (λ b t fit there. unless_done store (key_fault t.def (Some key)) _ refl)

-- WORK IN A TABLE

abbrev changes_in : Result (List Change × Table) BranchFault → List Change
changes_in (Ok work) = work.0
changes_in (Err fault) = []

abbrev table_in : Result (List Change × Table) BranchFault → Option Table
table_in (Ok work) = Some work.1
table_in (Err fault) = None

with_them : (name : List ℕ) (o : Option Table) (made changes : List Change) (table : Table) → with_table name o made ≡ Ok (changes, table) → (made ≡ changes) × (o ≡ Some table)
with_them name None made changes table is = let no : ⊥ = cc in absurd no
with_them name (Some t) made changes table is = (ap changes_in is, ap table_in is)

active_them : (name : List ℕ) (o : Option Table) (made changes : List Change) (stage : Stage) (table : Table) → and_table name o (active_changes made stage) ≡ Ok (changes, table) → (made ≡ changes) × (o ≡ Some table)
active_them name o made changes Active table is = with_them name o made changes table is
active_them name o made changes Ended table is = let no : ⊥ = cc in absurd no
active_them name o made changes Prepared table is = let no : ⊥ = cc in absurd no

own_them : (name : List ℕ) (o : Option Table) (branch : Option Branch) (P : List Change → Type 0) (changes : List Change) (table : Table) → IfSome branch (λ b. P b.changes) → and_table name o (own_changes branch) ≡ Ok (changes, table) → P changes × (o ≡ Some table)
own_them name o None P changes table fit is = let no : ⊥ = cc in absurd no
own_them name o (Some b) P changes table fit is = let each = active_them name o b.changes changes b.stage table is in (subst P each.0 fit, each.1)

-- the table that a branch works on has rows of its own, and the branch's changes put rows of it
pub works_on_table : (store : Store) (conn : ℕ) (name : List ℕ) (changes : List Change) (table : Table) → IsSound store → work_on store conn name ≡ Ok (changes, table) → AreOfTable changes table
works_on_table store conn name changes table sound is =
    let defs : List TableDef = map definition store.tables in
    let called : Table → Bool = λ t. is_called name t.def in
    let fit_all : List Change → Type 0 = λ made. AllByRecursion (FitsTables defs) made in
    let each = own_them name (table_called store name) (own store conn) fit_all changes table (own_fits store conn sound) is in
    let have : Table → Type 0 = λ t. AreRows t.def t.rows in
    let take_changes : Table → Type 0 = λ t. AllByRecursion (λ change. FitsTable change t.def) changes in
    let is_one : Table → Type 0 = λ t. is_definition t.def ≡ true in
    let all : AllByRecursion take_changes store.tables = all_unmapped (λ def. AllByRecursion (λ change. FitsTable change def) changes) definition store.tables (all_by (λ def. AllByRecursion (λ change. FitsTable change def) changes) defs (λ def at. fit_one defs def at changes each.0)) in
    record {
      definition = subst (λ o. IfSome o is_one) each.1 (all_found is_one called store.tables sound.tables);
      rows = subst (λ o. IfSome o have) each.1 (all_found have called store.tables sound.rows);
      changes = subst (λ o. IfSome o take_changes) each.1 (all_found take_changes called store.tables all);
    }

-- TABLES WITHOUT ROWS

empty_rows : (defs : List TableDef) → AllByRecursion (λ (table : Table). AreRows table.def table.rows) (empty_tables defs)
unfolding IsStrictlySortedBy
empty_rows [] = tt
empty_rows (def ∷ defs) = (record { rises = tt; fit = tt }, empty_rows defs)

empty_definitions : (defs : List TableDef) → map definition (empty_tables defs) ≡ defs
empty_definitions [] = refl
empty_definitions (def ∷ defs) = ap (λ (l : List TableDef). def ∷ l) (empty_definitions defs)

pub empty_sound : (defs : List TableDef) → are_tables defs ≡ true → IsSound (record { tables = empty_tables defs; branches = [] })
empty_sound defs is =
    let each = both_of (are_apart defs) (list_all is_definition defs) is in
    record {
      apart = ap are_apart (empty_definitions defs) ∙ each.0;
      tables = all_mapped (λ def. is_definition def ≡ true) (λ (table : Table). is_definition table.def ≡ true) empty_table (λ def here. here) defs (rows_all is_definition defs each.1);
      rows = empty_rows defs;
      branches = tt;
    }
