-- One branch alone.
use Rattle.std.proofs.Common.{◌≡◌, ℕ, ◌==◌, nat_eq, Bool, true, false, ◌&&◌, List, [], ◌∷◌, map, Option, Some, None, Ok, refl, arith, ◌∙◌, ap, cond, length}
use Rattle.std.specs.List.{find, list_all}
use Rattle.std.specs.Cmp.Lexicographic.{pointwise, nat_list_eq_equiv}
use Rattle.sql_values.specs.declared.places.Xid.{Xid}
use Rattle.sql_text.specs.declared.link.LinkAnswer.{LinkAnswer}
use Rattle.sql_text.specs.declared.link.LinkAnswer.TheVariants.{Done}
use Rattle.sql_text.specs.declared.link.LinkRequest.{LinkRequest}
use Rattle.sql_text.specs.declared.link.LinkRequest.TheVariants as request
use Rattle.plain_tables.specs.Inserts.{put_all}
use Rattle.plain_tables.specs.Rows.{Row, fits_columns}
use Rattle.branch_store.specs.declared.branch.Branch.{Branch}
use Rattle.branch_store.specs.declared.branch.Change.{Change}
use Rattle.branch_store.specs.declared.branch.Change.TheVariants.{Put}
use Rattle.branch_store.specs.declared.branch.Stage.{Stage}
use Rattle.branch_store.specs.declared.branch.Stage.TheVariants.{Active, Ended, Prepared}
use Rattle.branch_store.specs.declared.fault.BranchFault.TheVariants.{WrongState, TypeMismatch}
use Rattle.branch_store.specs.Changes.{is_called}
use Rattle.branch_store.specs.Faults.{has_xid, is_own, branch_fault, rows_fault, may_end, may_prepare, may_commit, may_roll_back}
use Rattle.branch_store.specs.Laws.{after_all, at_rest, put_into, CommitsKeepPuts, RollbacksLeaveNothing}
use Rattle.branch_store.specs.Lists.{changed_first, without_first}
use Rattle.branch_store.specs.Store.{Store, store_step, own, living, work_on, working, and_table, own_changes, table_called, unless_fault, with_branches, with_change, add_change, at_stage, changed_table, changes_of, put, moved, committed, rolled_back, without_branch}
use Rattle.branch_store.specs.Tables.{Table}

abbrev one : List Table → Branch → Store
one tables branch = record { tables = tables; branches = branch ∷ [] }

abbrev at : Xid → ℕ → Stage → List Change → Branch
at xid conn stage changes = record { xid = xid; stage = stage; owner = conn; changes = changes }

same_number : (n : ℕ) → (n == n) ≡ true
same_number n = grind arith

both : (a b : Bool) → a ≡ true → b ≡ true → (a && b) ≡ true
both a b is also = ap (λ x. x && b) is ∙ also

same_xid : (xid : Xid) → (pointwise nat_eq xid.gtrid xid.gtrid && pointwise nat_eq xid.bqual xid.bqual) ≡ true
same_xid xid = both (pointwise nat_eq xid.gtrid xid.gtrid) (pointwise nat_eq xid.bqual xid.bqual) (nat_list_eq_equiv.refl xid.gtrid) (nat_list_eq_equiv.refl xid.bqual)

module _ {X : Type 0} (p : X → Bool) (x : X) (passes : p x ≡ true) where
  found_one : find p (x ∷ []) ≡ Some x
  found_one = ap (λ b. cond b (Some x) None) passes

  changed_one : (f : X → X) → changed_first p f (x ∷ []) ≡ f x ∷ []
  changed_one f = ap (λ b. cond b (f x ∷ []) (x ∷ [])) passes

  gone_one : without_first p (x ∷ []) ≡ []
  gone_one = ap (λ b. cond b [] (x ∷ [])) passes

put_done : (store : Store) (conn : ℕ) (name : List ℕ) (rows : List Row) (table : Table) (xid : Xid) (owner : ℕ) (changes : List Change) → own store conn ≡ Some (at xid owner Active changes) → table_called store name ≡ Some table → list_all (fits_columns table.def) rows ≡ true
    → (put store conn name rows).0 ≡ with_change store conn (Put name rows)
put_done store conn name rows table xid owner changes mine there fit =
    let act : List Change → Table → Store × LinkAnswer = λ cs t. unless_fault store (rows_fault t.def rows) (with_change store conn (Put name rows), Done (length rows)) in
    let work : work_on store conn name ≡ Ok (changes, table) = ap (λ b. and_table name (table_called store name) (own_changes b)) mine ∙ ap (λ t. and_table name t (Ok changes)) there in
    ap (λ w. (working store w act).0) work ∙ ap (λ (b : Bool). (unless_fault store (cond b None (Some TypeMismatch)) (with_change store conn (Put name rows), Done (length rows))).0) fit

unless_done : (store : Store) (may : Branch → Bool) (branch : Branch) (found : Option Branch) (done : Store × LinkAnswer) → found ≡ Some branch → may branch ≡ true → (unless_fault store (branch_fault may found) done).0 ≡ done.0
unless_done store may branch found done lives may_be =
    ap (λ f. (unless_fault store (branch_fault may f) done).0) lives ∙ ap (λ (b : Bool). (unless_fault store (cond b None (Some (WrongState branch.stage))) done).0) may_be

map_same : {A B : Type 0} (f g : A → B) → ((x : A) → f x ≡ g x) → (xs : List A) → map f xs ≡ map g xs
map_same f g same [] = refl
map_same f g same (x ∷ xs) = ap (λ y. y ∷ map f xs) (same x) ∙ ap (λ ys. g x ∷ ys) (map_same f g same xs)

put_by : (table : Table) (rows : List Row) (b : Bool) → (let t : Table = record table { rows = cond b (put_all table.def table.rows rows) table.rows } in t) ≡ cond b (record table { rows = put_all table.def table.rows rows }) table
put_by table rows true = refl
put_by table rows false = refl

module _ (tables : List Table) (conn : ℕ) (xid : Xid) (name : List ℕ) (rows : List Row) where
  is_mine : (stage : Stage) (changes : List Change) → has_xid xid (at xid conn stage changes) ≡ true
  is_mine stage changes = same_xid xid

  abbrev asked : Branch
  asked = at xid conn Active (Put name rows ∷ [])

  owned : (changes : List Change) → is_own conn (at xid conn Active changes) ≡ true
  owned changes = both (conn == conn) true (same_number conn) refl

  putting : (table : Table) → table_called (at_rest tables) name ≡ Some table → list_all (fits_columns table.def) rows ≡ true → (store_step (one tables (at xid conn Active [])) conn (request.Put name rows)).0 ≡ one tables asked
  putting table there fit =
      put_done (one tables (at xid conn Active [])) conn name rows table xid conn [] (found_one (is_own conn) (at xid conn Active []) (owned [])) there fit
      ∙ ap (with_branches (one tables (at xid conn Active []))) (changed_one (is_own conn) (at xid conn Active []) (owned []) (add_change (Put name rows)))

  moving : (may : Branch → Bool) (stage next : Stage) (changes : List Change) → may (at xid conn stage changes) ≡ true → (moved (one tables (at xid conn stage changes)) may xid next).0 ≡ one tables (at xid conn next changes)
  moving may stage next changes may_be =
      let b = at xid conn stage changes in
      unless_done (one tables b) may b (living (one tables b) xid) (with_branches (one tables b) (changed_first (has_xid xid) (at_stage next) (b ∷ [])), Done 0) (found_one (has_xid xid) b (is_mine stage changes)) may_be
      ∙ ap (with_branches (one tables b)) (changed_one (has_xid xid) b (is_mine stage changes) (at_stage next))

  committing : (committed (one tables (at xid conn Prepared (Put name rows ∷ []))) xid).0 ≡ at_rest (map (put_into name rows) tables)
  committing =
      let b = at xid conn Prepared (Put name rows ∷ []) in
      let lives : living (one tables b) xid ≡ Some b = found_one (has_xid xid) b (is_mine Prepared (Put name rows ∷ [])) in
      let left : List Table → List Branch → Store = λ ts bs. record { tables = ts; branches = bs } in
      unless_done (one tables b) may_commit b (living (one tables b) xid) (left (map (changed_table (changes_of (living (one tables b) xid))) tables) (without_first (has_xid xid) (b ∷ [])), Done 0) lives refl
      ∙ (ap (λ f. left (map (changed_table (changes_of f)) tables) (without_first (has_xid xid) (b ∷ []))) lives
      ∙ (ap (λ ts. left ts (without_first (has_xid xid) (b ∷ []))) (map_same (changed_table (Put name rows ∷ [])) (put_into name rows) (λ t. put_by t rows (is_called name t.def)) tables)
      ∙ ap (λ bs. left (map (put_into name rows) tables) bs) (gone_one (has_xid xid) b (is_mine Prepared (Put name rows ∷ [])))))

  rolling : (rolled_back (one tables asked) conn xid).0 ≡ at_rest tables
  rolling =
      unless_done (one tables asked) (may_roll_back conn) asked (living (one tables asked) xid) (without_branch (one tables asked) xid, Done 0) (found_one (has_xid xid) asked (is_mine Active (Put name rows ∷ []))) (same_number conn)
      ∙ ap (with_branches (one tables asked)) (gone_one (has_xid xid) asked (is_mine Active (Put name rows ∷ [])))

pub commits_keep_puts : CommitsKeepPuts
commits_keep_puts tables conn other xid name rows table there fit =
    let ended : List (ℕ × LinkRequest) = (conn, request.End xid) ∷ (conn, request.Prepare xid) ∷ (other, request.Commit xid) ∷ [] in
    let readied : List (ℕ × LinkRequest) = (conn, request.Prepare xid) ∷ (other, request.Commit xid) ∷ [] in
    let made : List (ℕ × LinkRequest) = (other, request.Commit xid) ∷ [] in
    ap (λ s. after_all s ended) (putting tables conn xid name rows table there fit)
    ∙ (ap (λ s. after_all s readied) (moving tables conn xid name rows (may_end conn) Active Ended (Put name rows ∷ []) (both (conn == conn) true (same_number conn) refl))
    ∙ (ap (λ s. after_all s made) (moving tables conn xid name rows (may_prepare conn) Ended Prepared (Put name rows ∷ []) (both (conn == conn) true (same_number conn) refl)) ∙ committing tables conn xid name rows))

pub rollbacks_leave_nothing : RollbacksLeaveNothing
rollbacks_leave_nothing tables conn xid name rows table there fit =
    let gone : List (ℕ × LinkRequest) = (conn, request.Rollback xid) ∷ [] in
    ap (λ s. after_all s gone) (putting tables conn xid name rows table there fit) ∙ rolling tables conn xid name rows
