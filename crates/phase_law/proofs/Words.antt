-- What each word to the transaction's branches makes of the stores.
use Rattle.std.proofs.Common.{◌≡◌, ℕ, ◌==◌, Bool, true, false, ◌&&◌, ◌||◌, List, [], ◌∷◌, ◌++◌, Option, Some, None, map, nat_eq, refl, sym, ap, ◌∙◌, cond, eq-eqb, map-id}
use Rattle.std.specs.List.{AllByRecursion, flat_map}
use Rattle.std.specs.Cmp.Lexicographic.{pointwise, nat_list_eq_equiv}
use Rattle.sql_values.specs.declared.places.Xid.{Xid}
use Rattle.sql_text.specs.declared.link.LinkAnswer.{LinkAnswer}
use Rattle.sql_text.specs.declared.link.LinkAnswer.TheVariants.{Done}
use Rattle.sql_text.specs.declared.link.LinkRequest.{LinkRequest}
use Rattle.sql_text.specs.declared.link.LinkRequest.TheVariants as request
use Rattle.branch_store.specs.declared.branch.Branch as backend
use Rattle.branch_store.specs.declared.branch.Change.{Change}
use Rattle.branch_store.specs.declared.branch.Stage.{Stage}
use Rattle.branch_store.specs.declared.branch.Stage.TheVariants.{Active, Ended, Prepared}
use Rattle.branch_store.specs.declared.fault.BranchFault.TheVariants.{WrongState}
use Rattle.branch_store.specs.Faults.{has_xid, branch_fault, is_prepared, may_end, may_prepare, may_commit, may_roll_back}
use Rattle.branch_store.specs.Store.{Store, store_step, changed_table, changes_of, moved, committed, rolled_back, unless_fault}
use Rattle.branch_store.specs.Tables.{Table}
use Rattle.txn_phases.specs.declared.phase.Branch.{Branch}
use Rattle.phase_law.proofs.Apart.{AreApart, Steps, among, each_all, eqb_swapped, joint_all, or_false, others, served_each, to_all}
use Rattle.phase_law.proofs.Noted.{dones}
use Rattle.phase_law.proofs.Stages.{Served, branch_there, holding, no_branches, no_changes, stores_as}
use Rattle.phase_law.proofs.Stores.{store_of}

-- A BRANCH ALONE AT ITS SERVER

same_xid : (xid : Xid) → (pointwise nat_eq xid.gtrid xid.gtrid && pointwise nat_eq xid.bqual xid.bqual) ≡ true
same_xid xid = ap (λ x. x && pointwise nat_eq xid.bqual xid.bqual) (nat_list_eq_equiv.refl xid.gtrid) ∙ nat_list_eq_equiv.refl xid.bqual

same_owner : (n : ℕ) → (n == n) ≡ true
same_owner n = eq-eqb n n refl

abbrev its_branch : ℕ → Xid → Stage → List Change → backend.Branch
its_branch n xid stage changes = record { xid = xid; stage = stage; owner = n; changes = changes }

module _ (tables : List Table) (n : ℕ) (xid : Xid) (changes : List Change) (stage : Stage) where
  abbrev one : Store
  one = store_of tables (its_branch n xid stage changes ∷ [])

  -- what a word does that finds the branch, and may be said
  found_one : (may : backend.Branch → Bool) (done : Option backend.Branch → Bool → Store × LinkAnswer) → may (its_branch n xid stage changes) ≡ true
      → ◌≡◌ {A = Store × LinkAnswer} (let found : Bool = has_xid xid (its_branch n xid stage changes) in let living : Option backend.Branch = cond found (Some (its_branch n xid stage changes)) None in unless_fault one (branch_fault may living) (done living found))
      (done (Some (its_branch n xid stage changes)) true)
  found_one may done may_be =
      let b : backend.Branch = its_branch n xid stage changes in
      let by : Bool → Store × LinkAnswer = λ found. unless_fault one (branch_fault may (cond found (Some b) None)) (done (cond found (Some b) None) found) in
      let allowed : Bool → Store × LinkAnswer = λ x. unless_fault one (cond x None (Some (WrongState stage))) (done (Some b) true) in
      ap by (same_xid xid) ∙ ap allowed may_be

  moves : (next : Stage) (may : backend.Branch → Bool) → may (its_branch n xid stage changes) ≡ true → ◌≡◌ {A = Store × LinkAnswer} (moved one may xid next) (store_of tables (its_branch n xid next changes ∷ []), Done 0)
  moves next may may_be = found_one may (λ living found. (store_of tables (cond found (its_branch n xid next changes ∷ []) (its_branch n xid stage changes ∷ [])), Done 0)) may_be

  commits : is_prepared stage ≡ true → ◌≡◌ {A = Store × LinkAnswer} (committed one xid) (store_of (map (changed_table changes) tables) [], Done 0)
  commits prepared = found_one may_commit (λ living found. (store_of (map (changed_table (changes_of living)) tables) (cond found [] (its_branch n xid stage changes ∷ [])), Done 0)) prepared

  rolls_back : ◌≡◌ {A = Store × LinkAnswer} (rolled_back one n xid) (store_of tables [], Done 0)
  rolls_back = found_one (may_roll_back n) (λ living found. (store_of tables (cond found [] (its_branch n xid stage changes ∷ [])), Done 0)) (or_true (is_prepared stage) (n == n) (same_owner n))
    where
      or_true : (a b : Bool) → b ≡ true → (a || b) ≡ true
      or_true true b is = refl
      or_true false b is = is

-- WHERE THE BRANCHES ARE

none_of : (n : ℕ) (stage : Stage) (changes : List Change) (s : ℕ) (bs : List Branch) → among s bs ≡ false → flat_map (branch_there n stage changes s) bs ≡ []
none_of n stage changes s [] none = refl
none_of n stage changes s (b ∷ bs) none =
    let each : ((b.server == s) ≡ false) × (among s bs ≡ false) = or_false (b.server == s) (among s bs) none in
    ap (λ x. cond x (its_branch n b.xid stage changes ∷ []) [] ++ flat_map (branch_there n stage changes s) bs) each.0 ∙ none_of n stage changes s bs each.1

-- no branch is where none of the transaction is
pub none_held : (n : ℕ) (bs : List Branch) (stage : Stage) (changes : ℕ → List Change) (s : ℕ) → among s bs ≡ false → holding n bs stage changes s ≡ []
none_held n bs stage changes s none = none_of n stage (changes s) s bs none

-- the branch alone is at its server
abbrev pub IsAlone : ℕ → List Branch → Stage → (ℕ → List Change) → Branch → Type 0
IsAlone n bs stage changes b = holding n bs stage changes b.server ≡ its_branch n b.xid stage (changes b.server) ∷ []

pub held_alone : (n servers : ℕ) (bs : List Branch) (stage : Stage) (changes : ℕ → List Change) → AreApart servers bs → AllByRecursion (IsAlone n bs stage changes) bs
held_alone n servers [] stage changes apart = tt
held_alone n servers (b ∷ bs) stage changes (below, alone, apart) =
    let behind : (c : Branch) → (c.server == b.server) ≡ false → IsAlone n bs stage changes c → IsAlone n (b ∷ bs) stage changes c =
    λ c elsewhere is. ap (λ x. cond x (its_branch n b.xid stage (changes c.server) ∷ []) [] ++ holding n bs stage changes c.server) (eqb_swapped c.server b.server elsewhere) ∙ is in (
      ap (λ x. cond x (its_branch n b.xid stage (changes b.server) ∷ []) [] ++ holding n bs stage changes b.server) (same_owner b.server) ∙ ap (λ l. its_branch n b.xid stage (changes b.server) ∷ l) (none_held n bs stage changes b.server alone),
      joint_all behind bs (others b.server bs alone) (held_alone n servers bs stage changes apart),
    )

among_themselves : (bs : List Branch) → AllByRecursion (λ (b : Branch). among b.server bs ≡ true) bs
among_themselves [] = tt
among_themselves (b ∷ bs) =
    (ap (λ x. x || among b.server bs) (same_owner b.server), each_all (λ (c : Branch) is. behind (b.server == c.server) (among c.server bs) is) bs (among_themselves bs))
  where
    behind : (x y : Bool) → y ≡ true → (x || y) ≡ true
    behind true y is = refl
    behind false y is = is

-- THE WORDS

-- the changes of the transaction's branch at a server, where it has one there
abbrev pub changes_there : List Branch → (ℕ → List Change) → ℕ → List Change
changes_there bs changes s = cond (among s bs) (changes s) []

-- the tables after these changes were committed
abbrev pub tables_after : List Branch → (ℕ → List Change) → (ℕ → List Table) → ℕ → List Table
tables_after bs changes tables s = map (changed_table (changes_there bs changes s)) (tables s)

pub untouched : (bs : List Branch) (changes : ℕ → List Change) (tables : ℕ → List Table) (s : ℕ) → among s bs ≡ false → tables_after bs changes tables s ≡ tables s
untouched bs changes tables s none = ap (λ x. map (changed_table (cond x (changes s) [])) (tables s)) none ∙ map-id (tables s)

module _ (n servers : ℕ) (tables : ℕ → List Table) (bs : List Branch) (apart : AreApart servers bs) where
  pub starts : Served n (stores_as servers tables no_branches) (to_all (λ xid. request.Start xid) bs) (dones bs) (stores_as servers tables (holding n bs Active no_changes))
  starts =
      served_each (λ xid. request.Start xid) n servers bs tables tables no_branches (holding n bs Active no_changes) apart
      (each_all (λ (b : Branch) is. ap (λ l. let pair : Store × LinkAnswer = (store_of (tables b.server) l, Done 0) in pair) (sym is)) bs (held_alone n servers bs Active no_changes apart))
      (λ k none. refl) (λ k none. none_held n bs Active no_changes k none)

  module _ (changes : ℕ → List Change) where
    -- where a word is said to the branch that is alone at its server, and leaves it at another stage
    turned : (word : Xid → LinkRequest) (stage next : Stage)
        → ((b : Branch) → ◌≡◌ {A = Store × LinkAnswer} (store_step (store_of (tables b.server) (its_branch n b.xid stage (changes b.server) ∷ [])) n (word b.xid)) (store_of (tables b.server) (its_branch n b.xid next (changes b.server) ∷ []), Done 0))
        → Served n (stores_as servers tables (holding n bs stage changes)) (to_all word bs) (dones bs) (stores_as servers tables (holding n bs next changes))
    turned word stage next each =
        let turns : (b : Branch) → IsAlone n bs stage changes b → IsAlone n bs next changes b → Steps word n tables (holding n bs stage changes) tables (holding n bs next changes) b =
        λ b was is. ap (λ l. store_step (store_of (tables b.server) l) n (word b.xid)) was ∙ (each b ∙ ap (λ l. let pair : Store × LinkAnswer = (store_of (tables b.server) l, Done 0) in pair) (sym is)) in
        served_each word n servers bs tables tables (holding n bs stage changes) (holding n bs next changes) apart (joint_all turns bs (held_alone n servers bs stage changes apart) (held_alone n servers bs next changes apart)) (λ k none. refl)
        (λ k none. none_held n bs next changes k none ∙ sym (none_held n bs stage changes k none))

    pub ends : Served n (stores_as servers tables (holding n bs Active changes)) (to_all (λ xid. request.End xid) bs) (dones bs) (stores_as servers tables (holding n bs Ended changes))
    ends = turned (λ xid. request.End xid) Active Ended (λ b. moves (tables b.server) n b.xid (changes b.server) Active Ended (may_end n) (ap (λ x. x && true) (same_owner n)))

    pub prepares : Served n (stores_as servers tables (holding n bs Ended changes)) (to_all (λ xid. request.Prepare xid) bs) (dones bs) (stores_as servers tables (holding n bs Prepared changes))
    prepares = turned (λ xid. request.Prepare xid) Ended Prepared (λ b. moves (tables b.server) n b.xid (changes b.server) Ended Prepared (may_prepare n) (ap (λ x. x && true) (same_owner n)))

    pub commits_all : Served n (stores_as servers tables (holding n bs Prepared changes)) (to_all (λ xid. request.Commit xid) bs) (dones bs) (stores_as servers (tables_after bs changes tables) no_branches)
    commits_all =
        let left : List Table → Store × LinkAnswer = λ ts. (store_of ts [], Done 0) in
        let committing : (b : Branch) → IsAlone n bs Prepared changes b → among b.server bs ≡ true → Steps (λ xid. request.Commit xid) n tables (holding n bs Prepared changes) (tables_after bs changes tables) no_branches b =
        λ b was there.
        ap (λ l. store_step (store_of (tables b.server) l) n (request.Commit b.xid)) was
        ∙ (commits (tables b.server) n b.xid (changes b.server) Prepared refl ∙ ap (λ x. left (map (changed_table (cond x (changes b.server) [])) (tables b.server))) (sym there)) in
        served_each (λ xid. request.Commit xid) n servers bs tables (tables_after bs changes tables) (holding n bs Prepared changes) no_branches apart
        (joint_all committing bs (held_alone n servers bs Prepared changes apart) (among_themselves bs)) (λ k none. untouched bs changes tables k none) (λ k none. sym (none_held n bs Prepared changes k none))

    pub rolls_all : (stage : Stage) → Served n (stores_as servers tables (holding n bs stage changes)) (to_all (λ xid. request.Rollback xid) bs) (dones bs) (stores_as servers tables no_branches)
    rolls_all stage =
        let rolling : (b : Branch) → IsAlone n bs stage changes b → Steps (λ xid. request.Rollback xid) n tables (holding n bs stage changes) tables no_branches b =
        λ b was. ap (λ l. store_step (store_of (tables b.server) l) n (request.Rollback b.xid)) was ∙ rolls_back (tables b.server) n b.xid (changes b.server) stage in
        served_each (λ xid. request.Rollback xid) n servers bs tables tables (holding n bs stage changes) no_branches apart (each_all rolling bs (held_alone n servers bs stage changes apart)) (λ k none. refl)
        (λ k none. sym (none_held n bs stage changes k none))
