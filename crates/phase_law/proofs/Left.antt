-- What a commit leaves of the tables: what was changed at each server, and nothing where nothing was.
use Rattle.std.proofs.Common.{◌≡◌, ◌<◌, ℕ, ◌==◌, Bool, true, false, List, [], ◌∷◌, ◌++◌, map, length, refl, sym, ap, ◌∙◌, cond, map-id}
use Rattle.std.specs.List.{list_any}
use Rattle.plain_tables.specs.Statements.{Writes}
use Rattle.branch_store.specs.declared.branch.Change.{Change}
use Rattle.branch_store.specs.Store.{changed_table}
use Rattle.branch_store.specs.Tables.{Table}
use Rattle.catalog.specs.Views.{View}
use Rattle.txn_phases.specs.declared.phase.Branch.{Branch}
use Rattle.txn_phases.specs.declared.phase.Target.{Target}
use Rattle.front_core.specs.declared.event.TxNo.{TxNo}
use Rattle.front_core.specs.Jobs.{branches_of}
use Rattle.phase_law.proofs.Apart.{among, or_false}
use Rattle.phase_law.proofs.Branches.{one_among}
use Rattle.phase_law.proofs.Noted.{all_begun}
use Rattle.phase_law.proofs.Stages.{no_branches, no_changes, stores_as}
use Rattle.phase_law.proofs.Stores.{same_stores}
use Rattle.phase_law.proofs.Ways.{among_begun}
use Rattle.phase_law.proofs.Words.{changes_there, tables_after}
use Rattle.phase_law.proofs.Writes.{change_of, changes_at}

-- no change changes nothing
unchanged : (bs : List Branch) (tables : ℕ → List Table) (s : ℕ) → tables_after bs no_changes tables s ≡ tables s
unchanged bs tables s = by (among s bs)
  where
    by : (b : Bool) → map (changed_table (cond b [] [])) (tables s) ≡ tables s
    by true = map-id (tables s)
    by false = map-id (tables s)

pub none_left : (servers : ℕ) (bs : List Branch) (tables : ℕ → List Table) → stores_as servers (tables_after bs no_changes tables) no_branches ≡ stores_as servers tables no_branches
none_left servers bs tables = same_stores servers (tables_after bs no_changes tables) tables no_branches no_branches (λ s below. unchanged bs tables s) (λ s below. refl)

-- nothing is changed where no link is
nothing_changed : (targets : List Target) (w : ℕ → Writes) (s : ℕ) → list_any (λ (t : Target). t.server == s) targets ≡ false → changes_at targets w s ≡ []
nothing_changed [] w s none = refl
nothing_changed (t ∷ targets) w s none =
    let two = or_false (t.server == s) (list_any (λ (u : Target). u.server == s) targets) none in
    ap (λ b. cond b (change_of t (w t.part)) [] ++ changes_at targets w s) two.0 ∙ nothing_changed targets w s two.1

nothing_by : (b : Bool) → ◌≡◌ {A = List Change} (cond b [] []) []
nothing_by true = refl
nothing_by false = refl

changed_there : (catalog : View) (tx : TxNo) (targets : List Target) (w : ℕ → Writes) (s : ℕ) → s < length catalog.servers → changes_there (all_begun (branches_of catalog tx targets)) (changes_at targets w) s ≡ changes_at targets w s
changed_there catalog tx targets w s below = by (list_any (λ (t : Target). t.server == s) targets) refl
  where
    by : (b : Bool) → list_any (λ (t : Target). t.server == s) targets ≡ b → changes_there (all_begun (branches_of catalog tx targets)) (changes_at targets w) s ≡ changes_at targets w s
    by true is = ap (λ b. cond b (changes_at targets w s) []) (among_begun s (branches_of catalog tx targets) ∙ one_among catalog tx targets s below is)
    by false is =
        let none : changes_at targets w s ≡ [] = nothing_changed targets w s is in
        ap (λ (l : List Change). cond (among s (all_begun (branches_of catalog tx targets))) l []) none ∙ (nothing_by (among s (all_begun (branches_of catalog tx targets))) ∙ sym none)

-- what was changed, where it leaves these tables at each server
pub changes_left : (catalog : View) (tx : TxNo) (targets : List Target) (w : ℕ → Writes) (tables more : ℕ → List Table) → ((s : ℕ) → s < length catalog.servers → map (changed_table (changes_at targets w s)) (tables s) ≡ more s)
    → stores_as (length catalog.servers) (tables_after (all_begun (branches_of catalog tx targets)) (changes_at targets w) tables) no_branches ≡ stores_as (length catalog.servers) more no_branches
changes_left catalog tx targets w tables more each =
    same_stores (length catalog.servers) (tables_after (all_begun (branches_of catalog tx targets)) (changes_at targets w) tables) more no_branches no_branches
    (λ s below. ap (λ l. map (changed_table l) (tables s)) (changed_there catalog tx targets w s below) ∙ each s below) (λ s below. refl)
