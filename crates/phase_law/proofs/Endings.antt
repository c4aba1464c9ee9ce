-- How a transaction whose branches have begun comes to its end.
use Rattle.std.proofs.Common.{◌≡◌, ◌<◌, ◌≤◌, ◌^◌, ℕ, zero, suc, false, List, [], ◌∷◌, length, refl, sym, ap, ◌∙◌, arith, subst}
use Rattle.std.proofs.lemmas.List.{length-map}
use Rattle.sql_text.specs.declared.link.LinkRequest.TheVariants as request
use Rattle.branch_store.specs.declared.branch.Change.{Change}
use Rattle.branch_store.specs.declared.branch.Stage.TheVariants.{Active, Ended, Prepared}
use Rattle.branch_store.specs.Store.{Store}
use Rattle.branch_store.specs.Tables.{Table}
use Rattle.txn_phases.specs.declared.deed.Outcome.{Outcome}
use Rattle.txn_phases.specs.declared.job.Job.{Job}
use Rattle.txn_phases.specs.declared.phase.Branch.{Branch}
use Rattle.txn_phases.specs.declared.phase.Ending.TheVariants.{Alone, Committed, RolledBack}
use Rattle.txn_phases.specs.declared.phase.Phase.TheVariants as phase
use Rattle.txn_phases.specs.declared.phase.Progress.{Progress}
use Rattle.txn_phases.specs.Phases.{asking, begun_of, decides, ends, ends_by, finished, follows, gives_up, gives_up_by}
use Rattle.phase_law.specs.Through.{Through}
use Rattle.phase_law.proofs.Apart.{AreApart, to_all}
use Rattle.phase_law.proofs.Phases.{commit_phase, end_phase, prepare_phase, rollback_phase}
use Rattle.phase_law.proofs.Stages.{holding, no_branches, stores_as}
use Rattle.phase_law.proofs.Words.{tables_after}

-- the job's branches have all begun; they are at different servers, and not too many
pub record HaveBegun (servers : ℕ) (job : Job) : Type 0 where
  pub begun : begun_of job.branches ≡ job.branches
  pub apart : AreApart servers job.branches
  pub some : 0 < length job.branches
  pub few : length job.branches ≤ 2 ^ 35

ends_so : (job : Job) (o : Outcome) (bs : List Branch) → 0 < length bs → ◌≡◌ {A = Job × Progress} (ends_by job o (to_all (λ xid. request.End xid) bs)) (asking job (phase.Ending o) (to_all (λ xid. request.End xid) bs))
ends_so job o [] some = let no : ⊥ = omega arith in absurd no
ends_so job o (b ∷ bs) some = refl

gives_up_so : (job : Job) (o : Outcome) (bs : List Branch) → 0 < length bs → ◌≡◌ {A = Job × Progress} (gives_up_by job o (to_all (λ xid. request.Rollback xid) bs)) (asking job (phase.RollingBack o) (to_all (λ xid. request.Rollback xid) bs))
gives_up_so job o [] some = let no : ⊥ = omega arith in absurd no
gives_up_so job o (b ∷ bs) some = refl

module _ (n servers : ℕ) (tables : ℕ → List Table) (changes : ℕ → List Change) (job : Job) (have : HaveBegun servers job) (o : Outcome) where
  ends_are : ◌≡◌ {A = Job × Progress} (ends job o) (asking job (phase.Ending o) (to_all (λ xid. request.End xid) job.branches))
  ends_are = ap (λ l. ends_by job o (to_all (λ xid. request.End xid) l)) have.begun ∙ ends_so job o job.branches have.some

  ended_goes : ◌≡◌ {A = Job × Progress} (follows (phase.Ending o) job) (asking job (phase.Preparing o) (to_all (λ xid. request.Prepare xid) job.branches))
  ended_goes = ap (λ l. asking job (phase.Preparing o) (to_all (λ xid. request.Prepare xid) l)) have.begun

  prepared_goes : ◌≡◌ {A = Job × Progress} (follows (phase.Preparing o) job) (decides job o (to_all (λ xid. request.Commit xid) job.branches))
  prepared_goes = ap (λ l. decides job o (to_all (λ xid. request.Commit xid) l)) have.begun

  gives_up_is : ◌≡◌ {A = Job × Progress} (gives_up job o) (asking job (phase.RollingBack o) (to_all (λ xid. request.Rollback xid) job.branches))
  gives_up_is = ap (λ l. gives_up_by job o (to_all (λ xid. request.Rollback xid) l)) have.begun ∙ gives_up_so job o job.branches have.some

  -- its work is done: its branches end, are prepared and committed
  pub ends_through : Through 3 n false (stores_as servers tables (holding n job.branches Active changes)) (ends job o) (stores_as servers (tables_after job.branches changes tables) no_branches) Committed o
  ends_through =
      let bs : List Branch = job.branches in
      let few : length bs ≤ 2 ^ 35 = have.few in
      let last : List Store = stores_as servers (tables_after bs changes tables) no_branches in
      let prepared : List Store = stores_as servers tables (holding n bs Prepared changes) in
      let ended : List Store = stores_as servers tables (holding n bs Ended changes) in
      let decided : Through 1 n false prepared (decides job o (to_all (λ xid. request.Commit xid) bs)) last Committed o =
      (rw length-map few, last, follows (phase.Committing o) job, commit_phase n servers tables job o bs changes have.apart have.some, (refl, refl, refl, refl)) in
      let preparing : Through 2 n false ended (asking job (phase.Preparing o) (to_all (λ xid. request.Prepare xid) bs)) last Committed o =
      (rw length-map few, prepared, follows (phase.Preparing o) job, prepare_phase n servers tables job o bs changes have.apart have.some, subst (λ (next : Job × Progress). Through 1 n false prepared next last Committed o) (sym prepared_goes) decided) in
      let ending : Through 3 n false (stores_as servers tables (holding n bs Active changes)) (asking job (phase.Ending o) (to_all (λ xid. request.End xid) bs)) last Committed o =
      (rw length-map few, ended, follows (phase.Ending o) job, end_phase n servers tables job o bs changes have.apart have.some, subst (λ (next : Job × Progress). Through 2 n false ended next last Committed o) (sym ended_goes) preparing) in
      subst (λ (next : Job × Progress). Through 3 n false (stores_as servers tables (holding n bs Active changes)) next last Committed o) (sym ends_are) ending

  -- it is given up: its branches are rolled back
  pub gives_up_through : Through 1 n false (stores_as servers tables (holding n job.branches Active changes)) (gives_up job o) (stores_as servers tables no_branches) RolledBack o
  gives_up_through =
      let bs : List Branch = job.branches in
      let few : length bs ≤ 2 ^ 35 = have.few in
      let last : List Store = stores_as servers tables no_branches in
      let rolling : Through 1 n false (stores_as servers tables (holding n bs Active changes)) (asking job (phase.RollingBack o) (to_all (λ xid. request.Rollback xid) bs)) last RolledBack o =
      (rw length-map few, last, follows (phase.RollingBack o) job, rollback_phase n servers tables job o bs changes have.apart have.some, (refl, refl, refl, refl)) in
      subst (λ (next : Job × Progress). Through 1 n false (stores_as servers tables (holding n bs Active changes)) next last RolledBack o) (sym gives_up_is) rolling

-- WITHOUT BRANCHES

-- its work is done, or given up, at once
pub ends_alone : (most n : ℕ) (stores : List Store) (job : Job) (o : Outcome) → job.branches ≡ [] → Through most n false stores (ends job o) stores Alone o
ends_alone most n stores job o none =
    subst (λ (next : Job × Progress). Through most n false stores next stores Alone o) (sym (ap (λ l. ends_by job o (to_all (λ xid. request.End xid) (begun_of l))) none)) (over most)
  where
    over : (most : ℕ) → Through most n false stores (finished job Alone o) stores Alone o
    over zero = (refl, refl, refl, refl)
    over (suc most) = (refl, refl, refl, refl)

pub gives_up_alone : (most n : ℕ) (stores : List Store) (job : Job) (o : Outcome) → job.branches ≡ [] → Through most n false stores (gives_up job o) stores RolledBack o
gives_up_alone most n stores job o none =
    subst (λ (next : Job × Progress). Through most n false stores next stores RolledBack o) (sym (ap (λ l. gives_up_by job o (to_all (λ xid. request.Rollback xid) (begun_of l))) none)) (over most)
  where
    over : (most : ℕ) → Through most n false stores (finished job RolledBack o) stores RolledBack o
    over zero = (refl, refl, refl, refl)
    over (suc most) = (refl, refl, refl, refl)
