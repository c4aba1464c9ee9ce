-- Whole phases: their requests are served, heard, and lead on.
use Rattle.std.proofs.Common.{◌≡◌, ◌<◌, ◌+◌, ℕ, true, false, List, [], ◌∷◌, ◌++◌, map, length, refl, ap, ◌∙◌, subst, cond}
use Rattle.std.specs.List.{AllByRecursion}
use Rattle.std.proofs.Math.Path.{fun_ext}
use Rattle.std.proofs.lemmas.List.{length-map}
use Rattle.sql_text.specs.declared.link.LinkAnswer.{LinkAnswer}
use Rattle.sql_text.specs.declared.link.LinkAnswer.TheVariants as answer
use Rattle.sql_text.specs.declared.link.LinkRequest.TheVariants as request
use Rattle.branch_store.specs.declared.branch.Change.{Change}
use Rattle.branch_store.specs.declared.branch.Stage.{Stage}
use Rattle.branch_store.specs.declared.branch.Stage.TheVariants.{Active, Ended, Prepared}
use Rattle.branch_store.specs.Store.{Store}
use Rattle.branch_store.specs.Tables.{Table}
use Rattle.txn_phases.specs.declared.deed.Outcome.{Outcome}
use Rattle.txn_phases.specs.declared.job.Job.{Job}
use Rattle.txn_phases.specs.declared.phase.Branch.{Branch}
use Rattle.txn_phases.specs.declared.phase.Phase.{Phase}
use Rattle.txn_phases.specs.declared.phase.Phase.TheVariants as phase
use Rattle.txn_phases.specs.declared.requests.Ask.{Ask}
use Rattle.txn_phases.specs.Phases.{asking, concluded, decides, entering, follows, fits_scan, is_begun, is_done, is_scanning, is_starting, leaves, scans_of, servers_of}
use Rattle.phase_law.specs.Through.{Heard}
use Rattle.phase_law.proofs.Apart.{AreApart, to_all}
use Rattle.phase_law.proofs.Heard.{heard_all}
use Rattle.phase_law.proofs.Noted.{AllDone, AllFound, all_begun, begun, counted, dones, dones_done, job_at, plainly_noted, scanned_noted, started_noted}
use Rattle.phase_law.proofs.Stages.{HaveForm, Served, branch_there, holding, no_branches, no_changes, noted_all, stores_as}
use Rattle.phase_law.proofs.Words.{commits_all, ends, prepares, rolls_all, starts, tables_after}

-- ANSWERS HAVE THEIR FORM

done_form : (a : LinkAnswer) → is_begun a ≡ true → is_done a ≡ true
done_form (answer.Done count) done = refl
done_form (answer.Rows rows) done = let no : ⊥ = cc in absurd no
done_form (answer.Cells cells) done = let no : ⊥ = cc in absurd no
done_form (answer.Xids xids) done = let no : ⊥ = cc in absurd no
done_form (answer.Refused number message) done = let no : ⊥ = cc in absurd no

pub dones_form : (job : Job) (answers : List LinkAnswer) → is_scanning job.phase ≡ false → AllDone answers → HaveForm job answers
dones_form job [] other all = tt
dones_form job (a ∷ answers) other (done, all) = (ap (λ b. cond b (fits_scan job.deed job.scan.kinds a) (is_done a)) other ∙ done_form a done, dones_form job answers other all)

-- each answer is one that the scans of the job may have
abbrev pub FitScans : Job → List LinkAnswer → Type 0
FitScans job answers = AllByRecursion (λ a. fits_scan job.deed job.scan.kinds a ≡ true) answers

scans_form : (job : Job) (found : List LinkAnswer) → is_scanning job.phase ≡ true → FitScans job found → HaveForm job found
scans_form job [] scans all = tt
scans_form job (a ∷ found) scans (fits, all) = (ap (λ b. cond b (fits_scan job.deed job.scan.kinds a) (is_done a)) scans ∙ fits, scans_form job found scans all)

-- PHASES

-- a phase whose answers are noted so
led_on : (n : ℕ) (stores : List Store) (job : Job) (asks : List Ask) (answers : List LinkAnswer) (left : List Store) (next : Job) → Served n stores asks answers left → HaveForm job answers → servers_of asks ≡ job.asked → job.heard ≡ 0 → 0 < length asks
    → noted_all job answers ≡ next → Heard n stores job asks left (leaves next next.refused)
led_on n stores job asks answers left next served formed due none some is =
    subst (λ (j : Job). Heard n stores job asks left (leaves j j.refused)) is (heard_all n stores job asks answers left served formed due none some)

-- all was done, in a phase in which nothing else is kept
pub plain_phase : (n : ℕ) (stores : List Store) (job : Job) (p : Phase) (asks : List Ask) (answers : List LinkAnswer) (left : List Store) → is_starting p ≡ false → is_scanning p ≡ false → Served n stores asks answers left → AllDone answers → 0 < length asks
    → Heard n stores (entering job p (servers_of asks)) asks left (follows p (job_at (entering job p (servers_of asks)) (0 + length answers) job.branches []))
plain_phase n stores job p asks answers left later other served done some =
    let in_it : Job = entering job p (servers_of asks) in
    led_on n stores in_it asks answers left (job_at in_it (0 + length answers) job.branches []) served (dones_form in_it answers other done) refl refl some (plainly_noted in_it answers later done)

-- the puts are done
pub put_phase : (n : ℕ) (stores : List Store) (job : Job) (o : Outcome) (asks : List Ask) (answers : List LinkAnswer) (left : List Store) → Served n stores asks answers left → AllDone answers → 0 < length asks
    → Heard n stores (asking job (phase.Putting o) asks).0 asks left (follows (phase.Putting o) job)
put_phase n stores job o asks answers left served done some = plain_phase n stores job (phase.Putting o) asks answers left refl refl served done some

-- the job after its scans
abbrev pub scanned : Job → List LinkAnswer → Job
scanned job found = job_at (entering job phase.Scanning (servers_of (scans_of job.scan job.targets))) (length found) job.branches (counted job.targets found)

-- each link's answer is found
pub scan_phase : (n : ℕ) (stores : List Store) (job : Job) (found : List LinkAnswer) (left : List Store) → Served n stores (scans_of job.scan job.targets) found left → AllFound found → FitScans job found → length found ≡ length job.targets
    → 0 < length job.targets → Heard n stores (asking job phase.Scanning (scans_of job.scan job.targets)).0 (scans_of job.scan job.targets) left (concluded (scanned job found))
scan_phase n stores job found left served finds fits so_many some =
    let asks : List Ask = scans_of job.scan job.targets in
    let in_it : Job = entering job phase.Scanning (servers_of asks) in
    led_on n stores in_it asks found left (scanned job found) served (scans_form in_it found refl fits) refl refl (rw length-map some) (scanned_noted in_it found refl refl finds refl so_many)

module _ (n servers : ℕ) (tables : ℕ → List Table) where
  -- branches begin where there were none
  pub start_phase : (job : Job) → AreApart servers job.branches → 0 < length job.branches
      → Heard n (stores_as servers tables no_branches) (asking job phase.Starting (to_all (λ xid. request.Start xid) job.branches)).0 (to_all (λ xid. request.Start xid) job.branches) (stores_as servers tables (holding n job.branches Active no_changes))
      (follows phase.Starting (begun job))
  start_phase job apart some =
      let asks : List Ask = to_all (λ xid. request.Start xid) job.branches in
      let in_it : Job = entering job phase.Starting (servers_of asks) in
      let answers : List LinkAnswer = dones job.branches in
      led_on n (stores_as servers tables no_branches) in_it asks answers (stores_as servers tables (holding n job.branches Active no_changes)) (job_at in_it (length answers) (all_begun job.branches) []) (starts n servers tables job.branches apart)
      (dones_form in_it answers refl (dones_done job.branches)) refl refl (rw length-map some) (started_noted in_it answers refl (dones_done job.branches) refl (rw length-map refl))

  module _ (job : Job) (o : Outcome) (bs : List Branch) (changes : ℕ → List Change) (apart : AreApart servers bs) (some : 0 < length bs) where
    -- they end
    pub end_phase : Heard n (stores_as servers tables (holding n bs Active changes)) (asking job (phase.Ending o) (to_all (λ xid. request.End xid) bs)).0 (to_all (λ xid. request.End xid) bs) (stores_as servers tables (holding n bs Ended changes)) (follows (phase.Ending o) job)
    end_phase =
        plain_phase n (stores_as servers tables (holding n bs Active changes)) job (phase.Ending o) (to_all (λ xid. request.End xid) bs) (dones bs) (stores_as servers tables (holding n bs Ended changes)) refl refl (ends n servers tables bs apart changes) (dones_done bs)
        (rw length-map some)

    -- they are prepared
    pub prepare_phase : Heard n (stores_as servers tables (holding n bs Ended changes)) (asking job (phase.Preparing o) (to_all (λ xid. request.Prepare xid) bs)).0 (to_all (λ xid. request.Prepare xid) bs) (stores_as servers tables (holding n bs Prepared changes))
        (follows (phase.Preparing o) job)
    prepare_phase =
        plain_phase n (stores_as servers tables (holding n bs Ended changes)) job (phase.Preparing o) (to_all (λ xid. request.Prepare xid) bs) (dones bs) (stores_as servers tables (holding n bs Prepared changes)) refl refl (prepares n servers tables bs apart changes)
        (dones_done bs) (rw length-map some)

    -- they are committed
    pub commit_phase : Heard n (stores_as servers tables (holding n bs Prepared changes)) (decides job o (to_all (λ xid. request.Commit xid) bs)).0 (to_all (λ xid. request.Commit xid) bs) (stores_as servers (tables_after bs changes tables) no_branches)
        (follows (phase.Committing o) job)
    commit_phase =
        plain_phase n (stores_as servers tables (holding n bs Prepared changes)) job (phase.Committing o) (to_all (λ xid. request.Commit xid) bs) (dones bs) (stores_as servers (tables_after bs changes tables) no_branches) refl refl (commits_all n servers tables bs apart changes)
        (dones_done bs) (rw length-map some)

    -- they are rolled back
    pub rollback_phase : Heard n (stores_as servers tables (holding n bs Active changes)) (asking job (phase.RollingBack o) (to_all (λ xid. request.Rollback xid) bs)).0 (to_all (λ xid. request.Rollback xid) bs) (stores_as servers tables no_branches)
        (follows (phase.RollingBack o) job)
    rollback_phase =
        plain_phase n (stores_as servers tables (holding n bs Active changes)) job (phase.RollingBack o) (to_all (λ xid. request.Rollback xid) bs) (dones bs) (stores_as servers tables no_branches) refl refl (rolls_all n servers tables bs apart changes Active) (dones_done bs)
        (rw length-map some)

-- BRANCHES THAT WERE BEGUN

-- whether a branch was begun doesn't matter to the stores
pub begun_held : (n : ℕ) (bs : List Branch) (stage : Stage) (changes : ℕ → List Change) (s : ℕ) → holding n (all_begun bs) stage changes s ≡ holding n bs stage changes s
begun_held n [] stage changes s = refl
begun_held n (b ∷ bs) stage changes s = ap (λ l. branch_there n stage (changes s) s b ++ l) (begun_held n bs stage changes s)

pub same_held : (n : ℕ) (bs : List Branch) (stage : Stage) (changes : ℕ → List Change) → holding n (all_begun bs) stage changes ≡ holding n bs stage changes
same_held n bs stage changes = fun_ext (begun_held n bs stage changes)
