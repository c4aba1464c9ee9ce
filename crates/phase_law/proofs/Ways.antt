-- The ways from one phase to the next, up to where the rows are found and written.
use Rattle.std.proofs.Common.{◌≡◌, ◌<◌, ◌≤◌, ◌^◌, ℕ, zero, suc, ◌==◌, Bool, true, false, ◌||◌, List, [], ◌∷◌, map, length, refl, sym, ap, ◌∙◌, arith, subst}
use Rattle.std.proofs.lemmas.List.{length-map}
use Rattle.sql_text.specs.declared.link.LinkAnswer.{LinkAnswer}
use Rattle.sql_text.specs.declared.link.LinkRequest.TheVariants as request
use Rattle.branch_store.specs.declared.branch.Stage.TheVariants.{Active}
use Rattle.branch_store.specs.Store.{Store}
use Rattle.branch_store.specs.Tables.{Table}
use Rattle.txn_phases.specs.declared.deed.Outcome.{Outcome}
use Rattle.txn_phases.specs.declared.job.Job.{Job}
use Rattle.txn_phases.specs.declared.phase.Branch.{Branch}
use Rattle.txn_phases.specs.declared.phase.Ending.{Ending}
use Rattle.txn_phases.specs.declared.phase.Phase.TheVariants as phase
use Rattle.txn_phases.specs.declared.phase.Progress.{Progress}
use Rattle.txn_phases.specs.declared.phase.Progress.TheVariants.{Waits, Asks, Decides, Over}
use Rattle.txn_phases.specs.declared.requests.Ask.{Ask}
use Rattle.txn_phases.specs.Phases.{asking, begins, begins_by, begun_of, concluded, ends, follows, scans_of, writes_by}
use Rattle.phase_law.specs.Through.{Through}
use Rattle.phase_law.proofs.Apart.{AreApart, among, to_all}
use Rattle.phase_law.proofs.Endings.{HaveBegun}
use Rattle.phase_law.proofs.Noted.{AllDone, AllFound, all_begun, begun, begun_are_begun, with_begun}
use Rattle.phase_law.proofs.Phases.{FitScans, put_phase, same_held, scan_phase, scanned, start_phase}
use Rattle.phase_law.proofs.Stages.{Served, holding, no_branches, no_changes, stores_as}

-- more phases may be allowed than there are
pub through_more : (most n : ℕ) (decided : Bool) (stores : List Store) (job : Job) (progress : Progress) (last : List Store) (how : Ending) (o : Outcome) → Through most n decided stores (job, progress) last how o → Through (suc most) n decided stores (job, progress) last how o
through_more zero n decided stores job (Over ending outcome) last how o through = through
through_more (suc most) n decided stores job (Over ending outcome) last how o through = through
through_more zero n decided stores job (Asks asks) last how o through = absurd through
through_more zero n false stores job (Decides asks) last how o through = absurd through
through_more zero n true stores job (Decides asks) last how o through = absurd through
through_more (suc most) n true stores job (Decides asks) last how o through = absurd through
through_more zero n decided stores job (Waits server) last how o through = absurd through
through_more (suc most) n decided stores job (Waits server) last how o through = absurd through
through_more (suc most) n decided stores job (Asks asks) last how o (few, middle, next, heard, through) = (few, middle, next, heard, through_more most n decided middle next.0 next.1 last how o through)
through_more (suc most) n false stores job (Decides asks) last how o (few, middle, next, heard, through) = (few, middle, next, heard, through_more most n true middle next.0 next.1 last how o through)

-- BRANCHES THAT WERE BEGUN

pub among_begun : (s : ℕ) (bs : List Branch) → among s (all_begun bs) ≡ among s bs
among_begun s [] = refl
among_begun s (b ∷ bs) = ap (λ x. (b.server == s) || x) (among_begun s bs)

pub apart_begun : (servers : ℕ) (bs : List Branch) → AreApart servers bs → AreApart servers (all_begun bs)
apart_begun servers [] apart = tt
apart_begun servers (b ∷ bs) (below, alone, apart) = (below, among_begun b.server bs ∙ alone, apart_begun servers bs apart)

-- a job whose branches are these, begun
pub have_begun : (servers : ℕ) (bs : List Branch) (job : Job) → job.branches ≡ all_begun bs → AreApart servers bs → 0 < length bs → length bs ≤ 2 ^ 35 → HaveBegun servers job
have_begun servers bs job is apart some few =
    let same : length job.branches ≡ length bs = ap length is ∙ length-map bs with_begun in
    record {
      begun = subst (λ l. begun_of l ≡ l) (sym is) (begun_are_begun bs);
      apart = subst (AreApart servers) (sym is) (apart_begun servers bs apart);
      some = omega arith;
      few = rw same few;
    }

-- THE FIRST PHASES

begins_so : (job : Job) (bs : List Branch) → 0 < length bs → ◌≡◌ {A = Job × Progress} (begins_by job (to_all (λ xid. request.Start xid) bs)) (asking job phase.Starting (to_all (λ xid. request.Start xid) bs))
begins_so job [] some = let no : ⊥ = omega arith in absurd no
begins_so job (b ∷ bs) some = refl

-- the branches begin, and the links are scanned then
pub starts_through : (most n servers : ℕ) (tables : ℕ → List Table) (job : Job) (last : List Store) (how : Ending) (o : Outcome) → AreApart servers job.branches → 0 < length job.branches → length job.branches ≤ 2 ^ 35
    → Through most n false (stores_as servers tables (holding n job.branches Active no_changes)) (asking (begun job) phase.Scanning (scans_of job.scan job.targets)) last how o
    → Through (suc most) n false (stores_as servers tables no_branches) (begins job) last how o
starts_through most n servers tables job last how o apart some few through =
    let asked : Through (suc most) n false (stores_as servers tables no_branches) (asking job phase.Starting (to_all (λ xid. request.Start xid) job.branches)) last how o =
    (rw length-map few, stores_as servers tables (holding n job.branches Active no_changes), follows phase.Starting (begun job), start_phase n servers tables job apart some, through) in
    subst (λ (next : Job × Progress). Through (suc most) n false (stores_as servers tables no_branches) next last how o) (sym (begins_so job job.branches some)) asked

-- the links are scanned, and what is found decides then
pub scans_through : (most n : ℕ) (stores : List Store) (job : Job) (found : List LinkAnswer) (left last : List Store) (how : Ending) (o : Outcome)
    → Served n stores (scans_of job.scan job.targets) found left → AllFound found → FitScans job found → length found ≡ length job.targets → 0 < length job.targets
    → length job.targets ≤ 2 ^ 35 → Through most n false left (concluded (scanned job found)) last how o → Through (suc most) n false stores (asking job phase.Scanning (scans_of job.scan job.targets)) last how o
scans_through most n stores job found left last how o served finds fits so_many some few through =
    (rw length-map few, left, concluded (scanned job found), scan_phase n stores job found left served finds fits so_many some, through)

-- rows are put, where there are any, and the branches end then
pub writes_through : (most n : ℕ) (stores : List Store) (job : Job) (outcome : Outcome) (asks : List Ask) (answers : List LinkAnswer) (left last : List Store) (how : Ending) (o : Outcome)
    → Served n stores asks answers left → AllDone answers → length asks ≤ 2 ^ 35 → Through most n false left (ends job outcome) last how o → Through (suc most) n false stores (writes_by job outcome asks) last how o
writes_through most n stores job outcome [] [] left last how o served done few through =
    through_more most n false stores (ends job outcome).0 (ends job outcome).1 last how o (subst (λ (l : List Store). Through most n false l (ends job outcome) last how o) served through)
writes_through most n stores job outcome [] (a ∷ answers) left last how o served done few through = absurd served
writes_through most n stores job outcome (ask ∷ asks) answers left last how o served done few through = (few, left, ends job outcome, put_phase n stores job outcome (ask ∷ asks) answers left served done (omega arith), through)

-- without branches what decides is at once that nothing is found
pub begins_alone : (job : Job) → job.branches ≡ [] → ◌≡◌ {A = Job × Progress} (begins job) (concluded job)
begins_alone job none = ap (λ l. begins_by job (to_all (λ xid. request.Start xid) l)) none

-- the branches begin and the links are scanned, and what is found decides then
pub finds_through : (most n servers : ℕ) (tables : ℕ → List Table) (job : Job) (found : List LinkAnswer) (last : List Store) (how : Ending) (o : Outcome) → AreApart servers job.branches → 0 < length job.branches → length job.branches ≤ 2 ^ 35
    → Served n (stores_as servers tables (holding n job.branches Active no_changes)) (scans_of job.scan job.targets) found (stores_as servers tables (holding n job.branches Active no_changes))
    → AllFound found → FitScans job found → length found ≡ length job.targets → 0 < length job.targets → length job.targets ≤ 2 ^ 35
    → Through most n false (stores_as servers tables (holding n (all_begun job.branches) Active no_changes)) (concluded (scanned (begun job) found)) last how o
    → Through (suc (suc most)) n false (stores_as servers tables no_branches) (begins job) last how o
finds_through most n servers tables job found last how o apart some few served finds fits so_many links few_links through =
    let held : holding n (all_begun job.branches) Active no_changes ≡ holding n job.branches Active no_changes = same_held n job.branches Active no_changes in
    let stores : List Store = stores_as servers tables (holding n job.branches Active no_changes) in
    let goes : Through most n false stores (concluded (scanned (begun job) found)) last how o = subst (λ h. Through most n false (stores_as servers tables h) (concluded (scanned (begun job) found)) last how o) held through in
    starts_through (suc most) n servers tables job last how o apart some few (scans_through most n stores (begun job) found stores last how o served finds fits so_many links few_links goes)
