-- A job after answers of its phase.
use Rattle.std.proofs.Common.{◌≡◌, ◌+◌, ◌++◌, ℕ, suc, Bool, true, false, ◌&&◌, List, [], ◌∷◌, map, length, refl, sym, ap, ◌∙◌, arith, append_assoc, append-nil, length-append, cond}
use Rattle.std.specs.List.{AllByRecursion, filter}
use Rattle.sql_values.specs.declared.value.Value.{Value}
use Rattle.sql_text.specs.declared.link.LinkAnswer.{LinkAnswer}
use Rattle.sql_text.specs.declared.link.LinkAnswer.TheVariants as answer
use Rattle.txn_phases.specs.declared.job.Job.{Job}
use Rattle.txn_phases.specs.declared.phase.Branch.{Branch}
use Rattle.txn_phases.specs.declared.phase.Target.{Target}
use Rattle.txn_phases.specs.Phases.{noted, keeps, hearing, with_branches, with_found, marked, marked_in, found_if, counts_at, is_begun, is_scanning, is_starting, server_at, begun_of}
use Rattle.phase_law.proofs.Stages.{noted_all}

-- WHAT AN ANSWER LEAVES AS IT WAS

pub record Frame (job next : Job) : Type 0 where
  pub asked : next.asked ≡ job.asked
  pub heard : next.heard ≡ job.heard + 1
  pub phase : next.phase ≡ job.phase
  pub scan : next.scan ≡ job.scan
  pub deed : next.deed ≡ job.deed

pub noted_frame : (job : Job) (a : LinkAnswer) → Frame job (noted job a)
noted_frame job (answer.Done count) = record { asked = refl; heard = refl; phase = refl; scan = refl; deed = refl }
noted_frame job (answer.Rows rows) = record { asked = refl; heard = refl; phase = refl; scan = refl; deed = refl }
noted_frame job (answer.Cells cells) = record { asked = refl; heard = refl; phase = refl; scan = refl; deed = refl }
noted_frame job (answer.Xids xids) = record { asked = refl; heard = refl; phase = refl; scan = refl; deed = refl }
noted_frame job (answer.Refused number message) = record { asked = refl; heard = refl; phase = refl; scan = refl; deed = refl }

-- the job after so many answers, with these branches and these answers found
abbrev pub job_at : Job → ℕ → List Branch → List LinkAnswer → Job
job_at job heard branches found = record job { heard = heard; branches = branches; found = found }

-- ALL WAS DONE

abbrev pub AllDone : List LinkAnswer → Type 0
AllDone answers = AllByRecursion (λ a. is_begun a ≡ true) answers

-- done, for each of these
abbrev pub dones : {X : Type 0} → List X → List LinkAnswer
dones xs = map (λ x. answer.Done 0) xs

pub dones_done : {X : Type 0} (xs : List X) → AllDone (dones xs)
dones_done [] = tt
dones_done (x ∷ xs) = (refl, dones_done xs)

kept_done : (server : ℕ) (counts : Bool) (a : LinkAnswer) (job : Job) → is_begun a ≡ true → keeps server counts a job ≡ job
kept_done server counts (answer.Done count) job done = refl
kept_done server counts (answer.Rows rows) job done = let no : ⊥ = cc in absurd no
kept_done server counts (answer.Cells cells) job done = let no : ⊥ = cc in absurd no
kept_done server counts (answer.Xids xids) job done = let no : ⊥ = cc in absurd no
kept_done server counts (answer.Refused number message) job done = let no : ⊥ = cc in absurd no

-- nothing but that an answer was heard
plain_noted : (job : Job) (a : LinkAnswer) → is_starting job.phase ≡ false → is_begun a ≡ true → noted job a ≡ job_at job (job.heard + 1) job.branches job.found
plain_noted job a later done =
    kept_done (server_at job.asked job.heard) _ a _ done ∙ ap (λ b. hearing (with_branches job (marked_in b job.heard a job.branches))) later

pub plainly_noted : (job : Job) (answers : List LinkAnswer) → is_starting job.phase ≡ false → AllDone answers → noted_all job answers ≡ job_at job (job.heard + length answers) job.branches job.found
plainly_noted job [] later done = let same : job.heard + 0 ≡ job.heard = omega arith in ap (λ k. job_at job k job.branches job.found) (sym same)
plainly_noted job (a ∷ answers) later (done, all) =
    let next : Job = job_at job (job.heard + 1) job.branches job.found in
    let so_many : (job.heard + 1) + length answers ≡ job.heard + suc (length answers) = omega arith in
    ap (λ j. noted_all j answers) (plain_noted job a later done) ∙ (plainly_noted next answers later all ∙ ap (λ k. job_at job k job.branches job.found) so_many)

-- BRANCHES BEGIN

abbrev pub with_begun : Branch → Branch
with_begun b = record { server = b.server; xid = b.xid; begun = true }

abbrev pub all_begun : List Branch → List Branch
all_begun branches = map with_begun branches

-- the job with all branches begun
abbrev pub begun : Job → Job
begun job = record job { branches = all_begun job.branches }

pub begun_are_begun : (branches : List Branch) → begun_of (all_begun branches) ≡ all_begun branches
begun_are_begun [] = refl
begun_are_begun (b ∷ branches) = ap (λ (l : List Branch). with_begun b ∷ l) (begun_are_begun branches)

marked_next : (before : List Branch) (b : Branch) (branches : List Branch) → marked (length before) true (before ++ b ∷ branches) ≡ before ++ with_begun b ∷ branches
marked_next [] b branches = refl
marked_next (c ∷ before) b branches = ap (λ l. c ∷ l) (marked_next before b branches)

start_noted : (job : Job) (a : LinkAnswer) → is_starting job.phase ≡ true → is_begun a ≡ true → noted job a ≡ job_at job (job.heard + 1) (marked job.heard true job.branches) job.found
start_noted job a starts done =
    kept_done (server_at job.asked job.heard) _ a _ done
    ∙ (ap (λ b. hearing (with_branches job (marked_in b job.heard a job.branches))) starts ∙ ap (λ b. hearing (with_branches job (marked job.heard b job.branches))) done)

-- from the branches on that stand behind those before
starts_on : (job : Job) (before branches : List Branch) (answers : List LinkAnswer) → is_starting job.phase ≡ true → AllDone answers → job.heard ≡ length before → job.branches ≡ before ++ branches → length answers ≡ length branches
    → noted_all job answers ≡ job_at job (job.heard + length answers) (before ++ all_begun branches) job.found
starts_on job before [] [] starts done at is so_many =
    let same : job.heard + 0 ≡ job.heard = omega arith in
    let branches_are : before ++ [] ≡ job.branches = sym is in
    ap (λ k. job_at job k job.branches job.found) (sym same) ∙ ap (λ l. job_at job (job.heard + 0) l job.found) is
starts_on job before [] (a ∷ answers) starts done at is so_many = let no : ⊥ = omega arith in absurd no
starts_on job before (b ∷ branches) [] starts done at is so_many = let no : ⊥ = omega arith in absurd no
starts_on job before (b ∷ branches) (a ∷ answers) starts (done, all) at is so_many =
    let next : Job = job_at job (job.heard + 1) (before ++ with_begun b ∷ branches) job.found in
    let begins : marked job.heard true job.branches ≡ before ++ with_begun b ∷ branches = ap (λ k. marked k true job.branches) at ∙ (ap (λ l. marked (length before) true l) is ∙ marked_next before b branches) in
    let step : noted job a ≡ next = start_noted job a starts done ∙ ap (λ l. job_at job (job.heard + 1) l job.found) begins in
    let more : List Branch = before ++ with_begun b ∷ [] in
    let heard : job.heard + 1 ≡ length more = omega (arith, length-append before (with_begun b ∷ [])) in
    let so_far : before ++ with_begun b ∷ branches ≡ more ++ branches = sym (append_assoc before (with_begun b ∷ []) branches) in
    let last : more ++ all_begun branches ≡ before ++ with_begun b ∷ all_begun branches = append_assoc before (with_begun b ∷ []) (all_begun branches) in
    let rest : length answers ≡ length branches = omega arith in
    let sum : (job.heard + 1) + length answers ≡ job.heard + suc (length answers) = omega arith in
    ap (λ j. noted_all j answers) step
    ∙ (starts_on next more branches answers starts all heard so_far rest ∙ (ap (λ k. job_at job k (more ++ all_begun branches) job.found) sum ∙ ap (λ l. job_at job (job.heard + suc (length answers)) l job.found) last))

-- where one answer comes for each branch
pub started_noted : (job : Job) (answers : List LinkAnswer) → is_starting job.phase ≡ true → AllDone answers → job.heard ≡ 0 → length answers ≡ length job.branches
    → noted_all job answers ≡ job_at job (length answers) (all_begun job.branches) job.found
started_noted job answers starts done none so_many =
    let sum : job.heard + length answers ≡ length answers = omega arith in
    starts_on job [] job.branches answers starts done none refl so_many ∙ ap (λ k. job_at job k (all_begun job.branches) job.found) sum

-- ROWS AND AGGREGATES ARE FOUND

-- rows, or aggregates
abbrev pub is_finding : LinkAnswer → Bool
is_finding (answer.Rows rows) = true
is_finding (answer.Cells cells) = true
is_finding _ = false

abbrev pub AllFound : List LinkAnswer → Type 0
AllFound answers = AllByRecursion (λ a. is_finding a ≡ true) answers

-- the answers of the links that count, in order
abbrev pub counted : List Target → List LinkAnswer → List LinkAnswer
counted [] found = []
counted (t ∷ targets) [] = []
counted (t ∷ targets) (a ∷ found) = found_if t.counts a ++ counted targets found

counts_next : (before : List Target) (t : Target) (targets : List Target) → counts_at (before ++ t ∷ targets) (length before) ≡ t.counts
counts_next [] t targets = refl
counts_next (u ∷ before) t targets = counts_next before t targets

kept_found : (server : ℕ) (counts : Bool) (a : LinkAnswer) (job : Job) → is_finding a ≡ true → keeps server counts a job ≡ with_found job (found_if counts a)
kept_found server counts (answer.Rows rows) job finds = refl
kept_found server counts (answer.Cells cells) job finds = refl
kept_found server counts (answer.Done count) job finds = let no : ⊥ = cc in absurd no
kept_found server counts (answer.Xids xids) job finds = let no : ⊥ = cc in absurd no
kept_found server counts (answer.Refused number message) job finds = let no : ⊥ = cc in absurd no

found_noted : (job : Job) (a : LinkAnswer) → is_starting job.phase ≡ false → is_scanning job.phase ≡ true → is_finding a ≡ true
    → noted job a ≡ job_at job (job.heard + 1) job.branches (job.found ++ found_if (counts_at job.targets job.heard) a)
found_noted job a later scans finds =
    kept_found (server_at job.asked job.heard) _ a _ finds
    ∙ ap (λ b. with_found (hearing (with_branches job (marked_in b job.heard a job.branches))) (found_if (is_scanning job.phase && counts_at job.targets job.heard) a)) later
    ∙ ap (λ b. with_found (hearing job) (found_if (b && counts_at job.targets job.heard) a)) scans

-- from the links on that stand behind those before
found_on : (job : Job) (before targets : List Target) (found : List LinkAnswer) → is_starting job.phase ≡ false → is_scanning job.phase ≡ true → AllFound found → job.heard ≡ length before → job.targets ≡ before ++ targets → length found ≡ length targets
    → noted_all job found ≡ job_at job (job.heard + length found) job.branches (job.found ++ counted targets found)
found_on job before [] [] later scans finds at is so_many =
    let same : job.heard + 0 ≡ job.heard = omega arith in
    ap (λ k. job_at job k job.branches job.found) (sym same) ∙ ap (λ l. job_at job (job.heard + 0) job.branches l) (sym (append-nil job.found))
found_on job before [] (a ∷ found) later scans finds at is so_many = let no : ⊥ = omega arith in absurd no
found_on job before (t ∷ targets) [] later scans finds at is so_many = let no : ⊥ = omega arith in absurd no
found_on job before (t ∷ targets) (a ∷ found) later scans (finds, all) at is so_many =
    let here : List LinkAnswer = found_if t.counts a in
    let next : Job = job_at job (job.heard + 1) job.branches (job.found ++ here) in
    let counts : counts_at job.targets job.heard ≡ t.counts = ap (λ k. counts_at job.targets k) at ∙ (ap (λ l. counts_at l (length before)) is ∙ counts_next before t targets) in
    let step : noted job a ≡ next = found_noted job a later scans finds ∙ ap (λ b. job_at job (job.heard + 1) job.branches (job.found ++ found_if b a)) counts in
    let more : List Target = before ++ t ∷ [] in
    let heard : job.heard + 1 ≡ length more = omega (arith, length-append before (t ∷ [])) in
    let so_far : job.targets ≡ more ++ targets = is ∙ sym (append_assoc before (t ∷ []) targets) in
    let rest : length found ≡ length targets = omega arith in
    let sum : (job.heard + 1) + length found ≡ job.heard + suc (length found) = omega arith in
    ap (λ j. noted_all j found) step
    ∙ (found_on next more targets found later scans all heard so_far rest
    ∙ (ap (λ k. job_at job k job.branches ((job.found ++ here) ++ counted targets found)) sum ∙ ap (λ l. job_at job (job.heard + suc (length found)) job.branches l) (append_assoc job.found here (counted targets found))))

-- where an answer of each link comes
pub scanned_noted : (job : Job) (found : List LinkAnswer) → is_starting job.phase ≡ false → is_scanning job.phase ≡ true → AllFound found → job.heard ≡ 0 → length found ≡ length job.targets
    → noted_all job found ≡ job_at job (length found) job.branches (job.found ++ counted job.targets found)
scanned_noted job found later scans finds none so_many =
    let sum : job.heard + length found ≡ length found = omega arith in
    found_on job [] job.targets found later scans finds none refl so_many ∙ ap (λ k. job_at job k job.branches (job.found ++ counted job.targets found)) sum
