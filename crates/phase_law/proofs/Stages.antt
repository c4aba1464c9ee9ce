-- The stores in the middle of a statement's transaction.
use Rattle.std.specs.Prelude.{◌≡◌, ℕ, ◌==◌, true, List, [], ◌∷◌, Some, map, set, slice_get, if◌then◌else◌}
use Rattle.std.specs.List.{AllByRecursion, flat_map, range_with_len}
use Rattle.sql_text.specs.declared.link.LinkAnswer.{LinkAnswer}
use Rattle.branch_store.specs.declared.branch.Branch as backend
use Rattle.branch_store.specs.declared.branch.Change.{Change}
use Rattle.branch_store.specs.declared.branch.Stage.{Stage}
use Rattle.branch_store.specs.Store.{Store, store_step}
use Rattle.branch_store.specs.Tables.{Table}
use Rattle.txn_phases.specs.declared.job.Job.{Job}
use Rattle.txn_phases.specs.declared.phase.Branch.{Branch}
use Rattle.txn_phases.specs.declared.requests.Ask.{Ask}
use Rattle.txn_phases.specs.Phases.{has_form, noted}

-- THE STORES

-- so many servers' stores, with these tables and branches at each
abbrev pub stores_as : ℕ → (ℕ → List Table) → (ℕ → List backend.Branch) → List Store
stores_as servers tables branches = map (λ s. record { tables = tables s; branches = branches s }) (range_with_len 0 servers)

-- the transaction's branch on connection n at a server, where it has one there: at that stage, with these changes
abbrev pub branch_there : ℕ → Stage → List Change → ℕ → Branch → List backend.Branch
branch_there n stage changes s b = if b.server == s then record { xid = b.xid; stage = stage; owner = n; changes = changes } ∷ [] else []

abbrev pub holding : ℕ → List Branch → Stage → (ℕ → List Change) → ℕ → List backend.Branch
holding n branches stage changes s = flat_map (branch_there n stage (changes s) s) branches

-- no change of any branch
abbrev pub no_changes : ℕ → List Change
no_changes s = []

-- no branch anywhere
abbrev pub no_branches : ℕ → List backend.Branch
no_branches s = []

-- REQUESTS AND ANSWERS

-- the requests are served one after the other, on connection n, with these answers
abbrev pub Served : ℕ → List Store → List Ask → List LinkAnswer → List Store → Type 0
Served n stores [] [] left = left ≡ stores
Served n stores (ask ∷ asks) (answer ∷ answers) left =
    (store : Store) × (after : Store) × (slice_get stores ask.server ≡ Some store) × (store_step store n ask.request ≡ (after, answer)) × Served n (set stores ask.server after) asks answers left
Served n stores [] (answer ∷ answers) left = ⊥
Served n stores (ask ∷ asks) [] left = ⊥

-- a job after these answers were noted
abbrev pub noted_all : Job → List LinkAnswer → Job
noted_all job [] = job
noted_all job (answer ∷ answers) = noted_all (noted job answer) answers

-- each answer has the form of the phase
abbrev pub HaveForm : Job → List LinkAnswer → Type 0
HaveForm job answers = AllByRecursion (λ answer. has_form job.phase job.deed job.scan.kinds answer ≡ true) answers
