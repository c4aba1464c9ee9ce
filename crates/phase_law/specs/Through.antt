-- A statement's transaction over the stores of servers, phase by phase.
use Rattle.std.specs.Prelude.{◌≡◌, ℕ, zero, suc, ◌≤◌, ◌^◌, Bool, true, false, List, [], ◌∷◌, Option, Some, length, set, slice_get}
use Rattle.sql_text.specs.declared.link.LinkAnswer.{LinkAnswer}
use Rattle.branch_store.specs.Store.{Store, store_step}
use Rattle.txn_phases.specs.declared.deed.Outcome.{Outcome}
use Rattle.txn_phases.specs.declared.job.Job.{Job}
use Rattle.txn_phases.specs.declared.phase.Ending.{Ending}
use Rattle.txn_phases.specs.declared.phase.Ending.TheVariants.{Committed, Alone, RolledBack}
use Rattle.txn_phases.specs.declared.phase.Progress.{Progress}
use Rattle.txn_phases.specs.declared.phase.Progress.TheVariants.{Waits, Asks, Decides, Over}
use Rattle.txn_phases.specs.declared.requests.Ask.{Ask}
use Rattle.txn_phases.specs.Phases.{awaited, awaits, hears}

-- a request on connection n, with its server's store, the answer, and the stores that it leaves; the job awaits that answer, and goes on so
pub record Serves (n : ℕ) (stores : List Store) (job : Job) (ask : Ask) (left : List Store) (next : Job × Progress) : Type 0 where
  pub store : Store
  pub answer : LinkAnswer
  pub after : Store
  pub there : slice_get stores ask.server ≡ Some store
  pub step : store_step store n ask.request ≡ (after, answer)
  pub left_is : left ≡ set stores ask.server after
  pub server : awaited job ≡ Some ask.server
  pub fits : awaits job answer ≡ true
  pub next_is : hears job answer ≡ next

-- the requests of a phase are answered one after the other, and the last answer leads on
abbrev pub Heard : ℕ → List Store → Job → List Ask → List Store → Job × Progress → Type 0
Heard n stores job [] left next = ⊥
Heard n stores job (ask ∷ []) left next = Serves n stores job ask left next
Heard n stores job (ask ∷ other ∷ asks) left next =
    (middle : List Store) × (waiting : Job) × Serves n stores job ask middle (waiting, Waits other.server) × Heard n middle waiting (other ∷ asks) left next

-- a decision came before this ending, or didn't
abbrev pub is_committed : Ending → Bool
is_committed Committed = true
is_committed Alone = false
is_committed RolledBack = false

-- From these stores, and how the statement goes on, at most so many phases lead to the stores at its end, its ending and its outcome. No phase has more
-- than 2^35 requests. A decision is told once, and exactly where the ending is that it was committed.
abbrev pub Through : ℕ → ℕ → Bool → List Store → Job × Progress → List Store → Ending → Outcome → Type 0
Through most n decided stores (job, Over ending outcome) end how o = (end ≡ stores) × (ending ≡ how) × (outcome ≡ o) × (decided ≡ is_committed how)
Through (suc most) n decided stores (job, Asks asks) end how o =
    (length asks ≤ 2 ^ 35) × (middle : List Store) × (next : Job × Progress) × Heard n stores job asks middle next × Through most n decided middle next end how o
Through (suc most) n false stores (job, Decides asks) end how o =
    (length asks ≤ 2 ^ 35) × (middle : List Store) × (next : Job × Progress) × Heard n stores job asks middle next × Through most n true middle next end how o
Through most n decided stores (job, progress) end how o = ⊥
