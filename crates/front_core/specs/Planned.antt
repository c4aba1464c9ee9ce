-- A statement's transaction by its plan, and what the code makes room for.
use Rattle.std.specs.Prelude.{ℕ, ◌+◌, ◌-◌, ◌^◌, ◌==◌, Bool, true, false, List, map, max, length, if◌then◌else◌}
use Rattle.std.specs.List.{filter}
use Rattle.sql_values.specs.declared.places.LockMode.{LockMode}
use Rattle.sql_values.specs.declared.places.LockMode.TheVariants.{Shared, Exclusive}
use Rattle.catalog.specs.declared.link.Link.{Link}
use Rattle.catalog.specs.declared.tables.Table.{Table}
use Rattle.catalog.specs.Views.{View}
use Rattle.stmt_plan.specs.declared.fault.StmtFault.{StmtFault}
use Rattle.stmt_plan.specs.declared.fault.StmtFault.TheVariants.{NoMemory}
use Rattle.stmt_plan.specs.declared.planned.Plan.{Plan}
use Rattle.stmt_plan.specs.Inserts.{key_name}
use Rattle.sql_replies.specs.Errors.{log_full_reply}
use Rattle.txn_phases.specs.declared.job.Job.{Job}
use Rattle.txn_phases.specs.declared.job.TableScan.{TableScan}
use Rattle.txn_phases.specs.declared.phase.Progress.{Progress}
use Rattle.txn_phases.specs.declared.phase.Progress.TheVariants.{Waits, Asks, Decides, Over}
use Rattle.txn_phases.specs.declared.phase.Target.{Target}
use Rattle.txn_phases.specs.Phases.{new_job}
use Rattle.front_core.specs.declared.event.TxNo.{TxNo}
use Rattle.front_core.specs.declared.work.Running.{Running}
use Rattle.front_core.specs.Core.{Stepped, answers, starts, tx_of}
use Rattle.front_core.specs.Jobs.{written, target_at, targets_of, branches_of, kinds_of, deed_by, columns_by}

-- whether a link is asked that isn't NG
abbrev pub is_asked : LockMode → Bool → Bool
is_asked Exclusive counts = true
is_asked Shared counts = counts

abbrev pub asked_in : LockMode → List (Link × Bool) → List (Link × Bool)
asked_in Exclusive links = links
asked_in Shared links = filter (λ x. x.1) links

-- the targets of the links that are left, where a link whose rows count has been found or hasn't
abbrev pub targets_left : LockMode → ℕ → Bool → List Link → List Target
targets_left mode p found links = map (target_at p) (asked_in mode (written found links))

abbrev pub targets_by : Table → Plan → List Target
targets_by table plan = targets_of plan.mode table.parts plan.parts

abbrev pub scan_by : Table → Plan → TableScan
scan_by table plan =
    record { key = key_name table.def; place = table.def.key; kinds = kinds_of table.def; items = plan.pushed; cond = plan.cond; limit = plan.limit; lock = plan.mode }

abbrev pub job_by : View → TxNo → Table → Plan → Job
job_by catalog tx table plan =
    new_job (branches_of catalog tx (targets_by table plan)) (targets_by table plan) (scan_by table plan) (deed_by table.def table.rule plan.work)

-- the statement of a plan, as the transaction of that number
abbrev pub run_by : View → TxNo → Table → Plan → Running
run_by catalog tx table plan = record { tx = tx; table = plan.table; columns = columns_by plan.work; job = job_by catalog tx table plan }

-- a number is drawn for it
abbrev pub draws : View → ℕ → Table → Plan → Stepped
draws catalog drawn table plan =
    if drawn == 2 ^ 64 - 1 then answers drawn log_full_reply else starts catalog (drawn + 1) (run_by catalog (tx_of (drawn + 1)) table plan)

-- what says nothing of the statement
abbrev pub is_no_memory : StmtFault → Bool
is_no_memory NoMemory = true
is_no_memory _ = false

-- so many requests a phase asks at most
abbrev pub most_asked : Job → ℕ
most_asked job = max (length job.branches) (length job.targets)

-- at most so many outputs a step gives out
abbrev pub needed : Progress → ℕ
needed (Waits server) = 1
needed (Asks asks) = length asks + 1
needed (Decides asks) = length asks + 2
needed (Over ending o) = 3

abbrev pub is_over : Progress → Bool
is_over (Waits server) = false
is_over (Asks asks) = false
is_over (Decides asks) = false
is_over (Over ending o) = true
