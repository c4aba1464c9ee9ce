-- A transaction put together of what was made for it.
use Rattle.std.proofs.Common.{◌≡◌, List, Option, ◌∙◌, ap}
use Rattle.catalog.specs.declared.tables.Table.{Table}
use Rattle.catalog.specs.Views.{View}
use Rattle.stmt_plan.specs.declared.planned.AnswerColumns.{AnswerColumns}
use Rattle.stmt_plan.specs.declared.planned.Plan.{Plan}
use Rattle.txn_phases.specs.declared.deed.Deed.{Deed}
use Rattle.txn_phases.specs.declared.job.Job.{Job}
use Rattle.txn_phases.specs.declared.job.TableScan.{TableScan}
use Rattle.txn_phases.specs.declared.phase.Branch.{Branch}
use Rattle.txn_phases.specs.declared.phase.Target.{Target}
use Rattle.txn_phases.specs.Phases.{new_job}
use Rattle.front_core.specs.declared.event.TxNo.{TxNo}
use Rattle.front_core.specs.declared.work.Running.{Running}
use Rattle.front_core.specs.Jobs.{branches_of, deed_by, columns_by}
use Rattle.front_core.specs.Planned.{run_by, scan_by, targets_by}

pub run_made : (catalog : View) (tx : TxNo) (table : Table) (plan : Plan) (targets : List Target) (branches : List Branch) (scan : TableScan) (d : Deed) (columns : Option AnswerColumns) (job : Job) →
    targets ≡ targets_by table plan → branches ≡ branches_of catalog tx targets → scan ≡ scan_by table plan → d ≡ deed_by table.def table.rule plan.work → columns ≡ columns_by plan.work →
    job ≡ new_job branches targets scan d → ◌≡◌ {A = Running} (record { tx = tx; table = plan.table; columns = columns; job = job }) (run_by catalog tx table plan)
run_made catalog tx table plan targets branches scan d columns job targets_is branches_is scan_is d_is columns_is job_is =
    let run : Option AnswerColumns → Job → Running = λ cs j. record { tx = tx; table = plan.table; columns = cs; job = j } in
    ap (λ (j : Job). run columns j) job_is
    ∙ ap (λ (cs : Option AnswerColumns). run cs (new_job branches targets scan d)) columns_is
    ∙ ap (λ (bs : List Branch). run (columns_by plan.work) (new_job bs targets scan d)) branches_is
    ∙ ap (λ (ts : List Target). run (columns_by plan.work) (new_job (branches_of catalog tx ts) ts scan d)) targets_is
    ∙ ap (λ (s : TableScan). run (columns_by plan.work) (new_job (branches_of catalog tx (targets_by table plan)) (targets_by table plan) s d)) scan_is
    ∙ ap (λ (e : Deed). run (columns_by plan.work) (new_job (branches_of catalog tx (targets_by table plan)) (targets_by table plan) (scan_by table plan) e)) d_is
