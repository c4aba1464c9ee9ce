-- The plan of a statement makes the job that is meant.
use Rattle.std.proofs.Common.{◌≡◌, ◌-◌, ◌+◌, ◌^◌, ◌==◌, ℕ, Bool, List, Option, Some, None, map, length, get_or, cond, refl, sym, ◌∙◌, ap, subst}
use Rattle.std.specs.Prelude.{slice_get}
use Rattle.std.proofs.lemmas.Option.{slice_get_read, slice_get_within}
use Rattle.sql_values.specs.declared.places.LockMode.{LockMode}
use Rattle.sql_values.specs.declared.table.TableDef.{TableDef}
use Rattle.sql_values.specs.declared.tree.Cond.{Cond}
use Rattle.sql_values.specs.KeySets.{AreBigInts}
use Rattle.part_rules.specs.Placing.{IsRule}
use Rattle.catalog.specs.declared.tables.Table.{Table}
use Rattle.catalog.specs.Views.{View}
use Rattle.catalog_plan.specs.Plans.{IsFound, IsPlanned, table_of}
use Rattle.sql_text.specs.declared.link.ScanItems.{ScanItems}
use Rattle.sql_text.specs.declared.statement.TableStatement.{TableStatement}
use Rattle.sql_text.specs.declared.statement.TableStatement.TheVariants as statement
use Rattle.stmt_plan.specs.declared.planned.Plan.{Plan}
use Rattle.stmt_plan.specs.declared.planned.Work.{Work}
use Rattle.stmt_plan.specs.Inserts.{in_keys, key_name, row_key, rows_of}
use Rattle.stmt_plan.specs.Plans.{IsPlan, IsPushed, items_of, limit_of, mode_of, keeps_key}
use Rattle.stmt_plan.specs.Refusals.{refusal}
use Rattle.sql_replies.specs.Errors.{log_full_reply}
use Rattle.txn_phases.specs.declared.job.Job.{Job}
use Rattle.txn_phases.specs.Phases.{new_job}
use Rattle.front_core.specs.declared.event.TxNo.{TxNo}
use Rattle.front_core.specs.declared.work.Running.{Running}
use Rattle.front_core.specs.Asked.{pushed, parts_with, parts_asked}
use Rattle.front_core.specs.Core.{Stepped, begins_at, begins_on, new_run, starts, answers, table_named, tx_of}
use Rattle.front_core.specs.Jobs.{targets_of, branches_of, kinds_of, deed_by, columns_by}
use Rattle.front_core.specs.Planned.{run_by, draws}
use Rattle.front_core.proofs.Named.{found_is_named}
use Rattle.front_core.proofs.Parting.{parts_are}
use Rattle.front_core.proofs.Rising.{rising_is}

-- the condition
cond_is : (def : TableDef) (s : TableStatement) (cond : Option Cond) → IsPushed def s cond → cond ≡ pushed def s
cond_is def (statement.Insert insert) cond asks =
    asks.in_list ∙ ap (λ l. Some (in_keys def l)) (rising_is asks.list (map (row_key def.key) (rows_of def insert.columns insert.rows)) asks.rising)
cond_is def (statement.Select select) cond is = is
cond_is def (statement.Update update) cond is = is
cond_is def (statement.Delete delete) cond is = is

-- the job of these parts of a plan
abbrev job_with : View → TxNo → Table → List ℕ → ScanItems → Option Cond → Option ℕ → LockMode → Work → Job
job_with catalog tx table parts items cond limit mode work =
    new_job (branches_of catalog tx (targets_of mode table.parts parts)) (targets_of mode table.parts parts)
    (record { key = key_name table.def; place = table.def.key; kinds = kinds_of table.def; items = items; cond = cond; limit = limit; lock = mode })
    (deed_by table.def table.rule work)

abbrev run_with : View → TxNo → Table → ℕ → List ℕ → ScanItems → Option Cond → Option ℕ → LockMode → Work → Running
run_with catalog tx table number parts items cond limit mode work =
    record { tx = tx; table = number; columns = columns_by work; job = job_with catalog tx table parts items cond limit mode work }

module _ (catalog : View) (s : TableStatement) (table : Table) (number : ℕ) (plan : Plan) (is : IsPlan number table.def table.rule s plan) (is_rule : IsRule table.rule) (ends : AreBigInts plan.keys) where
  cond_same : plan.cond ≡ pushed table.def s
  cond_same = cond_is table.def s plan.cond is.cond

  parts_same : plan.parts ≡ parts_asked table.def table.rule s
  parts_same =
      parts_are table.rule (keeps_key table.def plan.cond) plan.keys is_rule ends is.keys plan.parts is.parts
      ∙ ap (λ (c : Option Cond). parts_with table.rule (keeps_key table.def c)) cond_same

  abbrev asked : List ℕ
  asked = parts_asked table.def table.rule s

  run_is : (tx : TxNo) → run_by catalog tx table plan ≡ new_run catalog tx number table s
  run_is tx =
      ap (λ (n : ℕ). run_with catalog tx table n plan.parts plan.pushed plan.cond plan.limit plan.mode plan.work) is.table_is
      ∙ ap (λ (ps : List ℕ). run_with catalog tx table number ps plan.pushed plan.cond plan.limit plan.mode plan.work) parts_same
      ∙ ap (λ (i : ScanItems). run_with catalog tx table number asked i plan.cond plan.limit plan.mode plan.work) is.items
      ∙ ap (λ (c : Option Cond). run_with catalog tx table number asked (items_of s) c plan.limit plan.mode plan.work) cond_same
      ∙ ap (λ (l : Option ℕ). run_with catalog tx table number asked (items_of s) (pushed table.def s) l plan.mode plan.work) is.limit_is
      ∙ ap (λ (m : LockMode). run_with catalog tx table number asked (items_of s) (pushed table.def s) (limit_of table.def s) m plan.work) is.mode
      ∙ ap (λ (w : Work). run_with catalog tx table number asked (items_of s) (pushed table.def s) (limit_of table.def s) (mode_of s) w) is.work_is

  abbrev drawn_by : Bool → ℕ → Running → Stepped
  drawn_by b drawn run = cond b (answers drawn log_full_reply) (starts catalog (drawn + 1) run)

  draws_is : (drawn : ℕ) → draws catalog drawn table plan ≡ begins_on catalog drawn s number table None
  draws_is drawn = ap (λ (run : Running). drawn_by (drawn == 2 ^ 64 - 1) drawn run) (run_is (tx_of (drawn + 1)))

-- a statement that has a plan draws a number
pub planned_draws : (catalog : View) (s : TableStatement) (plan : Plan) (table : Table) (drawn : ℕ) → IsPlanned catalog.tables s plan → slice_get catalog.tables plan.table ≡ Some table →
    IsRule table.rule → AreBigInts plan.keys → draws catalog drawn table plan ≡ begins_at catalog drawn s (table_named catalog.tables (table_of s))
planned_draws catalog s plan table drawn is at is_rule ends =
    let both : Some is.table ≡ Some table = sym is.found.at ∙ (ap (slice_get catalog.tables) (sym is.planned.table_is) ∙ at) in
    let same : is.table ≡ table = cc in
    let found : IsFound catalog.tables (table_of s) is.number table = subst (λ (t : Table). IsFound catalog.tables (table_of s) is.number t) same is.found in
    let planned : IsPlan is.number table.def table.rule s plan = subst (λ (t : Table). IsPlan is.number t.def t.rule s plan) same is.planned in
    let passes : refusal table.def table.rule s ≡ None = subst (λ (t : Table). refusal t.def t.rule s ≡ None) same is.passes in
    draws_is catalog s table is.number plan planned is_rule ends drawn
    ∙ sym (ap (begins_at catalog drawn s) (found_is_named catalog.tables (table_of s) is.number table found) ∙ ap (begins_on catalog drawn s is.number table) passes)

-- the table of a plan stands at its number
pub planned_at : (tables : List Table) (s : TableStatement) (plan : Plan) (table : Table) → IsPlanned tables s plan → table ≡ get_or tables plan.table table → slice_get tables plan.table ≡ Some table
planned_at tables s plan table is there =
    let at : slice_get tables plan.table ≡ Some is.table = ap (slice_get tables) is.planned.table_is ∙ is.found.at in
    slice_get_read tables (length tables) plan.table table refl (slice_get_within tables plan.table is.table at) there
