-- The front as a machine: what an event makes of it, and what it gives out.
use Rattle.std.specs.Prelude.{◌≡◌, ℕ, ◌+◌, ◌-◌, ◌^◌, ◌==◌, ◌&&◌, Bool, true, false, List, [], ◌∷◌, ◌++◌, Option, Some, None, Result, Ok, Err, if◌then◌else◌, map, length, nat_le, nat_lt, is_some, is_none, slice_get, option_and_then}
use Rattle.std.specs.List.{list_all}
use Rattle.std.specs.Option.{option_map_or}
use Rattle.std.specs.Ordering.{nat_cmp}
use Rattle.std.specs.BTreeMap.{is_at, insert_entry}
use Rattle.std.specs.Map.{lookup, set_value, remove_entry}
use Rattle.sql_values.specs.declared.table.TableDef.{TableDef}
use Rattle.catalog.specs.declared.tables.Table.{Table}
use Rattle.catalog.specs.Index.{place_in}
use Rattle.catalog.specs.Views.{View, table_name}
use Rattle.sql_text.specs.declared.fault.ParseFault.{ParseFault}
use Rattle.sql_text.specs.declared.link.LinkAnswer.{LinkAnswer}
use Rattle.sql_text.specs.declared.statement.Statement.{Statement}
use Rattle.sql_text.specs.declared.statement.Statement.TheVariants as client
use Rattle.sql_text.specs.declared.statement.TableStatement.{TableStatement}
use Rattle.sql_text.specs.Parsing.{parsed}
use Rattle.stmt_plan.specs.declared.fault.StmtFault.{StmtFault}
use Rattle.stmt_plan.specs.declared.planned.AnswerColumns.{AnswerColumns}
use Rattle.stmt_plan.specs.declared.planned.AnswerColumns.TheVariants as columns
use Rattle.stmt_plan.specs.declared.planned.CellColumn.{CellColumn}
use Rattle.stmt_plan.specs.declared.planned.Picks.{Picks}
use Rattle.stmt_plan.specs.Apart.{are_apart, has_number_key}
use Rattle.stmt_plan.specs.Plans.{work_of as work_planned}
use Rattle.stmt_plan.specs.Refusals.{refusal}
use Rattle.catalog_plan.specs.Plans.{table_of}
use Rattle.my_messages.specs.declared.reply.Reply.{Reply}
use Rattle.sql_replies.specs.Admin.{admin_reply}
use Rattle.sql_replies.specs.Errors.{no_memory_reply, no_table_reply, log_full_reply, limit_reply, parse_reply, plan_reply}
use Rattle.front_rows.specs.Cells.{Cell}
use Rattle.sql_replies.specs.Outcomes.{outcome_reply, are_short_rows, is_short_cell}
use Rattle.std.specs.Prelude.{codes}
use Rattle.txn_phases.specs.declared.deed.Outcome.{Outcome}
use Rattle.txn_phases.specs.declared.deed.Outcome.TheVariants as outcome
use Rattle.txn_phases.specs.declared.job.Job.{Job}
use Rattle.txn_phases.specs.declared.owed.Owed.{Owed}
use Rattle.txn_phases.specs.declared.phase.Ending.{Ending}
use Rattle.txn_phases.specs.declared.phase.Ending.TheVariants.{Committed, Alone, RolledBack}
use Rattle.txn_phases.specs.declared.phase.Progress.{Progress}
use Rattle.txn_phases.specs.declared.phase.Progress.TheVariants.{Waits, Asks, Decides, Over}
use Rattle.txn_phases.specs.declared.requests.Ask.{Ask}
use Rattle.txn_phases.specs.Phases.{begins as job_begins, hears as job_hears, awaited, awaits, owed_next, owed_hears, owed_undoes, owed_noted, to_undo}
use Rattle.front_core.specs.declared.event.TxNo.{TxNo}
use Rattle.front_core.specs.declared.work.Running.{Running}
use Rattle.front_core.specs.declared.work.Work.{Work}
use Rattle.front_core.specs.declared.work.Work.TheVariants.{Idle, Owing, Clearing, Runs}
use Rattle.front_core.specs.declared.event.Event.{Event}
use Rattle.front_core.specs.declared.event.Event.TheVariants.{Open, Statement as Asked, Got, Closed}
use Rattle.front_core.specs.declared.event.Output.{Output}
use Rattle.front_core.specs.declared.event.Output.TheVariants.{Send, Await, Decided, Acked, Answer}
use Rattle.front_core.specs.declared.event.Outputs.{Outputs}
use Rattle.front_core.specs.declared.event.Outputs.TheVariants.{Given, NoRoom}
use Rattle.front_core.specs.Jobs.{job_of, columns_by}

-- THE STATE

-- the configuration, how many numbers were drawn, and the open sessions by number, each with what its statement waits for
pub record Front : Type 0 where
  pub catalog : View
  pub drawn : ℕ
  pub sessions : List (ℕ × Work)

-- the front as it starts
abbrev pub new_front : View → Front
new_front catalog = record { catalog = catalog; drawn = 0; sessions = [] }

-- what an open session's statement waits for
abbrev pub work_of : Front → ℕ → Option Work
work_of front n = lookup (is_at (nat_cmp n)) front.sessions

-- no statement is at work
abbrev pub is_idle : Work → Bool
is_idle Idle = true
is_idle (Owing owed) = true
is_idle (Clearing owed text) = false
is_idle (Runs run) = false

-- the session is open, and none of its statements is at work
abbrev pub rests : Option Work → Bool
rests None = false
rests (Some work) = is_idle work

-- more answers than any statement waits for
unfoldable pub most_turns : ℕ
most_turns = 2 ^ 64 - 1

-- WHICH EVENTS FIT

abbrev pub is_server : Option ℕ → ℕ → Bool
is_server next server = option_map_or (λ s. s == server) next false

-- the session reads from that server, and the answer has the form of the one that is awaited. One that is owed may have any form
abbrev pub takes : Option Work → ℕ → LinkAnswer → Bool
takes None server answer = false
takes (Some Idle) server answer = false
takes (Some (Owing owed)) server answer = false
takes (Some (Clearing owed text)) server answer = is_server (owed_next owed) server
takes (Some (Runs run)) server answer = is_server (awaited run.job) server && awaits run.job answer

-- a new session has a number from 1 on that isn't open; a statement comes to a session that is open and idle; an answer comes to a session that
-- reads from its server, in its request's form; an open session may be closed, in the middle of a statement too
abbrev pub fits : Front → Event → Bool
fits front (Open n) = nat_lt 0 n && is_none (work_of front n)
fits front (Asked n text) = rests (work_of front n)
fits front (Got n server answer) = takes (work_of front n) server answer
fits front (Closed n) = is_some (work_of front n)

-- WHAT IS GIVEN OUT

abbrev pub sent : List Ask → List Output
sent asks = map (λ (a : Ask). Send a.server a.request) asks

abbrev pub first_awaited : List Ask → List Output
first_awaited [] = []
first_awaited (a ∷ asks) = Await a.server ∷ []

-- requests, and then the first one's answer is read
abbrev pub asked : List Ask → List Output
asked asks = sent asks ++ first_awaited asks

-- THE REPLY

-- rows that were found fit packets: the answer has 1 to 900 columns, and no text is longer than a column may hold
abbrev pub are_few : Picks → Bool
are_few picks = nat_lt 0 (length picks.picks) && nat_le (length picks.picks) 900

-- and so do aggregates, of which each has its cell
abbrev pub are_few_cells : List CellColumn → List Cell → Bool
are_few_cells list cells = (nat_lt 0 (length list) && nat_le (length list) 900) && ((length cells == length list) && list_all is_short_cell cells)

abbrev pub is_showable : Option AnswerColumns → Outcome → Bool
is_showable (Some (columns.Picks picks)) (outcome.Found rows) = are_few picks && are_short_rows rows
is_showable (Some (columns.Cells list)) (outcome.Cells cells) = are_few_cells list cells
is_showable _ _ = true

-- what a client is told of an outcome. Rows that no packets can hold, which no table has, are refused as too large an answer
abbrev pub outcome_told : View → Option AnswerColumns → TableDef → Outcome → Reply
outcome_told catalog columns def o = if is_showable columns o then outcome_reply def columns catalog.servers o else limit_reply (codes "answer")

abbrev pub reply_on : View → Option AnswerColumns → Option Table → Outcome → Reply
reply_on catalog columns None o = no_memory_reply
reply_on catalog columns (Some table) o = outcome_told catalog columns table.def o

abbrev pub reply_to : View → Running → Outcome → Reply
reply_to catalog run o = reply_on catalog run.columns (slice_get catalog.tables run.table) o

-- HOW A STATEMENT GOES ON

abbrev pub with_job : Running → Job → Running
with_job run job = record { tx = run.tx; table = run.table; columns = run.columns; job = job }

-- a decision is told before its COMMITs, or before its acknowledgement where there is none to send
abbrev pub ended : TxNo → Ending → Reply → List Output
ended tx Committed reply = Acked tx ∷ Answer (Some tx) reply ∷ []
ended tx Alone reply = Decided tx ∷ Acked tx ∷ Answer (Some tx) reply ∷ []
ended tx RolledBack reply = Answer (Some tx) reply ∷ []

abbrev pub goes_on : View → Running → Job × Progress → Work × List Output
goes_on catalog run (job, Waits server) = (Runs (with_job run job), Await server ∷ [])
goes_on catalog run (job, Asks asks) = (Runs (with_job run job), asked asks)
goes_on catalog run (job, Decides asks) = (Runs (with_job run job), Decided run.tx ∷ asked asks)
goes_on catalog run (job, Over ending o) = (Idle, ended run.tx ending (reply_to catalog run o))

-- A STATEMENT'S TEXT

-- how many numbers were drawn, what the statement waits for, and what is given out
abbrev pub Stepped : Type 0
Stepped = ℕ × Work × List Output

-- a statement that draws no number
abbrev pub answers : ℕ → Reply → Stepped
answers drawn reply = (drawn, Idle, Answer None reply ∷ [])

-- the number of that place, of the first boot
abbrev pub tx_of : ℕ → TxNo
tx_of number = record { boot = 1; number = number }

-- a table whose columns' names differ and whose key is a number, as each of a configuration is. It has fewer than 2^32 columns
abbrev pub is_table : TableDef → Bool
is_table def = nat_lt (length def.columns) (2 ^ 32) && (are_apart def.columns && has_number_key def)

abbrev pub table_at : List Table → ℕ → Option (ℕ × Table)
table_at tables number = option_and_then (λ (table : Table). if is_table table.def then Some (number, table) else None) (slice_get tables number)

-- the table of that name, with its number
abbrev pub table_named : List Table → List ℕ → Option (ℕ × Table)
table_named tables name = option_and_then (table_at tables) (place_in (map table_name tables) name)

abbrev pub new_run : View → TxNo → ℕ → Table → TableStatement → Running
new_run catalog tx number table s = record { tx = tx; table = number; columns = columns_by (work_planned table.def s); job = job_of catalog tx table s }

abbrev pub started : ℕ → Work × List Output → Stepped
started drawn r = (drawn, r.0, r.1)

abbrev pub starts : View → ℕ → Running → Stepped
starts catalog drawn run = started drawn (goes_on catalog run (job_begins run.job))

-- a number is drawn for a statement that breaks no rule. None is left past 2^64 - 1
abbrev pub begins_on : View → ℕ → TableStatement → ℕ → Table → Option StmtFault → Stepped
begins_on catalog drawn s number table (Some fault) = answers drawn (plan_reply fault)
begins_on catalog drawn s number table None =
    if drawn == 2 ^ 64 - 1 then answers drawn log_full_reply else starts catalog (drawn + 1) (new_run catalog (tx_of (drawn + 1)) number table s)

abbrev pub begins_at : View → ℕ → TableStatement → Option (ℕ × Table) → Stepped
begins_at catalog drawn s None = answers drawn (no_table_reply (table_of s))
begins_at catalog drawn s (Some (number, table)) = begins_on catalog drawn s number table (refusal table.def table.rule s)

-- a question about the server is answered at once, from the configuration
abbrev pub begins_one : View → ℕ → Statement → Stepped
begins_one catalog drawn (client.Table s) = begins_at catalog drawn s (table_named catalog.tables (table_of s))
begins_one catalog drawn (client.Admin admin) = answers drawn (admin_reply (map table_name catalog.tables) admin)

abbrev pub begins_by : View → ℕ → Result Statement ParseFault → Stepped
begins_by catalog drawn (Err fault) = answers drawn (parse_reply fault)
begins_by catalog drawn (Ok s) = begins_one catalog drawn s

-- a text comes to a session that owes nothing
abbrev pub begins : View → ℕ → List ℕ → Stepped
begins catalog drawn text = begins_by catalog drawn (parsed text)

-- WHAT IS OWED OF A STATEMENT THAT WAS GIVEN UP FOR WANT OF MEMORY

-- the ROLLBACKs go out, or, where there are none, the text is run
abbrev pub undoes : View → ℕ → List ℕ → Owed × List Ask → Stepped
undoes catalog drawn text (owed, []) = begins catalog drawn text
undoes catalog drawn text (owed, a ∷ asks) = (drawn, Clearing owed text, asked (a ∷ asks))

-- the answers still due are read first
abbrev pub clears_by : View → ℕ → List ℕ → Owed → Option ℕ → Stepped
clears_by catalog drawn text owed (Some server) = (drawn, Clearing owed text, Await server ∷ [])
clears_by catalog drawn text owed None = undoes catalog drawn text (owed_undoes owed)

abbrev pub clears : View → ℕ → List ℕ → Owed → Stepped
clears catalog drawn text owed = clears_by catalog drawn text owed (owed_next owed)

-- a text comes to a session
abbrev pub comes : View → ℕ → List ℕ → Work → Stepped
comes catalog drawn text Idle = begins catalog drawn text
comes catalog drawn text (Owing owed) = clears catalog drawn text owed
comes catalog drawn text (Clearing owed other) = (drawn, Clearing owed other, [])
comes catalog drawn text (Runs run) = (drawn, Runs run, [])

-- an answer comes
abbrev pub got : View → ℕ → Work → LinkAnswer → Stepped
got catalog drawn (Runs run) answer = started drawn (goes_on catalog run (job_hears run.job answer))
got catalog drawn (Clearing owed text) answer = clears catalog drawn text (owed_hears owed answer)
got catalog drawn Idle answer = (drawn, Idle, [])
got catalog drawn (Owing owed) answer = (drawn, Owing owed, [])

-- STEPS

-- the session waits for this from now on
abbrev pub with_work : Front → ℕ → Work → Front
with_work front n work = record { catalog = front.catalog; drawn = front.drawn; sessions = set_value (is_at (nat_cmp n)) front.sessions work }

abbrev pub opened : Front → ℕ → Front
opened front n = record { catalog = front.catalog; drawn = front.drawn; sessions = insert_entry nat_cmp front.sessions n Idle }

abbrev pub closed : Front → ℕ → Front
closed front n = record { catalog = front.catalog; drawn = front.drawn; sessions = remove_entry (is_at (nat_cmp n)) front.sessions }

abbrev pub stepped : Front → ℕ → Stepped → Front × List Output
stepped front n s = (record { catalog = front.catalog; drawn = s.0; sessions = set_value (is_at (nat_cmp n)) front.sessions s.1 }, s.2)

abbrev pub comes_to : Front → ℕ → List ℕ → Option Work → Front × List Output
comes_to front n text None = (front, [])
comes_to front n text (Some work) = stepped front n (comes front.catalog front.drawn text work)

abbrev pub got_by : Front → ℕ → LinkAnswer → Option Work → Front × List Output
got_by front n answer None = (front, [])
got_by front n answer (Some work) = stepped front n (got front.catalog front.drawn work answer)

-- the front after an event that fits, and what it gives out
abbrev pub does : Front → Event → Front × List Output
does front (Open n) = (opened front n, [])
does front (Asked n text) = comes_to front n text (work_of front n)
does front (Got n server answer) = got_by front n answer (work_of front n)
does front (Closed n) = (closed front n, [])

-- an event that doesn't fit changes nothing
abbrev pub front_step : Front → Event → Front × List Output
front_step front event = if fits front event then does front event else (front, [])

-- WANT OF MEMORY

-- all was read that was due, and nothing has to be rolled back
abbrev pub is_settled : Owed → Bool
is_settled owed = is_none (owed_next owed) && (length (to_undo owed) == 0)

-- what is owed then, where something is
abbrev pub owing : Owed → Work
owing owed = if is_settled owed then Idle else Owing owed

-- what a session's work may be where an event found no memory: its statement is over, and what it owes stands
abbrev pub Starves : View → Work → Event → Work → Type 0
Starves catalog Idle event new = new ≡ Idle
Starves catalog (Owing owed) event new = new ≡ owing owed
Starves catalog (Clearing owed text) (Got n server answer) new = new ≡ owing (owed_hears owed answer)
Starves catalog (Runs run) (Got n server answer) new = new ≡ owing (owed_noted run.job answer)
Starves catalog (Clearing owed text) event new = ⊥
Starves catalog (Runs run) event new = ⊥

abbrev pub StarvesAt : Front → ℕ → Event → Option Work → Front → Type 0
StarvesAt old n event None new = ⊥
StarvesAt old n event (Some work) new = (left : Work) × Starves old.catalog work event left × (new ≡ with_work old n left)

-- the front where an event found no memory: a session isn't opened. A session is always closed
abbrev pub Starved : Front → Event → Front → Type 0
Starved old (Open n) new = new ≡ old
Starved old (Asked n text) new = StarvesAt old n (Asked n text) (work_of old n) new
Starved old (Got n server answer) new = StarvesAt old n (Got n server answer) (work_of old n) new
Starved old (Closed n) new = ⊥

-- one step of the front: the state before, the event, what is given out, the state after
abbrev pub IsStep : Front → Event → Outputs → Front → Type 0
IsStep old event (Given outputs) new = (new, outputs) ≡ front_step old event
IsStep old event NoRoom new = (fits old event ≡ true) × Starved old event new
