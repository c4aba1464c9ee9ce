-- What a run tells of its statements and transactions, and plain tables.
use Rattle.std.specs.Prelude.{◌≡◌, ℕ, ◌==◌, ◌&&◌, Bool, List, [], ◌∷◌, Option, Some, None, if◌then◌else◌, map, option_to_list}
use Rattle.std.specs.List.{flat_map}
use Rattle.catalog.specs.Views.{View}
use Rattle.my_messages.specs.declared.reply.Reply.{Reply}
use Rattle.front_core.specs.declared.event.TxNo.{TxNo}
use Rattle.front_core.specs.declared.event.Output.{Output}
use Rattle.front_core.specs.declared.event.Output.TheVariants.{Send, Await, Decided, Acked, Answer}
use Rattle.front_core.specs.Outputs.{answers_in, decided_in, acked_in}
use Rattle.plain_sessions.specs.Exec.{no_rows}
use Rattle.plain_sessions.specs.Held.{stores_of}
use Rattle.plain_sessions.specs.Serial.{Entry, Transaction, Serial}
use Rattle.plain_sessions.specs.Solo.{solo_answers, solo_after}
use Rattle.world_runs.specs.Schedule.{Line, Passed, Trace, Client, Broken, words_of}
use Rattle.world_runs.specs.Run.{Played, run_of_schedule}

-- WHAT A RUN TELLS OF ITS STATEMENTS

-- the statement that a line's client sends
abbrev pub sent_by : Line → Option (List ℕ)
sent_by Passed = None
sent_by (Trace on) = None
sent_by (Client n text) = Some text
sent_by (Broken rule) = None

abbrev pub statement_in : Played → Option (List ℕ)
statement_in p = sent_by (words_of p.line)

-- the texts of the statements, in order
abbrev pub statements_of : List Played → List (List ℕ)
statements_of played = flat_map (λ (p : Played). option_to_list (statement_in p)) played

-- the answers, in order
abbrev pub answers_of : List Played → List Reply
answers_of played = flat_map (λ (p : Played). answers_in p.given.outputs) played

-- WHAT A RUN TELLS OF ITS TRANSACTIONS

-- the decided transactions, in the order of their decisions
abbrev pub decisions_of : List Played → List TxNo
decisions_of played = flat_map (λ (p : Played). decided_in p.given.outputs) played

-- the transactions whose commit was acknowledged, in order
abbrev pub acknowledged_in : List Played → List TxNo
acknowledged_in played = flat_map (λ (p : Played). acked_in p.given.outputs) played

abbrev pub is_same_tx : TxNo → TxNo → Bool
is_same_tx a b = (a.boot == b.boot) && (a.number == b.number)

-- the answers that a statement got in that transaction
abbrev pub entries_with : TxNo → List ℕ → List Output → List Entry
entries_with tx text [] = []
entries_with tx text (Answer None reply ∷ outputs) = entries_with tx text outputs
entries_with tx text (Answer (Some other) reply ∷ outputs) =
    if is_same_tx tx other then record { text = text; answer = reply } ∷ entries_with tx text outputs else entries_with tx text outputs
entries_with tx text (Send server request ∷ outputs) = entries_with tx text outputs
entries_with tx text (Await server ∷ outputs) = entries_with tx text outputs
entries_with tx text (Decided other ∷ outputs) = entries_with tx text outputs
entries_with tx text (Acked other ∷ outputs) = entries_with tx text outputs

abbrev pub entries_by : TxNo → Option (List ℕ) → List Output → List Entry
entries_by tx None outputs = []
entries_by tx (Some text) outputs = entries_with tx text outputs

abbrev pub entries_in : TxNo → Played → List Entry
entries_in tx p = entries_by tx (statement_in p) p.given.outputs

-- what a transaction did: its statements, each with its answer
abbrev pub entries_of : TxNo → List Played → List Entry
entries_of tx played = flat_map (entries_in tx) played

abbrev pub transaction_of : List Played → TxNo → Transaction
transaction_of played tx = record { boot = tx.boot; number = tx.number; entries = entries_of tx played }

-- the history of a run: its decided transactions, in the order of their decisions
abbrev pub history_of : List Played → List Transaction
history_of played = map (transaction_of played) (decisions_of played)

-- THE LAW

-- The run that a schedule names on a configuration, and the plain tables.
pub record IsPlain (catalog : View) (schedule : List ℕ) : Type 0 where
  -- each answer is a plain session's to the same statements
  pub answers : answers_of (run_of_schedule catalog schedule).played ≡ solo_answers catalog no_rows (statements_of (run_of_schedule catalog schedule).played)
  -- the servers hold the plain session's rows at the end, each link that isn't NG those of its partition
  pub rows : (run_of_schedule catalog schedule).scene.world.stores ≡ stores_of catalog (solo_after catalog no_rows (statements_of (run_of_schedule catalog schedule).played))
  -- the decided transactions, in the order of their decisions, are a run of the plain tables, whose rows the plain session has at the end
  pub serial : Serial catalog (history_of (run_of_schedule catalog schedule).played) no_rows (solo_after catalog no_rows (statements_of (run_of_schedule catalog schedule).played))
  -- the acknowledged transactions are the decided ones
  pub acknowledged : acknowledged_in (run_of_schedule catalog schedule).played ≡ decisions_of (run_of_schedule catalog schedule).played
