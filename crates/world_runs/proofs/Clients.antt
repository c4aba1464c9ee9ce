-- What a client's line does: one answer, and the plain tables' rows.
use Rattle.std.proofs.Common.{◌≡◌, ◌⊎◌, inl, inr, ℕ, suc, ◌+◌, ◌*◌, ◌-◌, ◌^◌, ◌<◌, ◌≤◌, ◌++◌, List, [], ◌∷◌, Bool, true, false, cond, Option, Some, None, Result, Ok, Err, map, refl, sym, ap, ◌∙◌, subst, arith}
use Rattle.std.specs.Prelude.{◌==◌, ◌&&◌, is_some, is_none, slice_get, nat_lt, unwrap_or, option_and_then}
use Rattle.std.specs.BTreeMap.{is_at, insert_entry}
use Rattle.std.specs.List.{flat_map, AllByRecursion}
use Rattle.std.specs.Map.{lookup, set_value}
use Rattle.std.specs.Ordering.{nat_cmp}
use Rattle.std.proofs.lemmas.Bool.Decides.{nat_tests}
use Rattle.std.proofs.lemmas.Map.Steps.{set_value_same}
use Rattle.sql_values.specs.declared.value.Value.{Value}
use Rattle.catalog.specs.declared.tables.Table.{Table}
use Rattle.catalog.specs.Index.{place_in}
use Rattle.catalog.specs.Views.{View, table_name}
use Rattle.catalog_plan.specs.Plans.{table_of}
use Rattle.sql_text.specs.declared.fault.ParseFault.{ParseFault}
use Rattle.sql_text.specs.declared.statement.Statement.{Statement}
use Rattle.sql_text.specs.declared.statement.Statement.TheVariants as client_statement
use Rattle.sql_text.specs.declared.statement.TableStatement.{TableStatement}
use Rattle.sql_text.specs.Parsing.{parsed}
use Rattle.stmt_plan.specs.declared.fault.StmtFault.{StmtFault}
use Rattle.stmt_plan.specs.Plans.{work_of as work_planned}
use Rattle.stmt_plan.specs.Refusals.{refusal}
use Rattle.plain_tables.specs.Statements.{executed_by}
use Rattle.branch_store.specs.Store.{Store}
use Rattle.my_messages.specs.declared.reply.Reply.{Reply}
use Rattle.sql_replies.specs.Admin.{admin_reply}
use Rattle.sql_replies.specs.Errors.{no_table_reply, log_full_reply, parse_reply, plan_reply}
use Rattle.txn_phases.specs.declared.phase.Ending.{Ending}
use Rattle.txn_phases.specs.declared.phase.Ending.TheVariants.{Committed, Alone, RolledBack}
use Rattle.txn_phases.specs.Phases.{begins as job_begins}
use Rattle.front_core.specs.declared.event.TxNo.{TxNo}
use Rattle.front_core.specs.declared.event.Output.{Output}
use Rattle.front_core.specs.declared.event.Output.TheVariants.{Answer}
use Rattle.front_core.specs.declared.work.Running.{Running}
use Rattle.front_core.specs.declared.work.Work.{Work}
use Rattle.front_core.specs.declared.work.Work.TheVariants.{Idle}
use Rattle.front_core.specs.Core.{Stepped, begins, begins_by, begins_one, begins_at, begins_on, answers, starts, goes_on, new_run, tx_of, table_named, table_at, is_table, work_of, most_turns, outcome_told, reply_on}
use Rattle.front_core.specs.Jobs.{columns_by, job_of}
use Rattle.front_core.specs.Outputs.{sends, answers_in, decided_in, acked_in}
use Rattle.plain_sessions.specs.Exec.{Tables, with_rows, exec, exec_by, exec_one, exec_at, exec_on, on_table, within_limit, limit_passed, reply_to}
use Rattle.plain_sessions.specs.Held.{CanBeServed, stores_of}
use Rattle.plain_sessions.specs.Serial.{Entry, Follows}
use Rattle.phase_law.specs.Laws.{AreHeld, GoesThrough, StatementsGoThrough, StatementsKeepTables}
use Rattle.phase_law.proofs.Sent.{table_is_named}
use Rattle.phase_law.proofs.Whole.{same_rows}
use Rattle.world_runs.specs.World.{World, Open, happens, after_outputs, turns, runs, with_session, client}
use Rattle.world_runs.specs.History.{is_same_tx, entries_with}
use Rattle.world_runs.proofs.Sessions.{Sessions, AreIdle, set_there, found_idle, opened_there, opened_idle}
use Rattle.world_runs.proofs.Turning.{busy, turns_over, Tells, Ends, decided_by, through_ends}

-- the world between two lines
abbrev pub quiet : View → ℕ → Sessions → Tables → World
quiet catalog drawn sessions tables = record { front = record { catalog = catalog; drawn = drawn; sessions = sessions }; stores = stores_of catalog tables; requests = []; answers = [] }

-- the number that the next statement draws
abbrev pub next : ℕ → TxNo
next drawn = record { boot = 1; number = drawn + 1 }

-- A client's line does what a plain session does: one answer, its rows, and one transaction where it decides.
pub record DoesPlain (catalog : View) (drawn : ℕ) (tables : Tables) (text : List ℕ) (r : World × List Output) : Type 0 where
  pub after : ℕ
  pub least : drawn ≤ after
  pub most : after ≤ drawn + 1
  pub sessions : Sessions
  pub idle : AreIdle sessions
  pub world : r.0 ≡ quiet catalog after sessions (exec catalog text tables).1
  pub answer : answers_in r.1 ≡ (exec catalog text tables).0 ∷ []
  pub acked : acked_in r.1 ≡ decided_in r.1
  pub numbers : AllByRecursion (λ (tx : TxNo). (drawn < tx.number) × (tx.number ≤ after)) (decided_in r.1)
  pub strangers : (tx : TxNo) → ((tx.number ≤ drawn) ⊎ (after < tx.number)) → entries_with tx text r.1 ≡ []
  pub serial : Follows catalog (flat_map (λ (tx : TxNo). entries_with tx text r.1) (decided_in r.1)) tables (exec catalog text tables).1

-- THE SESSION

abbrev opened_sessions : ℕ → Sessions → Sessions
opened_sessions n sessions = cond (is_some (lookup (is_at (nat_cmp n)) sessions)) sessions (insert_entry nat_cmp sessions n Idle)

there_by : (n : ℕ) (sessions : Sessions) (found : Option Work) → AreIdle sessions → lookup (is_at (nat_cmp n)) sessions ≡ found
    → lookup (is_at (nat_cmp n)) (cond (is_some found) sessions (insert_entry nat_cmp sessions n Idle)) ≡ Some Idle
there_by n sessions None idle is = opened_there n sessions
there_by n sessions (Some work) idle is = found_idle (is_at (nat_cmp n)) sessions work idle is

idle_by : (n : ℕ) (sessions : Sessions) (b : Bool) → AreIdle sessions → AreIdle (cond b sessions (insert_entry nat_cmp sessions n Idle))
idle_by n sessions true idle = idle
idle_by n sessions false idle = opened_idle n sessions idle

opens_by : (catalog : View) (drawn n : ℕ) (sessions : Sessions) (tables : Tables) (found : Option Work) → nat_lt 0 n ≡ true → lookup (is_at (nat_cmp n)) sessions ≡ found
    → with_session (quiet catalog drawn sessions tables) n ≡ (quiet catalog drawn (cond (is_some found) sessions (insert_entry nat_cmp sessions n Idle)) tables, [])
opens_by catalog drawn n sessions tables None some is = rw is (rw some refl)
opens_by catalog drawn n sessions tables (Some work) some is = rw is refl

-- what follows what the front gave out at a statement
abbrev from_begin : View → Sessions → ℕ → Tables → Stepped → World × List Output
from_begin catalog sessions n tables s = after_outputs s.2 (turns most_turns (busy catalog s.0 sessions n s.1 (stores_of catalog tables) (sends s.2)) n)

runs_from : (catalog : View) (drawn n : ℕ) (sessions : Sessions) (tables : Tables) (text : List ℕ) → lookup (is_at (nat_cmp n)) sessions ≡ Some Idle
    → runs (quiet catalog drawn sessions tables) n text ≡ from_begin catalog sessions n tables (begins catalog drawn text)
runs_from catalog drawn n sessions tables text idle = rw idle refl

client_is : (catalog : View) (drawn n : ℕ) (sessions : Sessions) (tables : Tables) (text : List ℕ) → nat_lt 0 n ≡ true → AreIdle sessions
    → client (quiet catalog drawn sessions tables) n text ≡ from_begin catalog (opened_sessions n sessions) n tables (begins catalog drawn text)
unfolding client
client_is catalog drawn n sessions tables text some idle =
    ap (λ (o : World × List Output). after_outputs o.1 (runs o.0 n text)) (opens_by catalog drawn n sessions tables (lookup (is_at (nat_cmp n)) sessions) some refl)
    ∙ runs_from catalog drawn n (opened_sessions n sessions) tables text (there_by n sessions (lookup (is_at (nat_cmp n)) sessions) idle refl)

-- ANSWERS WITHOUT A NUMBER

-- a statement that draws no number and changes nothing
refuses : (catalog : View) (drawn n : ℕ) (sessions : Sessions) (tables : Tables) (text : List ℕ) (reply : Reply) → lookup (is_at (nat_cmp n)) sessions ≡ Some Idle → AreIdle sessions
    → exec catalog text tables ≡ (reply, tables) → DoesPlain catalog drawn tables text (from_begin catalog sessions n tables (answers drawn reply))
refuses catalog drawn n sessions tables text reply there idle is =
    let test = is_at (nat_cmp n) in
    let w = busy catalog drawn sessions n Idle (stores_of catalog tables) [] in
    let over : turns most_turns w n ≡ (w, []) = turns_over most_turns w n (rw (set_there test sessions Idle Idle there) refl) in
    let same : w ≡ quiet catalog drawn sessions tables = ap (λ (ss : Sessions). quiet catalog drawn ss tables) (set_value_same test sessions Idle there) in
    let all : from_begin catalog sessions n tables (answers drawn reply) ≡ (quiet catalog drawn sessions tables, Answer None reply ∷ []) =
    ap (after_outputs (Answer None reply ∷ [])) over ∙ ap (λ (v : World). (v, Answer None reply ∷ [])) same in
    subst (DoesPlain catalog drawn tables text) (sym all) (record {
      after = drawn;
      least = omega arith;
      most = omega arith;
      sessions = sessions;
      idle = idle;
      world = ap (λ (e : Reply × Tables). quiet catalog drawn sessions e.1) (sym is);
      answer = ap (λ (e : Reply × Tables). e.0 ∷ []) (sym is);
      acked = refl;
      numbers = tt;
      strangers = λ tx o. refl;
      serial = ap (λ (e : Reply × Tables). e.1) is;
    })

-- STATEMENTS

other_number : (a b m n : ℕ) → ¬ (m ≡ n) → ((a == b) && (m == n)) ≡ false
other_number a b m n h = grind (arith, nat_tests)

other_tx : (drawn : ℕ) (tx : TxNo) → ((tx.number ≤ drawn) ⊎ (drawn + 1 < tx.number)) → is_same_tx tx (next drawn) ≡ false
other_tx drawn tx (inl h) = other_number tx.boot 1 tx.number (drawn + 1) (λ e. absurd (omega arith))
other_tx drawn tx (inr h) = other_number tx.boot 1 tx.number (drawn + 1) (λ e. absurd (omega arith))

same_number : (n : ℕ) → (n == n) ≡ true
same_number n = grind (arith, nat_tests)

-- what is told of a statement with a number, by its ending
told_plain : (catalog : View) (drawn : ℕ) (sessions : Sessions) (tables : Tables) (text : List ℕ) (how : Ending) (reply : Reply) (left : Tables) (outputs : List Output) → AreIdle sessions
    → exec catalog text tables ≡ (reply, left) → (how ≡ RolledBack → left ≡ tables) → Tells (next drawn) reply false how outputs
    → DoesPlain catalog drawn tables text (quiet catalog (drawn + 1) sessions left, outputs)
told_plain catalog drawn sessions tables text how reply left outputs idle is undone t =
    let one : Entry = record { text = text; answer = reply } in
    record {
      after = drawn + 1;
      least = omega arith;
      most = omega arith;
      sessions = sessions;
      idle = idle;
      world = ap (λ (e : Reply × Tables). quiet catalog (drawn + 1) sessions e.1) (sym is);
      answer = t.answers ∙ ap (λ (e : Reply × Tables). e.0 ∷ []) (sym is);
      acked = t.acked ∙ sym t.decisions;
      numbers = subst (AllByRecursion (λ (tx : TxNo). (drawn < tx.number) × (tx.number ≤ drawn + 1))) (sym t.decisions) (numbers_by how);
      strangers = λ tx o. t.entries tx text ∙ ap (λ b. cond b (one ∷ []) []) (other_tx drawn tx o);
      serial =
          subst (λ txs. Follows catalog (flat_map (λ (tx : TxNo). entries_with tx text outputs) txs) tables (exec catalog text tables).1) (sym t.decisions) (serial_by how undone);
    }
  where
    numbers_by : (e : Ending) → AllByRecursion (λ (tx : TxNo). (drawn < tx.number) × (tx.number ≤ drawn + 1)) (decided_by e (next drawn))
    numbers_by Committed = ((omega arith, omega arith), tt)
    numbers_by Alone = ((omega arith, omega arith), tt)
    numbers_by RolledBack = tt

    decided : Follows catalog (flat_map (λ (tx : TxNo). entries_with tx text outputs) (next drawn ∷ [])) tables (exec catalog text tables).1
    decided =
        let one : Entry = record { text = text; answer = reply } in
        let own : entries_with (next drawn) text outputs ++ [] ≡ one ∷ [] =
        ap (λ l. l ++ []) (t.entries (next drawn) text ∙ ap (λ b. cond b (one ∷ []) []) (same_number (drawn + 1))) in
        subst (λ es. Follows catalog es tables (exec catalog text tables).1) (sym own) (sym (ap (λ (e : Reply × Tables). e.0) is), refl)

    serial_by : (e : Ending) → (e ≡ RolledBack → left ≡ tables) → Follows catalog (flat_map (λ (tx : TxNo). entries_with tx text outputs) (decided_by e (next drawn))) tables (exec catalog text tables).1
    serial_by Committed u = decided
    serial_by Alone u = decided
    serial_by RolledBack u = ap (λ (e : Reply × Tables). e.1) is ∙ u refl

-- enough turns are left
left_turns : (steps : ℕ) → steps ≤ 6 * 2 ^ 35 → most_turns ≡ steps + (most_turns - steps)
unfolding most_turns
left_turns steps h = omega arith

-- a statement that breaks no rule
starts_plain : (catalog : View) (drawn n : ℕ) (sessions : Sessions) (tables : Tables) (text : List ℕ) (s : TableStatement) (number : ℕ) (table : Table) → lookup (is_at (nat_cmp n)) sessions ≡ Some Idle
    → AreIdle sessions → slice_get catalog.tables number ≡ Some table → exec catalog text tables ≡ on_table tables number (exec_on table s (tables number))
    → GoesThrough catalog tables n (next drawn) number table s
    → DoesPlain catalog drawn tables text (from_begin catalog sessions n tables (starts catalog (drawn + 1) (new_run catalog (next drawn) number table s)))
starts_plain catalog drawn n sessions tables text s number table there idle at is g =
    let test = is_at (nat_cmp n) in
    let run : Running = new_run catalog (next drawn) number table s in
    let p = job_begins run.job in
    let e = through_ends catalog (drawn + 1) sessions n run 6 false (stores_of catalog tables) p (stores_of catalog (with_rows tables number (exec_on table s (tables number)).1)) g.ending g.outcome there g.through in
    let given = goes_on catalog run p in
    let left = with_rows tables number (exec_on table s (tables number)).1 in
    let reply : reply_on catalog run.columns (slice_get catalog.tables number) g.outcome ≡ (exec_on table s (tables number)).0 = ap (λ x. reply_on catalog run.columns x g.outcome) at ∙ g.told in
    let done : turns most_turns (busy catalog (drawn + 1) sessions n given.0 (stores_of catalog tables) (sends given.1)) n ≡ (busy catalog (drawn + 1) sessions n Idle (stores_of catalog left) [], e.outs) =
    ap (λ k. turns k (busy catalog (drawn + 1) sessions n given.0 (stores_of catalog tables) (sends given.1)) n) (left_turns e.steps e.few) ∙ e.turns_are (most_turns - e.steps) in
    let all : from_begin catalog sessions n tables (starts catalog (drawn + 1) run) ≡ (quiet catalog (drawn + 1) sessions left, given.1 ++ e.outs) =
    ap (after_outputs given.1) done ∙ ap (λ (ss : Sessions). (quiet catalog (drawn + 1) ss left, given.1 ++ e.outs)) (set_value_same test sessions Idle there) in
    subst (DoesPlain catalog drawn tables text) (sym all)
    (told_plain catalog drawn sessions tables text g.ending (exec_on table s (tables number)).0 left (given.1 ++ e.outs) idle is
    (λ r. ap (with_rows tables number) (g.undone r) ∙ same_rows tables number)
    (subst (λ r. Tells (next drawn) r false g.ending (given.1 ++ e.outs)) reply e.told))

module _ (go_through : StatementsGoThrough) (keep : StatementsKeepTables) (catalog : View) (served : CanBeServed catalog) where
  -- on a table
  begins_on_plain : (drawn n : ℕ) (sessions : Sessions) (tables : Tables) (text : List ℕ) (s : TableStatement) (number : ℕ) (table : Table) (fault : Option StmtFault) → (drawn == 2 ^ 64 - 1) ≡ false
      → lookup (is_at (nat_cmp n)) sessions ≡ Some Idle → AreIdle sessions → AreHeld catalog tables → table_named catalog.tables (table_of s) ≡ Some (number, table)
      → exec catalog text tables ≡ exec_at tables s (Some (number, table)) → refusal table.def table.rule s ≡ fault
      → DoesPlain catalog drawn tables text (from_begin catalog sessions n tables (begins_on catalog drawn s number table fault))
  begins_on_plain drawn n sessions tables text s number table (Some fault) more there idle held found is broken =
      let rows = tables number in
      let refused : exec_on table s rows ≡ (plan_reply fault, rows) =
      ap (λ f. let e = executed_by table.def s rows f in within_limit table.def (work_planned table.def s) rows e (limit_passed table s rows e.0)) broken in
      refuses catalog drawn n sessions tables text (plan_reply fault) there idle
      (is ∙ ap (on_table tables number) refused ∙ ap (λ (t : Tables). (plan_reply fault, t)) (same_rows tables number))
  begins_on_plain drawn n sessions tables text s number table None more there idle held found is broken =
      subst (λ b. DoesPlain catalog drawn tables text (from_begin catalog sessions n tables (cond b (answers drawn log_full_reply) (starts catalog (drawn + 1) (new_run catalog (tx_of (drawn + 1)) number table s)))))
      (sym more)
      (starts_plain catalog drawn n sessions tables text s number table there idle (table_is_named catalog (table_of s) number table found).at is
      (go_through catalog tables n (next drawn) number table s served held found broken))

  begins_at_plain : (drawn n : ℕ) (sessions : Sessions) (tables : Tables) (text : List ℕ) (s : TableStatement) (found : Option (ℕ × Table)) → (drawn == 2 ^ 64 - 1) ≡ false
      → lookup (is_at (nat_cmp n)) sessions ≡ Some Idle → AreIdle sessions → AreHeld catalog tables → table_named catalog.tables (table_of s) ≡ found → exec catalog text tables ≡ exec_at tables s found
      → DoesPlain catalog drawn tables text (from_begin catalog sessions n tables (begins_at catalog drawn s found))
  begins_at_plain drawn n sessions tables text s None more there idle held found is = refuses catalog drawn n sessions tables text (no_table_reply (table_of s)) there idle is
  begins_at_plain drawn n sessions tables text s (Some (number, table)) more there idle held found is =
      begins_on_plain drawn n sessions tables text s number table (refusal table.def table.rule s) more there idle held found is refl

  begins_one_plain : (drawn n : ℕ) (sessions : Sessions) (tables : Tables) (text : List ℕ) (s : Statement) → (drawn == 2 ^ 64 - 1) ≡ false
      → lookup (is_at (nat_cmp n)) sessions ≡ Some Idle → AreIdle sessions → AreHeld catalog tables → exec catalog text tables ≡ exec_one catalog tables s
      → DoesPlain catalog drawn tables text (from_begin catalog sessions n tables (begins_one catalog drawn s))
  begins_one_plain drawn n sessions tables text (client_statement.Table s) more there idle held is =
      begins_at_plain drawn n sessions tables text s (table_named catalog.tables (table_of s)) more there idle held refl is
  begins_one_plain drawn n sessions tables text (client_statement.Admin admin) more there idle held is =
      refuses catalog drawn n sessions tables text (admin_reply (map table_name catalog.tables) admin) there idle is

  begins_plain : (drawn n : ℕ) (sessions : Sessions) (tables : Tables) (text : List ℕ) (read : Result Statement ParseFault) → (drawn == 2 ^ 64 - 1) ≡ false
      → lookup (is_at (nat_cmp n)) sessions ≡ Some Idle → AreIdle sessions → AreHeld catalog tables → exec catalog text tables ≡ exec_by catalog tables read
      → DoesPlain catalog drawn tables text (from_begin catalog sessions n tables (begins_by catalog drawn read))
  begins_plain drawn n sessions tables text (Err fault) more there idle held is = refuses catalog drawn n sessions tables text (parse_reply fault) there idle is
  begins_plain drawn n sessions tables text (Ok s) more there idle held is = begins_one_plain drawn n sessions tables text s more there idle held is

  -- a client's line does what a plain session does
  pub client_plain : (drawn n : ℕ) (sessions : Sessions) (tables : Tables) (text : List ℕ) → drawn < 2 ^ 63 → nat_lt 0 n ≡ true → AreIdle sessions → AreHeld catalog tables
      → DoesPlain catalog drawn tables text (client (quiet catalog drawn sessions tables) n text)
  client_plain drawn n sessions tables text more some idle held =
      subst (DoesPlain catalog drawn tables text) (sym (client_is catalog drawn n sessions tables text some idle))
      (begins_plain drawn n (opened_sessions n sessions) tables text (parsed text) (grind (arith, nat_tests)) (there_by n sessions (lookup (is_at (nat_cmp n)) sessions) idle refl)
      (idle_by n sessions (is_some (lookup (is_at (nat_cmp n)) sessions)) idle) held (exec_is text tables))
    where
      exec_is : (text : List ℕ) (tables : Tables) → exec catalog text tables ≡ exec_by catalog tables (parsed text)
      exec_is text tables = unfold exec in refl

  -- and keeps tables
  pub client_keeps : (tables : Tables) (text : List ℕ) → AreHeld catalog tables → AreHeld catalog (exec catalog text tables).1
  client_keeps tables text held = keep catalog tables text served held
