-- A statement's turns are its transaction, phase by phase.
use Rattle.std.proofs.Common.{◌≡◌, ℕ, zero, suc, ◌+◌, ◌*◌, ◌^◌, ◌≤◌, ◌++◌, List, [], ◌∷◌, Bool, true, false, cond, Option, Some, None, length, refl, sym, ap, ◌∙◌, subst, append_assoc, arith}
use Rattle.std.specs.Prelude.{◌==◌, ◌&&◌, slice_get}
use Rattle.std.specs.BTreeMap.{is_at}
use Rattle.std.specs.Map.{lookup, set_value}
use Rattle.std.specs.Ordering.{nat_cmp}
use Rattle.std.proofs.lemmas.Bool.Decides.{nat_tests}
use Rattle.catalog.specs.Views.{View}
use Rattle.sql_text.specs.declared.link.LinkAnswer.{LinkAnswer}
use Rattle.sql_text.specs.declared.link.LinkRequest.{LinkRequest}
use Rattle.branch_store.specs.Store.{Store, store_step}
use Rattle.my_messages.specs.declared.reply.Reply.{Reply}
use Rattle.txn_phases.specs.declared.deed.Outcome.{Outcome}
use Rattle.txn_phases.specs.declared.job.Job.{Job}
use Rattle.txn_phases.specs.declared.phase.Ending.{Ending}
use Rattle.txn_phases.specs.declared.phase.Ending.TheVariants.{Committed, Alone, RolledBack}
use Rattle.txn_phases.specs.declared.phase.Progress.{Progress}
use Rattle.txn_phases.specs.declared.phase.Progress.TheVariants.{Waits, Asks, Decides, Over}
use Rattle.txn_phases.specs.declared.requests.Ask.{Ask}
use Rattle.txn_phases.specs.Phases.{awaited, awaits, hears}
use Rattle.front_core.specs.declared.event.Event.TheVariants as event
use Rattle.front_core.specs.declared.event.TxNo.{TxNo}
use Rattle.front_core.specs.declared.event.Output.{Output}
use Rattle.front_core.specs.declared.event.Output.TheVariants.{Send, Await, Decided, Acked, Answer}
use Rattle.front_core.specs.declared.work.Running.{Running}
use Rattle.front_core.specs.declared.work.Work.{Work}
use Rattle.front_core.specs.declared.work.Work.TheVariants.{Idle, Owing, Clearing, Runs}
use Rattle.front_core.specs.Core.{Front, front_step, stepped, started, goes_on, work_of, rests, reply_to, ended, asked, with_job}
use Rattle.front_core.specs.Outputs.{sends, answers_in, decided_in, acked_in}
use Rattle.phase_law.specs.Through.{Serves, Heard, Through, is_committed}
use Rattle.plain_sessions.specs.Serial.{Entry}
use Rattle.world_runs.specs.World.{World, Deliver, Reply as Replies, happens, after_outputs, turn, turns, is_over}
use Rattle.world_runs.specs.History.{entries_with, is_same_tx}
use Rattle.world_runs.proofs.Given.{pairs, TellsNothing, asked_nothing, sends_asked, answers-append, decided-append, acked-append, entries-append}
use Rattle.world_runs.proofs.Sessions.{Sessions, set_there, set_again}

-- the front where session n, which was idle, waits for this
abbrev pub at_work : View → ℕ → Sessions → ℕ → Work → Front
at_work catalog drawn sessions n work = record { catalog = catalog; drawn = drawn; sessions = set_value (is_at (nat_cmp n)) sessions work }

-- the world then, with these stores, where these requests are under way
abbrev pub busy : View → ℕ → Sessions → ℕ → Work → List Store → List (ℕ × LinkRequest) → World
busy catalog drawn sessions n work stores requests = record { front = at_work catalog drawn sessions n work; stores = stores; requests = requests; answers = [] }

same_server : (server : ℕ) → (server == server) ≡ true
same_server server = grind (arith, nat_tests)

-- ONE TURN

-- an answer that the session waits for
got_step : (front : Front) (n server : ℕ) (run : Running) (answer : LinkAnswer) (next : Job × Progress) → work_of front n ≡ Some (Runs run) → awaited run.job ≡ Some server →
    awaits run.job answer ≡ true → hears run.job answer ≡ next → front_step front (event.Got n server answer) ≡ stepped front n (started front.drawn (goes_on front.catalog run next))
got_step front n server run answer next works reads fits is = rw works (rw reads (rw (same_server server) (rw fits (rw is refl))))

turn_serves : (catalog : View) (drawn : ℕ) (sessions : Sessions) (n : ℕ) (run : Running) (stores left : List Store) (ask : Ask) (requests : List (ℕ × LinkRequest)) (next : Job × Progress)
    → lookup (is_at (nat_cmp n)) sessions ≡ Some Idle → Serves n stores run.job ask left next
    → turn (busy catalog drawn sessions n (Runs run) stores ((ask.server, ask.request) ∷ requests)) n
    ≡ (busy catalog drawn sessions n (goes_on catalog run next).0 left (requests ++ sends (goes_on catalog run next).1), (goes_on catalog run next).1)
turn_serves catalog drawn sessions n run stores left ask requests next idle s =
    let test = is_at (nat_cmp n) in
    let w = busy catalog drawn sessions n (Runs run) stores ((ask.server, ask.request) ∷ requests) in
    let works : work_of w.front n ≡ Some (Runs run) = set_there test sessions Idle (Runs run) idle in
    let reached : World = record { front = w.front; stores = left; requests = requests; answers = (ask.server, s.answer) ∷ [] } in
    let delivers : happens w n Deliver ≡ (reached, []) = rw s.there (rw s.step (rw (sym s.left_is) refl)) in
    let given = goes_on catalog run next in
    let steps : front_step w.front (event.Got n ask.server s.answer) ≡ (at_work catalog drawn sessions n given.0, given.1) =
    got_step w.front n ask.server run s.answer next works s.server s.fits s.next_is
    ∙ ap (λ (ss : Sessions). (record { catalog = catalog; drawn = drawn; sessions = ss }, given.1)) (set_again test sessions (Runs run) given.0) in
    let replies : happens reached n Replies ≡ (busy catalog drawn sessions n given.0 left (requests ++ sends given.1), given.1) =
    ap (λ (r : Front × List Output). (record { front = r.0; stores = left; requests = requests ++ sends r.1; answers = [] }, r.1)) steps in
    ap (λ (r : World × List Output). after_outputs r.1 (happens r.0 n Replies)) delivers ∙ replies

-- MANY TURNS

pub turns_over : (most : ℕ) (w : World) (n : ℕ) → is_over w n ≡ true → turns most w n ≡ (w, [])
unfolding turns
turns_over zero w n h = refl
turns_over (suc most) w n h = rw h refl

turns_step : (most : ℕ) (w : World) (n : ℕ) → is_over w n ≡ false → turns (suc most) w n ≡ (let t = turn w n in after_outputs t.1 (turns most t.0 n))
unfolding turns
turns_step most w n h = rw h refl

-- what follows where a statement went on so
abbrev follows : View → ℕ → Sessions → ℕ → Work × List Output → List Store → ℕ → World × List Output
follows catalog drawn sessions n given stores k = after_outputs given.1 (turns k (busy catalog drawn sessions n given.0 stores (sends given.1)) n)

-- how it goes on doesn't hang on how it went before
goes_same : (catalog : View) (run : Running) (before : Job) (next : Job × Progress) → goes_on catalog (with_job run before) next ≡ goes_on catalog run next
goes_same catalog run before (job, Waits server) = refl
goes_same catalog run before (job, Asks asks) = refl
goes_same catalog run before (job, Decides asks) = refl
goes_same catalog run before (job, Over ending o) = refl

append-none : {A : Type 0} (xs : List A) → xs ++ [] ≡ xs
append-none [] = refl
append-none (x ∷ xs) = ap (λ l. x ∷ l) (append-none xs)

-- one request is answered, and others are under way, or none
served_first : (catalog : View) (drawn : ℕ) (sessions : Sessions) (n : ℕ) (run : Running) (stores left : List Store) (ask : Ask) (requests : List (ℕ × LinkRequest)) (next : Job × Progress) (k : ℕ)
    → lookup (is_at (nat_cmp n)) sessions ≡ Some Idle → Serves n stores run.job ask left next
    → turns (suc k) (busy catalog drawn sessions n (Runs run) stores ((ask.server, ask.request) ∷ requests)) n
    ≡ (let g = goes_on catalog run next in after_outputs g.1 (turns k (busy catalog drawn sessions n g.0 left (requests ++ sends g.1)) n))
served_first catalog drawn sessions n run stores left ask requests next k idle s =
    let w = busy catalog drawn sessions n (Runs run) stores ((ask.server, ask.request) ∷ requests) in
    let works : work_of w.front n ≡ Some (Runs run) = set_there (is_at (nat_cmp n)) sessions Idle (Runs run) idle in
    let goes : is_over w n ≡ false = rw works refl in
    turns_step k w n goes ∙ ap (λ (t : World × List Output). after_outputs t.1 (turns k t.0 n)) (turn_serves catalog drawn sessions n run stores left ask requests next idle s)

-- the answers of a phase
pub record Hears (catalog : View) (drawn : ℕ) (sessions : Sessions) (n : ℕ) (run : Running) (stores left : List Store) (asks : List Ask) (next : Job × Progress) : Type 0 where
  pub outs : List Output
  pub nothing : TellsNothing outs
  pub turns_are : (k : ℕ) → turns (length asks + k) (busy catalog drawn sessions n (Runs run) stores (pairs asks)) n ≡ after_outputs outs (follows catalog drawn sessions n (goes_on catalog run next) left k)

one_more : (asks rest : List Ask) (k : ℕ) → length asks ≡ suc (length rest) → length asks + k ≡ suc (length rest + k)
one_more asks rest k h = omega arith

one_only : (asks : List Ask) (k : ℕ) → length asks ≡ 1 → length asks + k ≡ suc k
one_only asks k h = omega arith

heard_turns : (catalog : View) (drawn : ℕ) (sessions : Sessions) (n : ℕ) (run : Running) (stores left : List Store) (asks : List Ask) (next : Job × Progress)
    → lookup (is_at (nat_cmp n)) sessions ≡ Some Idle → Heard n stores run.job asks left next → Hears catalog drawn sessions n run stores left asks next
heard_turns catalog drawn sessions n run stores left [] next idle h = absurd h
heard_turns catalog drawn sessions n run stores left (ask ∷ []) next idle s = record {
  outs = [];
  nothing = record { answers = refl; decided = refl; acked = refl; entries = λ tx text. refl };
  turns_are = λ k.
      ap (λ i. turns i (busy catalog drawn sessions n (Runs run) stores (pairs (ask ∷ []))) n) (one_only (ask ∷ []) k refl)
      ∙ served_first catalog drawn sessions n run stores left ask [] next k idle s;
}
heard_turns catalog drawn sessions n run stores left (ask ∷ other ∷ asks) next idle (middle, waiting, s, more) =
    let later = with_job run waiting in
    let rest = heard_turns catalog drawn sessions n later middle left (other ∷ asks) next idle more in
    let nothing = rest.nothing in
    record {
      outs = Await other.server ∷ rest.outs;
      nothing = record { answers = nothing.answers; decided = nothing.decided; acked = nothing.acked; entries = λ tx text. nothing.entries tx text };
      turns_are = λ k.
          ap (λ i. turns i (busy catalog drawn sessions n (Runs run) stores (pairs (ask ∷ other ∷ asks))) n) (one_more (ask ∷ other ∷ asks) (other ∷ asks) k refl)
          ∙ served_first catalog drawn sessions n run stores middle ask (pairs (other ∷ asks)) (waiting, Waits other.server) (length (other ∷ asks) + k) idle s
          ∙ ap (λ rs. after_outputs (Await other.server ∷ []) (turns (length (other ∷ asks) + k) (busy catalog drawn sessions n (Runs later) middle rs) n)) (append-none (pairs (other ∷ asks)))
          ∙ ap (after_outputs (Await other.server ∷ [])) (rest.turns_are k)
          ∙ ap (λ g. after_outputs (Await other.server ∷ rest.outs) (follows catalog drawn sessions n g left k)) (goes_same catalog run waiting next);
    }

-- WHAT A STATEMENT TELLS

-- the transaction, where it was decided
abbrev pub decided_by : Ending → TxNo → List TxNo
decided_by Committed tx = tx ∷ []
decided_by Alone tx = tx ∷ []
decided_by RolledBack tx = []

abbrev pub not_before : Bool → List TxNo → List TxNo
not_before true txs = []
not_before false txs = txs

-- one answer, and what was decided of the transaction, unless that was told before
pub record Tells (tx : TxNo) (reply : Reply) (decided : Bool) (how : Ending) (outputs : List Output) : Type 0 where
  pub answers : answers_in outputs ≡ reply ∷ []
  pub decisions : decided_in outputs ≡ not_before decided (decided_by how tx)
  pub acked : acked_in outputs ≡ decided_by how tx
  pub entries : (other : TxNo) (text : List ℕ) → entries_with other text outputs ≡ cond (is_same_tx other tx) (record { text = text; answer = reply } ∷ []) []

tells_after : (tx : TxNo) (reply : Reply) (decided : Bool) (how : Ending) (xs ys : List Output) → TellsNothing xs → Tells tx reply decided how ys → Tells tx reply decided how (xs ++ ys)
tells_after tx reply decided how xs ys h k = record {
  answers = answers-append xs ys ∙ ap (λ l. l ++ answers_in ys) h.answers ∙ k.answers;
  decisions = decided-append xs ys ∙ ap (λ l. l ++ decided_in ys) h.decided ∙ k.decisions;
  acked = acked-append xs ys ∙ ap (λ l. l ++ acked_in ys) h.acked ∙ k.acked;
  entries = λ other text. entries-append other text xs ys ∙ ap (λ l. l ++ entries_with other text ys) (h.entries other text) ∙ k.entries other text;
}

-- with its decision before it
decided_first : (tx : TxNo) (reply : Reply) (how : Ending) (ys : List Output) → is_committed how ≡ true → Tells tx reply true how ys → Tells tx reply false how (Decided tx ∷ ys)
decided_first tx reply Committed ys h k = record { answers = k.answers; decisions = ap (λ l. tx ∷ l) k.decisions; acked = k.acked; entries = k.entries }
decided_first tx reply Alone ys h k = absurd (cc)
decided_first tx reply RolledBack ys h k = absurd (cc)

-- THE WHOLE

-- from how a statement goes on to its end: so many turns, what they tell, and the stores that they leave
pub record Ends (catalog : View) (drawn : ℕ) (sessions : Sessions) (n : ℕ) (run : Running) (stores : List Store) (p : Job × Progress) (end : List Store) (how : Ending) (o : Outcome)
    (decided : Bool) (most : ℕ) : Type 0 where
  pub steps : ℕ
  pub few : steps ≤ most * 2 ^ 35
  pub outs : List Output
  pub turns_are : (k : ℕ) → turns (steps + k) (busy catalog drawn sessions n (goes_on catalog run p).0 stores (sends (goes_on catalog run p).1)) n ≡ (busy catalog drawn sessions n Idle end [], outs)
  pub told : Tells run.tx (reply_to catalog run o) decided how ((goes_on catalog run p).1 ++ outs)
  pub committed : decided ≡ true → is_committed how ≡ true

ended_sends : (tx : TxNo) (how : Ending) (reply : Reply) → sends (ended tx how reply) ≡ []
ended_sends tx Committed reply = refl
ended_sends tx Alone reply = refl
ended_sends tx RolledBack reply = refl

ended_tells : (tx : TxNo) (reply : Reply) (how : Ending) → Tells tx reply (is_committed how) how (ended tx how reply ++ [])
ended_tells tx reply Committed = record { answers = refl; decisions = refl; acked = refl; entries = λ other text. refl }
ended_tells tx reply Alone = record { answers = refl; decisions = refl; acked = refl; entries = λ other text. refl }
ended_tells tx reply RolledBack = record { answers = refl; decisions = refl; acked = refl; entries = λ other text. refl }

-- more steps, and less that is left
more_steps : (asks steps most : ℕ) → asks ≤ 2 ^ 35 → steps ≤ most * 2 ^ 35 → asks + steps ≤ suc most * 2 ^ 35
more_steps asks steps most h k = omega arith

-- a phase's requests, and what follows it
phase_ends : (catalog : View) (drawn : ℕ) (sessions : Sessions) (n : ℕ) (run : Running) (job : Job) (stores middle end : List Store) (asks : List Ask) (next : Job × Progress) (how : Ending) (o : Outcome)
    (decided : Bool) (most : ℕ) → lookup (is_at (nat_cmp n)) sessions ≡ Some Idle → length asks ≤ 2 ^ 35 → Heard n stores job asks middle next
    → Ends catalog drawn sessions n (with_job run job) middle next end how o decided most → Ends catalog drawn sessions n run stores (job, Asks asks) end how o decided (suc most)
phase_ends catalog drawn sessions n run job stores middle end asks next how o decided most idle few heard e =
    let here = with_job run job in
    let h = heard_turns catalog drawn sessions n here stores middle asks next idle heard in
    let g = goes_on catalog here next in
    record {
      steps = length asks + e.steps;
      few = more_steps (length asks) e.steps most few e.few;
      outs = h.outs ++ (g.1 ++ e.outs);
      turns_are = λ k.
          ap (λ i. turns i (busy catalog drawn sessions n (Runs here) stores (sends (asked asks))) n) (plus_assoc (length asks) e.steps k)
          ∙ ap (λ rs. turns (length asks + (e.steps + k)) (busy catalog drawn sessions n (Runs here) stores rs) n) (sends_asked asks)
          ∙ h.turns_are (e.steps + k) ∙ ap (λ r. after_outputs h.outs (after_outputs g.1 r)) (e.turns_are k);
      told =
          tells_after run.tx (reply_to catalog run o) decided how (asked asks) (h.outs ++ (g.1 ++ e.outs)) (asked_nothing asks)
          (tells_after run.tx (reply_to catalog run o) decided how h.outs (g.1 ++ e.outs) h.nothing e.told);
      committed = e.committed;
    }
  where
    plus_assoc : (a b c : ℕ) → (a + b) + c ≡ a + (b + c)
    plus_assoc a b c = omega arith

-- the same of a decision's requests
decision_ends : (catalog : View) (drawn : ℕ) (sessions : Sessions) (n : ℕ) (run : Running) (job : Job) (stores end : List Store) (asks : List Ask) (how : Ending) (o : Outcome) (most : ℕ)
    → Ends catalog drawn sessions n run stores (job, Asks asks) end how o true most → Ends catalog drawn sessions n run stores (job, Decides asks) end how o false most
decision_ends catalog drawn sessions n run job stores end asks how o most e = record {
  steps = e.steps;
  few = e.few;
  outs = e.outs;
  turns_are = e.turns_are;
  told = decided_first run.tx (reply_to catalog run o) how (asked asks ++ e.outs) (e.committed refl) e.told;
  committed = λ h. absurd (cc);
}

pub through_ends : (catalog : View) (drawn : ℕ) (sessions : Sessions) (n : ℕ) (run : Running) (most : ℕ) (decided : Bool) (stores : List Store) (p : Job × Progress) (end : List Store) (how : Ending) (o : Outcome)
    → lookup (is_at (nat_cmp n)) sessions ≡ Some Idle → Through most n decided stores p end how o → Ends catalog drawn sessions n run stores p end how o decided most
through_ends catalog drawn sessions n run most decided stores (job, Over ending outcome) end how o idle (e, f, g, d) =
    subst (λ x. Ends catalog drawn sessions n run stores (job, Over ending outcome) end how o x most) (sym d)
    (subst (λ (x : Outcome). Ends catalog drawn sessions n run stores (job, Over ending outcome) end how x (is_committed how) most) g
    (subst (λ (x : Ending). Ends catalog drawn sessions n run stores (job, Over ending outcome) end x outcome (is_committed x) most) f
    (subst (λ (x : List Store). Ends catalog drawn sessions n run stores (job, Over ending outcome) x ending outcome (is_committed ending) most) (sym e) over)))
  where
    over : Ends catalog drawn sessions n run stores (job, Over ending outcome) stores ending outcome (is_committed ending) most
    over = record {
      steps = 0;
      few = omega arith;
      outs = [];
      turns_are = λ k.
          ap (λ rs. turns (0 + k) (busy catalog drawn sessions n Idle stores rs) n) (ended_sends run.tx ending (reply_to catalog run outcome))
          ∙ turns_over (0 + k) (busy catalog drawn sessions n Idle stores []) n (rw (set_there (is_at (nat_cmp n)) sessions Idle Idle idle) refl);
      told = ended_tells run.tx (reply_to catalog run outcome) ending;
      committed = λ h. h;
    }
through_ends catalog drawn sessions n run (suc most) decided stores (job, Asks asks) end how o idle (few, middle, next, heard, more) =
    phase_ends catalog drawn sessions n run job stores middle end asks next how o decided most idle few heard
    (through_ends catalog drawn sessions n (with_job run job) most decided middle next end how o idle more)
through_ends catalog drawn sessions n run (suc most) false stores (job, Decides asks) end how o idle (few, middle, next, heard, more) =
    decision_ends catalog drawn sessions n run job stores end asks how o (suc most)
    (phase_ends catalog drawn sessions n run job stores middle end asks next how o true most idle few heard
    (through_ends catalog drawn sessions n (with_job run job) most true middle next end how o idle more))
through_ends catalog drawn sessions n run most decided stores p end how o idle h = absurd h
