-- A run does what a plain session does, line by line.
use Rattle.std.proofs.Common.{◌≡◌, inl, inr, ℕ, ◌+◌, ◌<◌, ◌≤◌, ◌^◌, ◌++◌, List, [], ◌∷◌, Bool, true, false, None, option_to_list, map, refl, sym, ap, ◌∙◌, subst, arith}
use Rattle.std.specs.Prelude.{nat_lt}
use Rattle.std.specs.List.{flat_map, AllByRecursion}
use Rattle.std.proofs.lemmas.Grind.{flat_map-append}
use Rattle.std.proofs.lemmas.List.{append-nil}
use Rattle.catalog.specs.Views.{View}
use Rattle.plain_sessions.specs.Exec.{Tables, no_rows, exec}
use Rattle.plain_sessions.specs.Held.{CanBeServed, stores_of}
use Rattle.plain_sessions.specs.Solo.{solo_answers, solo_after}
use Rattle.plain_sessions.specs.Serial as serial
use Rattle.plain_sessions.specs.Serial.{Entry, Transaction, Follows}
use Rattle.phase_law.specs.Laws.{AreHeld, StatementsGoThrough, StatementsKeepTables}
use Rattle.front_core.specs.declared.event.TxNo.{TxNo}
use Rattle.front_core.specs.declared.event.Output.{Output}
use Rattle.front_core.specs.Outputs.{decided_in}
use Rattle.front_core.specs.Core.{new_front}
use Rattle.world_runs.specs.World.{World, client, new_stores}
use Rattle.world_runs.specs.Schedule.{Line, Passed, Trace, Client, Broken, words_of, line_of, lines_of}
use Rattle.world_runs.specs.Run.{Scene, Given, nothing, client_in, shown_for, Played, Run, after_line, line_does, line_step, by_step, run_of, run_of_schedule}
use Rattle.world_runs.specs.History.{sent_by, statements_of, answers_of, decisions_of, acknowledged_in, entries_by, entries_in, entries_of, entries_with, transaction_of, IsPlain}
use Rattle.world_runs.proofs.LineWords.{NotBroken, line_is_words, line_is_early, IsNumbered, line_numbered}
use Rattle.world_runs.proofs.Sessions.{Sessions, AreIdle}
use Rattle.world_runs.proofs.Starts.{stores_start, none_held}
use Rattle.world_runs.proofs.Clients.{quiet, DoesPlain, client_plain, client_keeps}

-- LISTS

Follows-append : (catalog : View) (xs ys : List Entry) (start middle end : Tables) → Follows catalog xs start middle → Follows catalog ys middle end → Follows catalog (xs ++ ys) start end
Follows-append catalog [] ys start middle end f g = subst (λ t. Follows catalog ys t end) f g
Follows-append catalog (x ∷ xs) ys start middle end f g = (f.0, Follows-append catalog xs ys (exec catalog x.text start).1 middle end f.1 g)

-- what differs at none of these is one list
flat_map-same : {A B : Type 0} (f g : A → List B) (xs : List A) → AllByRecursion (λ x. f x ≡ g x) xs → flat_map f xs ≡ flat_map g xs
flat_map-same f g [] h = refl
flat_map-same f g (x ∷ xs) h = ap (λ ys. ys ++ flat_map f xs) h.0 ∙ ap (λ ys. g x ++ ys) (flat_map-same f g xs h.1)

All-map : {A : Type 0} (P Q : A → Type 0) (xs : List A) → ((x : A) → P x → Q x) → AllByRecursion P xs → AllByRecursion Q xs
All-map P Q [] f h = tt
All-map P Q (x ∷ xs) f h = (f x h.0, All-map P Q xs f h.1)

All-append : {A : Type 0} (P : A → Type 0) (xs ys : List A) → AllByRecursion P xs → AllByRecursion P ys → AllByRecursion P (xs ++ ys)
All-append P [] ys h k = k
All-append P (x ∷ xs) ys h k = (h.0, All-append P xs ys h.1 k)

-- HISTORIES

-- everything that the decided transactions did
abbrev all_entries : List Played → List Entry
all_entries played = flat_map (λ (tx : TxNo). entries_of tx played) (decisions_of played)

entries-map : (played : List Played) (txs : List TxNo) → serial.entries_of (map (transaction_of played) txs) ≡ flat_map (λ (tx : TxNo). entries_of tx played) txs
entries-map played [] = refl
entries-map played (tx ∷ txs) = ap (λ es. entries_of tx played ++ es) (entries-map played txs)

-- a line's decisions did nothing after it, and those after it nothing in it
all_entries-cons : (p : Played) (played : List Played)
    → AllByRecursion (λ (tx : TxNo). entries_of tx played ≡ []) (decided_in p.given.outputs) → AllByRecursion (λ (tx : TxNo). entries_in tx p ≡ []) (decisions_of played)
    → all_entries (p ∷ played) ≡ flat_map (λ (tx : TxNo). entries_in tx p) (decided_in p.given.outputs) ++ all_entries played
all_entries-cons p played before after =
    flat_map-append (λ (tx : TxNo). entries_of tx (p ∷ played)) (decided_in p.given.outputs) (decisions_of played)
    ∙ ap (λ es. es ++ flat_map (λ (tx : TxNo). entries_of tx (p ∷ played)) (decisions_of played))
    (flat_map-same (λ (tx : TxNo). entries_of tx (p ∷ played)) (λ (tx : TxNo). entries_in tx p) (decided_in p.given.outputs)
    (All-map _ _ (decided_in p.given.outputs) (λ tx e. ap (λ es. entries_in tx p ++ es) e ∙ append-nil (entries_in tx p)) before))
    ∙ ap (λ es. flat_map (λ (tx : TxNo). entries_in tx p) (decided_in p.given.outputs) ++ es)
    (flat_map-same (λ (tx : TxNo). entries_of tx (p ∷ played)) (λ (tx : TxNo). entries_of tx played) (decisions_of played)
    (All-map _ _ (decisions_of played) (λ tx e. ap (λ es. es ++ entries_of tx played) e) after))

-- RUNS

abbrev scene_at : Bool → View → ℕ → Sessions → Tables → Scene
scene_at traced catalog drawn sessions tables = record { world = quiet catalog drawn sessions tables; traced = traced }

-- a run from a world that drew so many numbers, on the tables
pub record RunsPlain (catalog : View) (drawn : ℕ) (tables : Tables) (r : Run) : Type 0 where
  pub answers : answers_of r.played ≡ solo_answers catalog tables (statements_of r.played)
  pub rows : r.scene.world.stores ≡ stores_of catalog (solo_after catalog tables (statements_of r.played))
  pub serial : Follows catalog (all_entries r.played) tables (solo_after catalog tables (statements_of r.played))
  pub acknowledged : acknowledged_in r.played ≡ decisions_of r.played
  pub numbers : AllByRecursion (λ (tx : TxNo). drawn < tx.number) (decisions_of r.played)
  pub strangers : (tx : TxNo) → tx.number ≤ drawn → entries_of tx r.played ≡ []

-- nothing was played
ended_plain : (catalog : View) (drawn : ℕ) (tables : Tables) (r : Run) → r.played ≡ [] → r.scene.world.stores ≡ stores_of catalog tables → RunsPlain catalog drawn tables r
ended_plain catalog drawn tables r none held = record {
  answers = ap (λ ps. answers_of ps) none ∙ sym (ap (λ ps. solo_answers catalog tables (statements_of ps)) none);
  rows = held ∙ sym (ap (λ ps. stores_of catalog (solo_after catalog tables (statements_of ps))) none);
  serial = subst (λ ps. Follows catalog (all_entries ps) tables (solo_after catalog tables (statements_of ps))) (sym none) refl;
  acknowledged = ap acknowledged_in none ∙ sym (ap decisions_of none);
  numbers = subst (λ ps. AllByRecursion (λ (tx : TxNo). drawn < tx.number) (decisions_of ps)) (sym none) tt;
  strangers = λ tx n. ap (entries_of tx) none;
}

-- a line without a statement, and then a run
silent_plain : (catalog : View) (drawn : ℕ) (tables : Tables) (line : List ℕ) (r : Run) → sent_by (words_of line) ≡ None → RunsPlain catalog drawn tables r
    → RunsPlain catalog drawn tables (after_line (record { line = line; given = nothing }) r)
silent_plain catalog drawn tables line r e h =
    let p : Played = record { line = line; given = nothing } in
    let none : statements_of (p ∷ r.played) ≡ statements_of r.played = ap (λ l. option_to_list l ++ statements_of r.played) e in
    let idle : (tx : TxNo) → entries_in tx p ≡ [] = λ tx. ap (λ l. entries_by tx l []) e in
    record {
      answers = h.answers ∙ ap (solo_answers catalog tables) (sym none);
      rows = h.rows ∙ ap (λ ts. stores_of catalog (solo_after catalog tables ts)) (sym none);
      serial =
          subst (λ es. Follows catalog es tables (solo_after catalog tables (statements_of (p ∷ r.played))))
          (sym (flat_map-same (λ (tx : TxNo). entries_of tx (p ∷ r.played)) (λ (tx : TxNo). entries_of tx r.played) (decisions_of r.played)
          (All-map (λ (tx : TxNo). drawn < tx.number) _ (decisions_of r.played) (λ tx n. ap (λ es. es ++ entries_of tx r.played) (idle tx)) h.numbers)))
          (subst (λ ts. Follows catalog (all_entries r.played) tables (solo_after catalog tables ts)) (sym none) h.serial);
      acknowledged = h.acknowledged;
      numbers = h.numbers;
      strangers = λ tx n. ap (λ es. es ++ entries_of tx r.played) (idle tx) ∙ h.strangers tx n;
    }

-- a client's line, and then a run
sent_plain : (catalog : View) (drawn n : ℕ) (tables : Tables) (line text : List ℕ) (given : Given) (left : World) (r : Run) → words_of line ≡ Client n text
    → (d : DoesPlain catalog drawn tables text (left, given.outputs)) → RunsPlain catalog d.after (exec catalog text tables).1 r
    → RunsPlain catalog drawn tables (after_line (record { line = line; given = given }) r)
sent_plain catalog drawn n tables line text given left r e d h =
    let outputs = given.outputs in
    let p : Played = record { line = line; given = given } in
    let some : statements_of (p ∷ r.played) ≡ text ∷ statements_of r.played = ap (λ l. option_to_list (sent_by l) ++ statements_of r.played) e in
    let by_text : (tx : TxNo) → entries_in tx p ≡ entries_with tx text outputs = λ tx. ap (λ l. entries_by tx (sent_by l) outputs) e in
    let least = d.least in
    let end = solo_after catalog (exec catalog text tables).1 (statements_of r.played) in
    let numbered : AllByRecursion (λ (tx : TxNo). drawn < tx.number) (decisions_of r.played) =
    All-map (λ (tx : TxNo). d.after < tx.number) _ (decisions_of r.played) (λ tx m. omega arith) h.numbers in
    record {
      answers = ap (λ rs. rs ++ answers_of r.played) d.answer ∙ ap (λ rs. (exec catalog text tables).0 ∷ rs) h.answers ∙ ap (solo_answers catalog tables) (sym some);
      rows = h.rows ∙ ap (λ ts. stores_of catalog (solo_after catalog tables ts)) (sym some);
      serial =
          subst (λ ts. Follows catalog (all_entries (p ∷ r.played)) tables (solo_after catalog tables ts)) (sym some)
          (subst (λ es. Follows catalog es tables end)
          (sym (all_entries-cons p r.played (All-map (λ (tx : TxNo). (drawn < tx.number) × (tx.number ≤ d.after)) _ (decided_in outputs) (λ tx m. h.strangers tx m.1) d.numbers)
          (All-map (λ (tx : TxNo). d.after < tx.number) _ (decisions_of r.played) (λ tx m. by_text tx ∙ d.strangers tx (inr m)) h.numbers)))
          (Follows-append catalog (flat_map (λ (tx : TxNo). entries_in tx p) (decided_in outputs)) (all_entries r.played) tables (exec catalog text tables).1 end
          (subst (λ es. Follows catalog es tables (exec catalog text tables).1)
          (flat_map-same (λ (tx : TxNo). entries_with tx text outputs) (λ (tx : TxNo). entries_in tx p) (decided_in outputs)
          (All-map (λ (tx : TxNo). (drawn < tx.number) × (tx.number ≤ d.after)) _ (decided_in outputs) (λ tx m. sym (by_text tx)) d.numbers))
          d.serial)
          h.serial));
      acknowledged = ap (λ ts. ts ++ acknowledged_in r.played) d.acked ∙ ap (λ ts. decided_in outputs ++ ts) h.acknowledged;
      numbers =
          All-append (λ (tx : TxNo). drawn < tx.number) (decided_in outputs) (decisions_of r.played)
          (All-map (λ (tx : TxNo). (drawn < tx.number) × (tx.number ≤ d.after)) _ (decided_in outputs) (λ tx m. m.0) d.numbers) numbered;
      strangers = λ tx m.
          ap (λ es. es ++ entries_of tx r.played) (by_text tx ∙ d.strangers tx (inl m)) ∙ h.strangers tx (omega arith);
    }

module _ (go_through : StatementsGoThrough) (keep : StatementsKeepTables) (catalog : View) (served : CanBeServed catalog) where
  -- one line, and then a run
  line_plain : (l : Line) (traced : Bool) (drawn number : ℕ) (sessions : Sessions) (tables : Tables) (line : List ℕ) (lines : List (List ℕ)) → line_of number line ≡ l → drawn < number
      → AreIdle sessions → AreHeld catalog tables
      → ((t : Bool) (d : ℕ) (ss : Sessions) (ts : Tables) → d ≤ number → AreIdle ss → AreHeld catalog ts → RunsPlain catalog d ts (run_of (scene_at t catalog d ss ts) number lines))
      → RunsPlain catalog drawn tables (by_step line (line_does l (scene_at traced catalog drawn sessions tables)) number (scene_at traced catalog drawn sessions tables) (λ s. run_of s number lines))
  line_plain Passed traced drawn number sessions tables line lines e few idle held more =
      let ok : NotBroken (line_of number line) = subst NotBroken (sym e) tt in
      silent_plain catalog drawn tables line (run_of (scene_at traced catalog drawn sessions tables) number lines) (ap sent_by (sym (line_is_words number line ok) ∙ e))
      (more traced drawn sessions tables (omega arith) idle held)
  line_plain (Trace on) traced drawn number sessions tables line lines e few idle held more =
      let ok : NotBroken (line_of number line) = subst NotBroken (sym e) tt in
      silent_plain catalog drawn tables line (run_of (scene_at on catalog drawn sessions tables) number lines) (ap sent_by (sym (line_is_words number line ok) ∙ e))
      (more on drawn sessions tables (omega arith) idle held)
  line_plain (Broken rule) traced drawn number sessions tables line lines e few idle held more = ended_plain catalog drawn tables _ refl refl
  line_plain (Client n text) traced drawn number sessions tables line lines e few idle held more =
      let ok : NotBroken (line_of number line) = subst NotBroken (sym e) tt in
      let early = line_is_early number line ok in
      let some : nat_lt 0 n ≡ true = subst IsNumbered e (line_numbered number line ok) in
      let here = scene_at traced catalog drawn sessions tables in
      let c = client (quiet catalog drawn sessions tables) n text in
      let d = client_plain go_through keep catalog served drawn n sessions tables text (omega arith) some idle held in
      let most = d.most in
      let after : Scene = record { world = c.0; traced = traced } in
      let next = more traced d.after d.sessions (exec catalog text tables).1 (omega arith) d.idle (client_keeps go_through keep catalog served tables text held) in
      let rest : RunsPlain catalog d.after (exec catalog text tables).1 (run_of after number lines) =
      subst (λ (v : World). RunsPlain catalog d.after (exec catalog text tables).1 (run_of (record { world = v; traced = traced }) number lines)) (sym d.world) next in
      sent_plain catalog drawn n tables line text (record { shown = shown_for here n; outputs = c.1 }) c.0 (run_of after number lines) (sym (line_is_words number line ok) ∙ e) d rest

  run_plain : (lines : List (List ℕ)) (traced : Bool) (drawn number : ℕ) (sessions : Sessions) (tables : Tables) → drawn ≤ number → AreIdle sessions → AreHeld catalog tables
      → RunsPlain catalog drawn tables (run_of (scene_at traced catalog drawn sessions tables) number lines)
  unfolding run_of line_step
  run_plain [] traced drawn number sessions tables few idle held = ended_plain catalog drawn tables _ refl refl
  run_plain (line ∷ lines) traced drawn number sessions tables few idle held =
      line_plain (line_of (number + 1) line) traced drawn (number + 1) sessions tables line lines refl (omega arith) idle held
      (λ t d ss ts n i k. run_plain lines t d (number + 1) ss ts n i k)

  -- the run of each schedule
  pub every_run_is_plain : (schedule : List ℕ) → IsPlain catalog schedule
  every_run_is_plain schedule =
      let w : World = record { front = new_front catalog; stores = new_stores catalog; requests = []; answers = [] } in
      let start : RunsPlain catalog 0 no_rows (run_of (record { world = w; traced = false }) 0 (lines_of schedule)) =
      subst (λ stores. RunsPlain catalog 0 no_rows (run_of (record { world = record w { stores = stores }; traced = false }) 0 (lines_of schedule))) (sym (stores_start catalog))
      (run_plain (lines_of schedule) false 0 0 [] no_rows (omega arith) tt (none_held catalog)) in
      let r = run_of_schedule catalog schedule in
      record {
        answers = start.answers;
        rows = start.rows;
        serial = subst (λ es. Follows catalog es no_rows (solo_after catalog no_rows (statements_of r.played))) (sym (entries-map r.played (decisions_of r.played))) start.serial;
        acknowledged = start.acknowledged;
      }
