-- The answers of a session of packets over servers in memory are a plain session's.
use Rattle.std.proofs.Common.{◌≡◌, ◌≢◌, ℕ, ◌+◌, ◌^◌, ◌<◌, ◌≤◌, ◌++◌, List, [], ◌∷◌, Bool, true, cond, Option, Some, None, length, map, refl, ap, ◌∙◌, subst, arith}
use Rattle.std.specs.Prelude.{is_some}
use Rattle.std.specs.Option.{option_or}
use Rattle.std.specs.List.{AllByRecursion}
use Rattle.std.specs.Map.{lookup}
use Rattle.catalog.specs.Views.{View}
use Rattle.my_messages.specs.declared.command.Command.{Command}
use Rattle.my_messages.specs.declared.command.Command.TheVariants.{Quit, InitDb, Query, Ping, Unknown}
use Rattle.my_messages.specs.declared.reply.Reply.{Reply}
use Rattle.sql_replies.specs.Errors.{no_memory_reply}
use Rattle.front_core.specs.declared.work.Work.{Work}
use Rattle.front_core.specs.declared.work.Work.TheVariants.{Idle}
use Rattle.front_core.specs.declared.event.Output.{Output}
use Rattle.front_core.specs.declared.event.Output.TheVariants.{Send, Await, Decided, Acked, Answer}
use Rattle.front_core.specs.Core.{Front}
use Rattle.front_core.specs.Outputs.{answers_in}
use Rattle.plain_sessions.specs.Exec.{Tables, no_rows, exec}
use Rattle.plain_sessions.specs.Held.{CanBeServed, stores_of}
use Rattle.plain_sessions.specs.Solo.{solo_answers}
use Rattle.phase_law.specs.Laws.{AreHeld, StatementsGoThrough, StatementsKeepTables}
use Rattle.world_runs.specs.World.{World, Open as Opens, new_stores, happens, after_outputs, runs, client}
use Rattle.world_runs.proofs.Clients.{quiet, DoesPlain, client_plain, client_keeps}
use Rattle.world_runs.proofs.Sessions.{Sessions, AreIdle, found_idle}
use Rattle.world_runs.proofs.Starts.{stores_start, none_held}
use Rattle.front_node.specs.Asking.{Node, Runs, reply_in}
use Rattle.front_node.specs.Session.{Exchange, Exchanged, Served}
use Rattle.wire_law.specs.Backing.{asks_store}
use Rattle.wire_law.specs.Wire.{text_in, answer_in, texts_of, answers_to, NoneStarved, WiresAreSolo}
use Rattle.wire_law.proofs.Kept.{Stores, own, IsOpen, runs_keep}
use Rattle.wire_law.proofs.Turning.{NotStarved, runs_are}

-- ANSWERS

one_reply : (outputs : List Output) (reply : Reply) → answers_in outputs ≡ reply ∷ [] → reply_in outputs ≡ Some reply
one_reply [] reply h = absurd (cc)
one_reply (Answer tx other ∷ outputs) reply h = ap (λ o. option_or o (Some other)) (no_reply outputs (ap tail h)) ∙ ap Some (ap (head other) h) where
  tail : List Reply → List Reply
  tail [] = []
  tail (x ∷ xs) = xs

  head : Reply → List Reply → Reply
  head y [] = y
  head y (x ∷ xs) = x

  no_reply : (os : List Output) → answers_in os ≡ [] → reply_in os ≡ None
  no_reply [] k = refl
  no_reply (Answer tx r ∷ os) k = absurd (cc)
  no_reply (Send server request ∷ os) k = no_reply os k
  no_reply (Await server ∷ os) k = no_reply os k
  no_reply (Decided tx ∷ os) k = no_reply os k
  no_reply (Acked tx ∷ os) k = no_reply os k
one_reply (Send server request ∷ outputs) reply h = one_reply outputs reply h
one_reply (Await server ∷ outputs) reply h = one_reply outputs reply h
one_reply (Decided tx ∷ outputs) reply h = one_reply outputs reply h
one_reply (Acked tx ∷ outputs) reply h = one_reply outputs reply h

-- SESSIONS

-- a front at rest, with its servers' stores
abbrev node_at : View → ℕ → Sessions → Tables → Node Stores
node_at catalog drawn sessions tables = record { front = record { catalog = catalog; drawn = drawn; sessions = sessions }; backs = stores_of catalog tables }

line_is : (catalog : View) (drawn : ℕ) (sessions : Sessions) (tables : Tables) (text : List ℕ) → lookup own sessions ≡ Some Idle
    → client (quiet catalog drawn sessions tables) 1 text ≡ runs (quiet catalog drawn sessions tables) 1 text
unfolding client
line_is catalog drawn sessions tables text there =
    let w = quiet catalog drawn sessions tables in
    ap (λ (b : Bool). let o : World × List Output = cond b (w, []) (happens w 1 Opens) in after_outputs o.1 (runs o.0 1 text)) (ap is_some there)

idle_of : (sessions : Sessions) (found : Option Work) → AreIdle sessions → lookup own sessions ≡ found → is_some found ≡ true → lookup own sessions ≡ Some Idle
idle_of sessions None idle is h = absurd (cc)
idle_of sessions (Some work) idle is h = found_idle own sessions work idle is

-- a statement's answer is the plain session's, and so is what it leaves
record IsSolo (catalog : View) (drawn : ℕ) (tables : Tables) (text : List ℕ) (answer : Option Reply) (new : Node Stores) : Type 0 where
  pub after : ℕ
  pub most : after ≤ drawn + 1
  pub sessions : Sessions
  pub idle : AreIdle sessions
  pub there : lookup own sessions ≡ Some Idle
  pub answered : answer ≡ Some (exec catalog text tables).0
  pub left : new ≡ node_at catalog after sessions (exec catalog text tables).1

module _ (go_through : StatementsGoThrough) (keep : StatementsKeepTables) (catalog : View) (served : CanBeServed catalog) where
  statement_solo : (drawn : ℕ) (sessions : Sessions) (tables : Tables) (text : List ℕ) (outputs : List Output) (new : Node Stores) → drawn < 2 ^ 63 → AreIdle sessions
      → lookup own sessions ≡ Some Idle → AreHeld catalog tables → Runs asks_store 1 (node_at catalog drawn sessions tables) text outputs new → NotStarved outputs
      → IsSolo catalog drawn tables text (reply_in outputs) new
  statement_solo drawn sessions tables text outputs new few idle there held r h =
      let old = node_at catalog drawn sessions tables in
      let a = runs_are old new text outputs r h in
      let d = subst (λ x. DoesPlain catalog drawn tables text x) (line_is catalog drawn sessions tables text there ∙ a.1)
      (client_plain go_through keep catalog served drawn 1 sessions tables text few refl idle held) in
      let left : new ≡ node_at catalog d.after d.sessions (exec catalog text tables).1 = ap (λ (w : World). record { front = w.front; backs = w.stores }) d.world in
      let still : IsOpen (node_at catalog d.after d.sessions (exec catalog text tables).1).front =
      subst (λ (m : Node Stores). IsOpen m.front) left (runs_keep old new text outputs r (ap is_some there)) in
      record {
        after = d.after;
        most = d.most;
        sessions = d.sessions;
        idle = d.idle;
        there = idle_of d.sessions (lookup own d.sessions) d.idle refl still;
        answered = one_reply outputs (exec catalog text tables).0 d.answer;
        left = left;
      }

  -- the answers to the statements of a session over the stores
  abbrev FromHere : List Exchange → Node Stores → Type 0
  FromHere xs last =
      (drawn : ℕ) (sessions : Sessions) (tables : Tables) → drawn + length xs < 2 ^ 63 → AreIdle sessions → lookup own sessions ≡ Some Idle → AreHeld catalog tables → NoneStarved xs
      → Served asks_store 1 (node_at catalog drawn sessions tables) xs last → answers_to xs ≡ map Some (solo_answers catalog tables (texts_of xs))

  exchange_solo : (command : Command) (answer : Option Reply) (xs : List Exchange) (drawn : ℕ) (sessions : Sessions) (tables : Tables) (last : Node Stores) → FromHere xs last
      → drawn + 1 + length xs < 2 ^ 63 → AreIdle sessions → lookup own sessions ≡ Some Idle → AreHeld catalog tables
      → AllByRecursion (λ answer. answer ≢ Some no_memory_reply) (answer_in command answer ++ answers_to xs)
      → (middle : Node Stores) × Exchanged asks_store 1 (node_at catalog drawn sessions tables) command answer middle × Served asks_store 1 middle xs last
      → answer_in command answer ++ answers_to xs ≡ map Some (solo_answers catalog tables (text_in command ++ texts_of xs))
  exchange_solo Quit answer xs drawn sessions tables last again few idle there held a s =
      again drawn sessions tables (omega arith) idle there held a (subst (λ (m : Node Stores). Served asks_store 1 m xs last) s.1.1 s.2)
  exchange_solo Ping answer xs drawn sessions tables last again few idle there held a s =
      again drawn sessions tables (omega arith) idle there held a (subst (λ (m : Node Stores). Served asks_store 1 m xs last) s.1.1 s.2)
  exchange_solo (InitDb name) answer xs drawn sessions tables last again few idle there held a s =
      again drawn sessions tables (omega arith) idle there held a (subst (λ (m : Node Stores). Served asks_store 1 m xs last) s.1.1 s.2)
  exchange_solo (Unknown first) answer xs drawn sessions tables last again few idle there held a s =
      again drawn sessions tables (omega arith) idle there held a (subst (λ (m : Node Stores). Served asks_store 1 m xs last) s.1.1 s.2)
  exchange_solo (Query text) answer xs drawn sessions tables last again few idle there held a s =
      let run = s.1 in
      let d = statement_solo drawn sessions tables text run.0 s.0 (omega arith) idle there held run.1 (λ k. a.0 (run.2 ∙ k)) in
      let most = d.most in
      ap (λ o. o ∷ answers_to xs) (run.2 ∙ d.answered)
      ∙ ap (λ os. Some (exec catalog text tables).0 ∷ os)
      (again d.after d.sessions (exec catalog text tables).1 (omega arith) d.idle d.there (client_keeps go_through keep catalog served tables text held) a.1
      (subst (λ (m : Node Stores). Served asks_store 1 m xs last) d.left s.2))

  session_solo : (xs : List Exchange) (last : Node Stores) → FromHere xs last
  session_solo [] last drawn sessions tables few idle there held all s = refl
  session_solo (x ∷ xs) last drawn sessions tables few idle there held all s =
      exchange_solo x.command x.answer xs drawn sessions tables last (session_solo xs last) (omega arith) idle there held all s

-- a session on the new front over the stores as they start
pub wires_are_solo : StatementsGoThrough → StatementsKeepTables → WiresAreSolo
wires_are_solo go_through keep catalog opening opened xs last served opens s few none =
    let start : record { front = opened; backs = new_stores catalog } ≡ node_at catalog 0 ((1, Idle) ∷ []) no_rows =
    ap (λ (r : Front × List Output). record { front = r.0; backs = new_stores catalog }) opens
    ∙ ap (λ (stores : Stores). record { front = record { catalog = catalog; drawn = 0; sessions = (1, Idle) ∷ [] }; backs = stores }) (stores_start catalog) in
    session_solo go_through keep catalog served xs last 0 ((1, Idle) ∷ []) no_rows (omega arith) (refl, tt) refl (none_held catalog) none
    (subst (λ (m : Node Stores). Served asks_store 1 m xs last) start s)
