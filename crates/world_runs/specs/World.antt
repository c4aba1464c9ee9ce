-- The front, the servers' stores, and what lies between them.
use Rattle.std.specs.Prelude.{ℕ, zero, suc, ◌++◌, ◌||◌, ◌&&◌, List, [], ◌∷◌, Bool, true, false, Option, Some, None, map, length, is_some, set, slice_get, if◌then◌else◌}
use Rattle.std.specs.List.{range_with_len}
use Rattle.catalog.specs.Views.{View, remote_defs}
use Rattle.sql_text.specs.declared.link.LinkAnswer.{LinkAnswer}
use Rattle.sql_text.specs.declared.link.LinkRequest.{LinkRequest}
use Rattle.branch_store.specs.Laws.{at_rest}
use Rattle.branch_store.specs.Opening.{empty_tables}
use Rattle.branch_store.specs.Store.{Store, store_step}
use Rattle.front_core.specs.declared.event.Event.{Event}
use Rattle.front_core.specs.declared.event.Event.TheVariants as event
use Rattle.front_core.specs.declared.event.Output.{Output}
use Rattle.front_core.specs.Core.{Front, new_front, front_step, work_of, rests, most_turns}
use Rattle.front_core.specs.Outputs.{sends}

-- the front, the servers' stores by number, and the connections of the session that is at work: requests not yet delivered and answers not yet read, both
-- in order, each with its server
pub record World : Type 0 where
  pub front : Front
  pub stores : List Store
  pub requests : List (ℕ × LinkRequest)
  pub answers : List (ℕ × LinkAnswer)

-- the stores of a configuration's servers as they start: each link's table without rows
abbrev pub new_stores : View → List Store
new_stores catalog = map (λ server. at_rest (empty_tables (remote_defs server catalog.tables))) (range_with_len 0 (length catalog.servers))

-- the world of a configuration as it starts
abbrev pub new_world : View → World
new_world catalog = record { front = new_front catalog; stores = new_stores catalog; requests = []; answers = [] }

-- what happens next to a session: it is opened, its client's statement comes, the oldest request reaches its server, or the front reads the oldest answer
pub data Happening : Type 0 where
  Open : Happening
  Client : List ℕ → Happening
  Deliver : Happening
  Reply : Happening

-- the front's part of a happening
abbrev pub fronts : World → Event → World × List Output
fronts w e = let s = front_step w.front e in (record { front = s.0; stores = w.stores; requests = w.requests ++ sends s.1; answers = w.answers }, s.1)

-- a request reaches its server, whose answer waits. One to a server that isn't there is gone
abbrev pub reaches : World → ℕ → ℕ → LinkRequest → List (ℕ × LinkRequest) → Option Store → World
reaches w n server request requests None = record { front = w.front; stores = w.stores; requests = requests; answers = w.answers }
reaches w n server request requests (Some store) =
    let b = store_step store n request in
    record { front = w.front; stores = set w.stores server b.0; requests = requests; answers = w.answers ++ (server, b.1) ∷ [] }

-- the oldest request of session n is delivered, on its connection
abbrev pub delivered : World → ℕ → List (ℕ × LinkRequest) → World × List Output
delivered w n [] = (w, [])
delivered w n (oldest ∷ requests) = (reaches w n oldest.0 oldest.1 requests (slice_get w.stores oldest.0), [])

-- the front reads the oldest answer
abbrev pub replied : World → ℕ → List (ℕ × LinkAnswer) → World × List Output
replied w n [] = (w, [])
replied w n (oldest ∷ answers) = fronts (record { front = w.front; stores = w.stores; requests = w.requests; answers = answers }) (event.Got n oldest.0 oldest.1)

-- the world after a happening to session n, and what the front gave out
abbrev pub happens : World → ℕ → Happening → World × List Output
happens w n Open = fronts w (event.Open n)
happens w n (Client text) = fronts w (event.Statement n text)
happens w n Deliver = delivered w n w.requests
happens w n Reply = replied w n w.answers

-- what was given out before, and then this
abbrev pub after_outputs : List Output → World × List Output → World × List Output
after_outputs outputs r = (r.0, outputs ++ r.1)

-- one turn: the oldest request is delivered, and the oldest answer read
abbrev pub turn : World → ℕ → World × List Output
turn w n = let d = happens w n Deliver in after_outputs d.1 (happens d.0 n Reply)

abbrev pub is_none : {X : Type 0} → List X → Bool
is_none [] = true
is_none (x ∷ xs) = false

-- the session is idle, or nothing is under way
abbrev pub is_over : World → ℕ → Bool
is_over w n = rests (work_of w.front n) || (is_none w.requests && is_none w.answers)

-- turns until all is over, at most so many
unfoldable pub turns : ℕ → World → ℕ → World × List Output
turns zero w n = (w, [])
turns (suc most) w n = if is_over w n then (w, []) else (let t = turn w n in after_outputs t.1 (turns most t.0 n))

-- the session is open
abbrev pub is_open : World → ℕ → Bool
is_open w n = is_some (work_of w.front n)

-- a session that isn't open is opened first
abbrev pub with_session : World → ℕ → World × List Output
with_session w n = if is_open w n then (w, []) else happens w n Open

-- a statement, and then turns until the session is idle
abbrev pub runs : World → ℕ → List ℕ → World × List Output
runs w n text = let s = happens w n (Client text) in after_outputs s.1 (turns most_turns s.0 n)

-- a client's line: the session is opened where it isn't open, and runs the statement
unfoldable pub client : World → ℕ → List ℕ → World × List Output
client w n text = let o = with_session w n in after_outputs o.1 (runs o.0 n text)
