-- Connections between the front and the servers: requests under way, answers not yet read, breaks.
use Rattle.std.specs.Prelude.{ℕ, Bool, true, false, cond, not, ◌&&◌, ◌||◌, eqb, List, [], ◌∷◌, ◌++◌}
use Rattle.commit_protocol.specs.Rows.{Operation}
use Rattle.commit_protocol.specs.Backend.{Request, Effect}
use Rattle.commit_protocol.specs.Backend.Effect.{Keep, Show, Begin, Grow, Close, Ready, Drop, Install}

-- f with another value at one place.
abbrev pub set : {A : Type 0} → (ℕ → A) → ℕ → A → ℕ → A
set f k v n = cond (eqb n k) v (f n)

-- To which server each connection leads.
pub record Topology : Type 0 where
  pub home : ℕ → ℕ

-- What a server answers: a refusal, the operation that ran, done, or what is prepared.
pub data Reply : Type 0 where
  Refused : Reply
  Ran : (op : Operation) → Reply
  Did : Reply
  Listed : (xids : List ℕ) → Reply

-- What the server answers where a request has this effect.
abbrev pub reply : Effect → Reply
reply Keep = Refused
reply (Show xids) = Listed xids
reply (Begin x c) = Did
reply (Grow b op) = Ran op
reply (Close b) = Did
reply (Ready b) = Did
reply (Drop b) = Did
reply (Install b) = Did

-- A connection. xid: the transaction that uses it now; begun: whether that transaction's branch was begun on it;
-- dialled: whether it was ever dialled; heard: whether the server still takes requests from it; stands: whether answers come
-- back; missed: whether an answer was lost, which the front sees as it reads; queue: requests under way, the oldest first;
-- unread: answers not yet read, the oldest first. Broken and still heard, its requests are late.
pub record Connection : Type 0 where
  pub xid : ℕ
  pub begun : Bool
  pub dialled : Bool
  pub heard : Bool
  pub stands : Bool
  pub missed : Bool
  pub queue : List Request
  pub unread : List Reply

-- Nothing is under way.
abbrev pub no_requests : List Request → Bool
no_requests [] = true
no_requests (r ∷ rs) = false

-- No answer waits.
abbrev pub no_replies : List Reply → Bool
no_replies [] = true
no_replies (r ∷ rs) = false

-- What is written on it may still reach the server.
abbrev pub reaches : Connection → Bool
reaches c = c.dialled && c.heard

-- No request is under way and no answer waits.
abbrev pub is_empty : Connection → Bool
is_empty c = no_requests c.queue && no_replies c.unread

-- Nothing is under way, and every answer was read.
abbrev pub is_idle : Connection → Bool
is_idle c = reaches c && (not c.missed && is_empty c)

-- A connection after it is dialled.
abbrev pub dialled_now : Connection → Connection
dialled_now c = record c { dialled = true; heard = true; stands = true }

-- A connection after it breaks: what is answered from now on is lost.
abbrev pub broken : Connection → Connection
broken c = record c { stands = false; missed = c.missed || not (is_empty c); unread = [] }

-- A connection after the server has seen its end or has stopped: late requests are lost too.
abbrev pub ended : Connection → Connection
ended c = record (broken c) { heard = false; queue = [] }

-- The effect begins a branch.
abbrev pub begins : Effect → Bool
begins Keep = false
begins (Show xids) = false
begins (Begin x c) = true
begins (Grow b op) = false
begins (Close b) = false
begins (Ready b) = false
begins (Drop b) = false
begins (Install b) = false

-- A connection after its first request had an effect and was answered so, with the rest still under way: the answer of a broken
-- one vanishes.
abbrev pub after_serving : Connection → List Request → Effect → Reply → Connection
after_serving c rest e told = record c { begun = c.begun || begins e; missed = c.missed || not c.stands; queue = rest; unread = cond c.stands (c.unread ++ told ∷ []) [] }

-- A number that was never dialled.
abbrev pub new_connection : Connection
new_connection = record { xid = 0; begun = false; dialled = false; heard = false; stands = false; missed = false; queue = []; unread = [] }
