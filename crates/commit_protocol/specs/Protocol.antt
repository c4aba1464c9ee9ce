-- The commit protocol: the front's transactions, the connections and the servers in one record, and what may happen next.
use Rattle.std.specs.Prelude.{ℕ, Bool, true, false, cond, not, ◌&&◌, ◌||◌, eqb, List, [], ◌∷◌, ◌++◌, Option, Some, None, is_none}
use Rattle.commit_protocol.specs.Rows.{Operation}
use Rattle.commit_protocol.specs.Backend.{Server, Request, Effect, effect, done, hung_up, stopped, new_server}
use Rattle.commit_protocol.specs.Backend.Request.{Start, Scan, Change, End, Prepare, Commit, Rollback, Recover}
use Rattle.commit_protocol.specs.Backend.Effect.{Keep, Show, Begin, Grow, Close, Ready, Drop, Install}
use Rattle.commit_protocol.specs.Network.{set, Topology, Reply, Connection, reaches, is_idle, dialled_now, broken, ended, reply, after_serving, new_connection}
use Rattle.commit_protocol.specs.Network.Reply.{Refused, Ran, Did, Listed}

-- ---- transactions

-- How far a transaction has come: no number drawn; live; its decision's record is being written, or may have been; decided or ended.
pub data Phase : Type 0 where
  Fresh : Phase
  Live : Phase
  Writing : Phase
  Over : Phase

-- Its number was not drawn.
abbrev pub is_fresh : Phase → Bool
is_fresh Fresh = true
is_fresh Live = false
is_fresh Writing = false
is_fresh Over = false

-- It may go on, and may be decided.
abbrev pub is_live : Phase → Bool
is_live Fresh = false
is_live Live = true
is_live Writing = false
is_live Over = false

-- Its record is in progress.
abbrev pub is_writing : Phase → Bool
is_writing Fresh = false
is_writing Live = false
is_writing Writing = true
is_writing Over = false

-- It is decided, ended or dead.
abbrev pub is_over : Phase → Bool
is_over Fresh = false
is_over Live = false
is_over Writing = false
is_over Over = true

-- It may still be decided.
abbrev pub is_undecided : Phase → Bool
is_undecided p = is_live p || is_writing p

-- What was done, as the front read it on a connection.
pub record Step : Type 0 where
  pub connection : ℕ
  pub op : Operation

-- A transaction as the front knows it. uses: the connections that it has used; log: what it has read that it did;
-- asked: on which connection each server was asked to prepare; ready: which server has done so.
pub record Transaction : Type 0 where
  pub phase : Phase
  pub uses : ℕ → Bool
  pub log : List Step
  pub asked : ℕ → Option ℕ
  pub ready : ℕ → Bool

-- A decided transaction: members are the connections on which a server was asked to prepare and has done so.
pub record Decision : Type 0 where
  pub number : ℕ
  pub log : List Step
  pub members : List ℕ

-- history: the decided transactions, the newest first; pending: a decision whose record is being written, or may have been.
pub record World : Type 0 where
  pub server : ℕ → Server
  pub connection : ℕ → Connection
  pub transaction : ℕ → Transaction
  pub history : List Decision
  pub pending : Option Decision

-- ---- membership

-- A member leads to the server.
abbrev pub has_member : Topology → ℕ → List ℕ → Bool
has_member f s [] = false
has_member f s (m ∷ ms) = eqb (f.home m) s || has_member f s ms

-- The connection is among the members.
abbrev pub is_member : ℕ → List ℕ → Bool
is_member c [] = false
is_member c (m ∷ ms) = eqb m c || is_member c ms

-- The transaction is decided with the server as a member.
abbrev pub decided_at : Topology → List Decision → ℕ → ℕ → Bool
decided_at f [] x s = false
decided_at f (d ∷ ds) x s = (eqb d.number x && has_member f s d.members) || decided_at f ds x s

-- ---- guards

-- Whether the front may send the request now. Commit and Rollback may be sent at any moment on any connection: by the
-- session itself, or by whoever settles the server. A transaction whose record is being written is neither.
abbrev pub may_ask : Topology → World → ℕ → Request → Bool
may_ask f w c (Start y) = eqb y (w.connection c).xid && (is_idle (w.connection c) && (not (w.connection c).begun && ((w.transaction y).uses c && is_live (w.transaction y).phase)))
may_ask f w c (Scan fp) = reaches (w.connection c) && ((w.connection c).begun && is_none ((w.transaction (w.connection c).xid).asked (f.home c)))
may_ask f w c (Change fp rows) = reaches (w.connection c) && ((w.connection c).begun && is_none ((w.transaction (w.connection c).xid).asked (f.home c)))
may_ask f w c (End y) = eqb y (w.connection c).xid && is_idle (w.connection c)
may_ask f w c Recover = reaches (w.connection c)
may_ask f w c (Prepare y) = eqb y (w.connection c).xid && (is_idle (w.connection c) && (is_none ((w.transaction y).asked (f.home c)) && is_live (w.transaction y).phase))
may_ask f w c (Commit y) = reaches (w.connection c) && decided_at f w.history y (f.home c)
may_ask f w c (Rollback y) = reaches (w.connection c) && (is_over (w.transaction y).phase && not (decided_at f w.history y (f.home c)))

-- A connection that a transaction has not used, with nothing under way, may be used by it.
abbrev pub may_use : World → ℕ → ℕ → Bool
may_use w c x = is_idle (w.connection c) && (is_live (w.transaction x).phase && not ((w.transaction x).uses c))

-- It is this connection.
abbrev pub is_at : Option ℕ → ℕ → Bool
is_at None c = false
is_at (Some d) c = eqb d c

-- Each member was asked to prepare on this connection, and has done so.
abbrev pub are_ready : Topology → Transaction → List ℕ → Bool
are_ready f t [] = true
are_ready f t (m ∷ ms) = (is_at (t.asked (f.home m)) m && t.ready (f.home m)) && are_ready f t ms

-- The decision's record may be written now: the transaction is live, its members are ready, and no other record is in progress.
abbrev pub may_decide : Topology → World → ℕ → List ℕ → Bool
may_decide f w x ms = is_live (w.transaction x).phase && (is_none w.pending && are_ready f (w.transaction x) ms)

-- ---- what each move leaves

-- A transaction has another phase.
abbrev pub with_phase : World → ℕ → Phase → World
with_phase w x p = record w { transaction = set w.transaction x (record (w.transaction x) { phase = p }) }

-- A connection is another.
abbrev pub with_connection : World → ℕ → Connection → World
with_connection w c n = record w { connection = set w.connection c n }

-- A transaction uses a connection from now on.
abbrev pub uses_connection : World → ℕ → ℕ → World
uses_connection w c x = record w {
  connection = set w.connection c (record (w.connection c) { xid = x; begun = false });
  transaction = set w.transaction x (record (w.transaction x) { uses = set (w.transaction x).uses c true });
}

-- The front notes on which connection a server was asked to prepare.
abbrev pub asking : Topology → World → ℕ → Request → ℕ → Transaction
asking f w c (Start y) = w.transaction
asking f w c (Scan fp) = w.transaction
asking f w c (Change fp rows) = w.transaction
asking f w c (End y) = w.transaction
asking f w c Recover = w.transaction
asking f w c (Prepare y) = set w.transaction y (record (w.transaction y) { asked = set (w.transaction y).asked (f.home c) (Some c) })
asking f w c (Commit y) = w.transaction
asking f w c (Rollback y) = w.transaction

-- The request is under way.
abbrev pub asks : Topology → World → ℕ → Request → World
asks f w c r = record w {
  connection = set w.connection c (record (w.connection c) { queue = (w.connection c).queue ++ r ∷ [] });
  transaction = asking f w c r;
}

-- A server that has prepared is ready: it is set when it is true, not when it is known.
abbrev pub readying : Topology → World → ℕ → Effect → ℕ → Transaction
readying f w c Keep = w.transaction
readying f w c (Show xids) = w.transaction
readying f w c (Begin x d) = w.transaction
readying f w c (Grow b op) = w.transaction
readying f w c (Close b) = w.transaction
readying f w c (Ready b) = set w.transaction b.xid (record (w.transaction b.xid) { ready = set (w.transaction b.xid).ready (f.home c) true })
readying f w c (Drop b) = w.transaction
readying f w c (Install b) = w.transaction

-- The server has done the first request of a connection and answered so; rest is still under way.
abbrev pub serves : Topology → World → ℕ → List Request → Effect → Reply → World
serves f w c rest e told = record w {
  server = set w.server (f.home c) (done (w.server (f.home c)) e);
  connection = set w.connection c (after_serving (w.connection c) rest e told);
  transaction = readying f w c e;
}

-- The server has done the first request, and answers so.
abbrev pub does : Topology → World → ℕ → List Request → Effect → World
does f w c rest e = serves f w c rest e (reply e)

-- The first request under way, if any, is done.
abbrev pub delivers : Topology → World → ℕ → List Request → World
delivers f w c [] = w
delivers f w c (r ∷ rest) = does f w c rest (effect (w.server (f.home c)) c r)

-- The server refuses the first request for a cause of its own: want of memory, a limit, a table that it hasn't.
abbrev pub refuses : Topology → World → ℕ → List Request → World
refuses f w c [] = w
refuses f w c (r ∷ rest) = does f w c rest Keep

-- A step that is durable: a prepared branch stands, goes, or is installed.
abbrev pub is_durable : Effect → Bool
is_durable Keep = false
is_durable (Show xids) = false
is_durable (Begin x c) = false
is_durable (Grow b op) = false
is_durable (Close b) = false
is_durable (Ready b) = true
is_durable (Drop b) = true
is_durable (Install b) = true

-- What is left of a durable step whose disk faults: the step, or nothing.
abbrev pub left_of : Bool → Effect → Effect
left_of found e = cond (found && is_durable e) e Keep

-- A server's unprepared branches go.
abbrev pub drops_unprepared : World → ℕ → World
drops_unprepared w s = record w { server = set w.server s (stopped (w.server s)) }

-- The disk of a server faults in the step of the first request: the step is kept or lost, the answer is a refusal, and the
-- server's unprepared branches go.
abbrev pub faults : Topology → World → ℕ → Bool → List Request → World
faults f w c found [] = w
faults f w c found (r ∷ rest) = drops_unprepared (serves f w c rest (left_of found (effect (w.server (f.home c)) c r)) Refused) (f.home c)

-- The front notes what it reads while the transaction is live.
abbrev pub noting : ℕ → Reply → List Step → List Step
noting c Refused log = log
noting c (Ran op) log = record { connection = c; op = op } ∷ log
noting c Did log = log
noting c (Listed xids) log = log

-- A transaction as the front reads an answer of it.
abbrev pub reading : ℕ → Reply → Transaction → Transaction
reading c r t = record t { log = cond (is_live t.phase) (noting c r t.log) t.log }

-- The first waiting answer, if any, is read.
abbrev pub reads : World → ℕ → List Reply → World
reads w c [] = w
reads w c (r ∷ rest) = record w {
  connection = set w.connection c (record (w.connection c) { unread = rest });
  transaction = set w.transaction (w.connection c).xid (reading c r (w.transaction (w.connection c).xid));
}

-- The server sees a connection's end: the unprepared branch goes, and so do the late requests.
abbrev pub sees_hangup : Topology → World → ℕ → World
sees_hangup f w c = record w {
  server = set w.server (f.home c) (hung_up (w.server (f.home c)) c);
  connection = set w.connection c (ended (w.connection c));
}

-- A server stops: its unprepared branches go, and its connections with all that is under way.
abbrev pub stops : Topology → World → ℕ → World
stops f w s = record w {
  server = set w.server s (stopped (w.server s));
  connection = λ c. cond (eqb (f.home c) s) (ended (w.connection c)) (w.connection c);
}

-- The front stops: its connections break.
abbrev pub front_stops : World → World
front_stops w = record w { connection = λ c. broken (w.connection c) }

-- The decision's record is being written.
abbrev pub writes : World → ℕ → List ℕ → World
writes w x ms = record w {
  transaction = set w.transaction x (record (w.transaction x) { phase = Writing });
  pending = Some (record { number = x; log = (w.transaction x).log; members = ms });
}

-- The record in progress is durable: the transaction is decided.
abbrev pub recorded : World → Option Decision → World
recorded w None = w
recorded w (Some d) = record w {
  transaction = set w.transaction d.number (record (w.transaction d.number) { phase = Over });
  history = d ∷ w.history;
  pending = None;
}

-- A transaction of an earlier boot.
abbrev pub dead : Transaction → Transaction
dead t = record t { phase = cond (is_undecided t.phase) Over t.phase }

-- The log is opened as a new boot: what was live in the earlier one is over, and no record is in progress.
abbrev pub new_boot : World → World
new_boot w = record w { transaction = λ x. dead (w.transaction x); pending = None }

-- ---- moves

-- What may happen.
pub data Move : Type 0 where
  -- a transaction draws its number
  Draws : (x : ℕ) → Move
  -- a connection is dialled, for the first time; one that broke is another when it is dialled again
  Dials : (c : ℕ) → Move
  -- a transaction takes a connection into use
  Uses : (c x : ℕ) → Move
  -- the front sends a request
  Sends : (c : ℕ) (request : Request) → Move
  -- a server takes the first request under way on a connection, which may be broken
  Delivers : (c : ℕ) → Move
  -- a server refuses the first request for a cause of its own
  Refuses : (c : ℕ) → Move
  -- a server's disk faults in the step of the first request, which is kept or lost
  Faults : (c : ℕ) (found : Bool) → Move
  -- the front reads the first answer
  Reads : (c : ℕ) → Move
  -- a connection breaks: its answers vanish
  Breaks : (c : ℕ) → Move
  -- a server sees that a broken connection has ended
  Hangup_seen : (c : ℕ) → Move
  -- the front begins to write a decision's record
  Writes : (x : ℕ) (members : List ℕ) → Move
  -- the record is durable
  Recorded : Move
  -- a transaction is given up
  Gives_up : (x : ℕ) → Move
  -- a server stops and starts again
  Stops : (s : ℕ) → Move
  -- the front stops
  Front_stops : Move
  -- the log is opened, as a new boot: a record in progress is in it whole, or isn't in it
  Reopens : (found : Bool) → Move

-- What a move leaves: nothing changes where its guard fails.
abbrev pub happens : Topology → World → Move → World
happens f w (Draws x) = cond (is_fresh (w.transaction x).phase) (with_phase w x Live) w
happens f w (Dials c) = cond (w.connection c).dialled w (with_connection w c (dialled_now (w.connection c)))
happens f w (Uses c x) = cond (may_use w c x) (uses_connection w c x) w
happens f w (Sends c r) = cond (may_ask f w c r) (asks f w c r) w
happens f w (Delivers c) = delivers f w c (w.connection c).queue
happens f w (Refuses c) = refuses f w c (w.connection c).queue
happens f w (Faults c found) = faults f w c found (w.connection c).queue
happens f w (Reads c) = reads w c (w.connection c).unread
happens f w (Breaks c) = with_connection w c (broken (w.connection c))
happens f w (Hangup_seen c) = cond (w.connection c).stands w (sees_hangup f w c)
happens f w (Writes x ms) = cond (may_decide f w x ms) (writes w x ms) w
happens f w Recorded = recorded w w.pending
happens f w (Gives_up x) = cond (is_live (w.transaction x).phase) (with_phase w x Over) w
happens f w (Stops s) = stops f w s
happens f w Front_stops = front_stops w
happens f w (Reopens found) = new_boot (cond found (recorded w w.pending) w)

-- The world after these moves, the first one first.
abbrev pub run : Topology → List Move → World → World
run f [] w = w
run f (m ∷ ms) w = run f ms (happens f w m)

-- Nothing is stored, dialled, drawn or decided.
abbrev pub start : World
start = record {
  server = λ s. new_server;
  connection = λ c. new_connection;
  transaction = λ x. record { phase = Fresh; uses = λ c. false; log = []; asked = λ s. None; ready = λ s. false };
  history = [];
  pending = None;
}
