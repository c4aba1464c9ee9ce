-- A backend: committed rows and live branches, under strict two-phase locking, and what each request does.
use Rattle.std.specs.Prelude.{ℕ, Bool, true, false, cond, not, ◌&&◌, ◌||◌, eqb, List, [], ◌∷◌, Option, Some, None, is_some}
use Rattle.commit_protocol.specs.Rows.{Key, Row, Table, Interval, Footprint, Operation, footprint_of, restricted, after, blocks}
use Rattle.commit_protocol.specs.Rows.Operation.{Scanned, Changed}

-- ---- branches

-- How far a branch has come.
pub data Stage : Type 0 where
  Active : Stage
  Ended : Stage
  Prepared : Stage

-- It takes operations.
abbrev pub is_active : Stage → Bool
is_active Active = true
is_active Ended = false
is_active Prepared = false

-- It takes PREPARE.
abbrev pub is_ended : Stage → Bool
is_ended Active = false
is_ended Ended = true
is_ended Prepared = false

-- It waits for the decision, and outlives its connection and a stop.
abbrev pub is_prepared : Stage → Bool
is_prepared Active = false
is_prepared Ended = false
is_prepared Prepared = true

-- A live branch of a transaction: owner is the connection that began it, which owns it until it is prepared; log is what it did.
pub record Branch : Type 0 where
  pub xid : ℕ
  pub stage : Stage
  pub owner : ℕ
  pub log : List Operation

-- A backend's state: its committed rows and its live branches.
pub record Server : Type 0 where
  pub rows : Table
  pub branches : List Branch

-- The live branch of a transaction.
abbrev pub find : ℕ → List Branch → Option Branch
find x [] = None
find x (b ∷ bs) = cond (eqb b.xid x) (Some b) (find x bs)

-- The connection owns the branch.
abbrev pub is_owned : ℕ → Branch → Bool
is_owned c b = eqb b.owner c && not (is_prepared b.stage)

-- The unprepared branch of a connection.
abbrev pub owned : ℕ → List Branch → Option Branch
owned c [] = None
owned c (b ∷ bs) = cond (is_owned c b) (Some b) (owned c bs)

-- The branches that pass a test.
abbrev pub kept : (Branch → Bool) → List Branch → List Branch
kept p [] = []
kept p (b ∷ bs) = cond (p b) (b ∷ kept p bs) (kept p bs)

-- All branches but a transaction's.
abbrev pub without : ℕ → List Branch → List Branch
without x bs = kept (λ b. not (eqb b.xid x)) bs

-- A branch in the place of the one of its transaction, or at the end.
abbrev pub put : Branch → List Branch → List Branch
put b [] = b ∷ []
put b (d ∷ bs) = cond (eqb d.xid b.xid) (b ∷ bs) (d ∷ put b bs)

-- A branch of another transaction has a footprint that conflicts.
abbrev pub blocked : ℕ → Footprint → List Branch → Bool
blocked x f [] = false
blocked x f (b ∷ bs) = (not (eqb b.xid x) && blocks f b.log) || blocked x f bs

-- ---- requests

-- What a connection may ask: Change makes the rows at the footprint's keys these.
pub data Request : Type 0 where
  Start : (xid : ℕ) → Request
  Scan : (footprint : Footprint) → Request
  Change : (footprint : Footprint) (rows : Table) → Request
  End : (xid : ℕ) → Request
  Prepare : (xid : ℕ) → Request
  Commit : (xid : ℕ) → Request
  Rollback : (xid : ℕ) → Request
  Recover : Request

-- The interval of one key.
abbrev pub point : ℕ → Interval
point k = record { from = k; to = k }

-- Put a row at a key; delete a key; clear an interval of keys.
abbrev pub put_row : Key → Row → Request
put_row k row = Change (record { table = k.table; keys = point k.key ∷ []; exclusive = true }) (λ q. Some row)

-- Delete the row at a key.
abbrev pub delete_key : Key → Request
delete_key k = Change (record { table = k.table; keys = point k.key ∷ []; exclusive = true }) (λ q. None)

-- Clear an interval of keys.
abbrev pub clear : (table from to : ℕ) → Request
clear table from to = Change (record { table = table; keys = record { from = from; to = to } ∷ []; exclusive = true }) (λ q. None)

-- ---- effects

-- What a request does: nothing, which is a refusal; a list of what is prepared; or one thing with one branch.
pub data Effect : Type 0 where
  Keep : Effect
  Show : (xids : List ℕ) → Effect
  Begin : (xid owner : ℕ) → Effect
  Grow : (branch : Branch) (op : Operation) → Effect
  Close : (branch : Branch) → Effect
  Ready : (branch : Branch) → Effect
  Drop : (branch : Branch) → Effect
  Install : (branch : Branch) → Effect

-- An active branch does one operation more, where no other branch is in its way.
abbrev pub grown : Server → Operation → Option Branch → Effect
grown s op None = Keep
grown s op (Some b) = cond (is_active b.stage && not (blocked b.xid (footprint_of op) s.branches)) (Grow b op) Keep

-- A scan gives the committed rows with the branch's own changes.
abbrev pub scan_by : Server → Footprint → Option Branch → Operation
scan_by s f None = Scanned f s.rows
scan_by s f (Some b) = Scanned f (restricted f (after s.rows b.log))

-- END: the owner ends its active branch.
abbrev pub closed : ℕ → Option Branch → Effect
closed c None = Keep
closed c (Some b) = cond (eqb b.owner c && is_active b.stage) (Close b) Keep

-- PREPARE: the owner prepares its ended branch.
abbrev pub readied : ℕ → Option Branch → Effect
readied c None = Keep
readied c (Some b) = cond (eqb b.owner c && is_ended b.stage) (Ready b) Keep

-- COMMIT: a prepared branch is installed, whoever asks.
abbrev pub installed : Option Branch → Effect
installed None = Keep
installed (Some b) = cond (is_prepared b.stage) (Install b) Keep

-- ROLLBACK: a prepared branch goes, whoever asks, and another for its owner.
abbrev pub dropped : ℕ → Option Branch → Effect
dropped c None = Keep
dropped c (Some b) = cond (is_prepared b.stage || eqb b.owner c) (Drop b) Keep

-- The transactions with a prepared branch; a backend lists them in an order of its own.
abbrev pub prepared_xids : List Branch → List ℕ
prepared_xids [] = []
prepared_xids (b ∷ bs) = cond (is_prepared b.stage) (b.xid ∷ prepared_xids bs) (prepared_xids bs)

-- What a request on a connection does at a server; a request that isn't done there is refused and changes nothing.
abbrev pub effect : Server → ℕ → Request → Effect
effect s c (Start x) = cond (is_some (find x s.branches) || is_some (owned c s.branches)) Keep (Begin x c)
effect s c (Scan f) = grown s (scan_by s f (owned c s.branches)) (owned c s.branches)
effect s c (Change f rows) = grown s (Changed f rows) (owned c s.branches)
effect s c (End x) = closed c (find x s.branches)
effect s c Recover = Show (prepared_xids s.branches)
effect s c (Prepare x) = readied c (find x s.branches)
effect s c (Commit x) = installed (find x s.branches)
effect s c (Rollback x) = dropped c (find x s.branches)

-- The server after an effect.
abbrev pub done : Server → Effect → Server
done s Keep = s
done s (Show xids) = s
done s (Begin x c) = record s { branches = put (record { xid = x; stage = Active; owner = c; log = [] }) s.branches }
done s (Grow b op) = record s { branches = put (record b { log = op ∷ b.log }) s.branches }
done s (Close b) = record s { branches = put (record b { stage = Ended }) s.branches }
done s (Ready b) = record s { branches = put (record b { stage = Prepared }) s.branches }
done s (Drop b) = record s { branches = without b.xid s.branches }
done s (Install b) = record { rows = after s.rows b.log; branches = without b.xid s.branches }

-- ---- calls

-- The server after a request; after a connection's end is seen; after a stop.
abbrev pub served : Server → ℕ → Request → Server
served s c r = done s (effect s c r)

-- The server after a connection's end is seen: the unprepared branch that it owns goes.
abbrev pub hung_up : Server → ℕ → Server
hung_up s c = record s { branches = kept (λ b. not (is_owned c b)) s.branches }

-- The server after a stop: prepared branches alone are left.
abbrev pub stopped : Server → Server
stopped s = record s { branches = kept (λ b. is_prepared b.stage) s.branches }

-- What may be asked of one backend.
pub data Call : Type 0 where
  Asks : (connection : ℕ) (request : Request) → Call
  Hangs_up : (connection : ℕ) → Call
  Stops : Call

-- The server after one call.
abbrev pub called : Server → Call → Server
called s (Asks c r) = served s c r
called s (Hangs_up c) = hung_up s c
called s Stops = stopped s

-- The server after these calls, the first one first.
abbrev pub calls : List Call → Server → Server
calls [] s = s
calls (e ∷ es) s = calls es (called s e)

-- A server without rows and branches.
abbrev pub new_server : Server
new_server = record { rows = λ k. None; branches = [] }
