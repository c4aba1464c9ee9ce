-- A backend as code keeps it: of each branch its changes and its footprints, in order, and nothing of what its scans gave.
use Rattle.std.specs.Prelude.{ℕ, Bool, false, cond, not, ◌&&◌, ◌||◌, eqb, List, [], ◌∷◌, ◌++◌, map, Option, Some, None, is_some}
use Rattle.commit_protocol.specs.Rows.{Table, Footprint, Operation, footprint_of, exclusively, conflicts, covers, restricted}
use Rattle.commit_protocol.specs.Rows.Operation.{Scanned, Changed}
use Rattle.commit_protocol.specs.Backend.{Stage, Branch, Server, Request, is_active, is_ended, is_prepared}
use Rattle.commit_protocol.specs.Backend.Stage.{Active, Ended, Prepared}
use Rattle.commit_protocol.specs.Backend.Request.{Start, Scan, Change, End, Prepare, Commit, Rollback, Recover}
use Rattle.commit_protocol.specs.Network.{Reply}
use Rattle.commit_protocol.specs.Network.Reply.{Refused, Ran, Did, Listed}

-- ---- what is kept

-- A change: the rows at its footprint's keys become these.
pub record Alteration : Type 0 where
  pub footprint : Footprint
  pub rows : Table

-- A live branch. changes and footprints stand in the order of the requests.
pub record Held : Type 0 where
  pub xid : ℕ
  pub stage : Stage
  pub owner : ℕ
  pub changes : List Alteration
  pub footprints : List Footprint

-- A backend's state as code keeps it.
pub record Store : Type 0 where
  pub rows : Table
  pub held : List Held

-- The rows after changes, in order.
abbrev pub rows_after : Table → List Alteration → Table
rows_after t [] = t
rows_after t (a ∷ more) = rows_after (λ k. cond (covers a.footprint k) (a.rows k) (t k)) more

-- ---- look-ups and replacements in place

-- The live branch of a transaction.
abbrev pub find_held : ℕ → List Held → Option Held
find_held x [] = None
find_held x (b ∷ bs) = cond (eqb b.xid x) (Some b) (find_held x bs)

-- The connection owns the branch.
abbrev pub owns_held : ℕ → Held → Bool
owns_held c b = eqb b.owner c && not (is_prepared b.stage)

-- The unprepared branch of a connection.
abbrev pub owned_held : ℕ → List Held → Option Held
owned_held c [] = None
owned_held c (b ∷ bs) = cond (owns_held c b) (Some b) (owned_held c bs)

-- A transaction's branch is changed in its place.
abbrev pub change_found : ℕ → (Held → Held) → List Held → List Held
change_found x g [] = []
change_found x g (b ∷ bs) = cond (eqb b.xid x) (g b ∷ bs) (b ∷ change_found x g bs)

-- The branch that a connection owns is changed in its place.
abbrev pub change_owned : ℕ → (Held → Held) → List Held → List Held
change_owned c g [] = []
change_owned c g (b ∷ bs) = cond (owns_held c b) (g b ∷ bs) (b ∷ change_owned c g bs)

-- All branches but a transaction's.
abbrev pub held_but : ℕ → List Held → List Held
held_but x [] = []
held_but x (b ∷ bs) = cond (not (eqb b.xid x)) (b ∷ held_but x bs) (held_but x bs)

-- The branches that don't pass a test.
abbrev pub held_unless : (Held → Bool) → List Held → List Held
held_unless p [] = []
held_unless p (b ∷ bs) = cond (not (p b)) (b ∷ held_unless p bs) (held_unless p bs)

-- ---- locks

-- One of the footprints conflicts.
abbrev pub one_conflicts : Footprint → List Footprint → Bool
one_conflicts f [] = false
one_conflicts f (g ∷ gs) = conflicts f g || one_conflicts f gs

-- A branch of another transaction has a footprint that conflicts.
abbrev pub blocked_held : ℕ → Footprint → List Held → Bool
blocked_held x f [] = false
blocked_held x f (b ∷ bs) = (not (eqb b.xid x) && one_conflicts f b.footprints) || blocked_held x f bs

-- A branch is active, and no other is in its way.
abbrev pub may_grow : Store → Footprint → Option Held → Bool
may_grow s f None = false
may_grow s f (Some b) = is_active b.stage && not (blocked_held b.xid f s.held)

-- ---- calls

-- A branch after a scan.
abbrev pub scanned : Footprint → Held → Held
scanned f b = record b { footprints = b.footprints ++ f ∷ [] }

-- A branch after a change.
abbrev pub altered : Footprint → Table → Held → Held
altered f rows b = record b { changes = b.changes ++ record { footprint = f; rows = rows } ∷ []; footprints = b.footprints ++ exclusively f ∷ [] }

-- END is done.
abbrev pub may_end : ℕ → Option Held → Bool
may_end c None = false
may_end c (Some b) = eqb b.owner c && is_active b.stage

-- PREPARE is done.
abbrev pub may_prepare : ℕ → Option Held → Bool
may_prepare c None = false
may_prepare c (Some b) = eqb b.owner c && is_ended b.stage

-- COMMIT is done.
abbrev pub may_commit : Option Held → Bool
may_commit None = false
may_commit (Some b) = is_prepared b.stage

-- ROLLBACK is done.
abbrev pub may_roll_back : ℕ → Option Held → Bool
may_roll_back c None = false
may_roll_back c (Some b) = is_prepared b.stage || eqb b.owner c

-- A branch's changes are made, and it goes.
abbrev pub installed_in : Store → ℕ → Option Held → Store
installed_in s x None = s
installed_in s x (Some b) = record { rows = rows_after s.rows b.changes; held = held_but x s.held }

-- What a request on a connection leaves.
abbrev pub stored : Store → ℕ → Request → Store
stored s c (Start x) = cond (is_some (find_held x s.held) || is_some (owned_held c s.held)) s (record s { held = s.held ++ record { xid = x; stage = Active; owner = c; changes = []; footprints = [] } ∷ [] })
stored s c (Scan f) = cond (may_grow s f (owned_held c s.held)) (record s { held = change_owned c (scanned f) s.held }) s
stored s c (Change f rows) = cond (may_grow s (exclusively f) (owned_held c s.held)) (record s { held = change_owned c (altered f rows) s.held }) s
stored s c (End x) = cond (may_end c (find_held x s.held)) (record s { held = change_found x (λ b. record b { stage = Ended }) s.held }) s
stored s c (Prepare x) = cond (may_prepare c (find_held x s.held)) (record s { held = change_found x (λ b. record b { stage = Prepared }) s.held }) s
stored s c (Commit x) = cond (may_commit (find_held x s.held)) (installed_in s x (find_held x s.held)) s
stored s c (Rollback x) = cond (may_roll_back c (find_held x s.held)) (record s { held = held_but x s.held }) s
stored s c Recover = s

-- The rows that a scan gives.
abbrev pub rows_of : Store → Footprint → Option Held → Table
rows_of s f None = s.rows
rows_of s f (Some b) = restricted f (rows_after s.rows b.changes)

-- The transactions with a prepared branch.
abbrev pub xids_prepared : List Held → List ℕ
xids_prepared [] = []
xids_prepared (b ∷ bs) = cond (is_prepared b.stage) (b.xid ∷ xids_prepared bs) (xids_prepared bs)

-- What it is answered.
abbrev pub tells : Store → ℕ → Request → Reply
tells s c (Start x) = cond (is_some (find_held x s.held) || is_some (owned_held c s.held)) Refused Did
tells s c (Scan f) = cond (may_grow s f (owned_held c s.held)) (Ran (Scanned f (rows_of s f (owned_held c s.held)))) Refused
tells s c (Change f rows) = cond (may_grow s (exclusively f) (owned_held c s.held)) (Ran (Changed f rows)) Refused
tells s c (End x) = cond (may_end c (find_held x s.held)) Did Refused
tells s c (Prepare x) = cond (may_prepare c (find_held x s.held)) Did Refused
tells s c (Commit x) = cond (may_commit (find_held x s.held)) Did Refused
tells s c (Rollback x) = cond (may_roll_back c (find_held x s.held)) Did Refused
tells s c Recover = Listed (xids_prepared s.held)

-- After a connection's end is seen; after a stop.
abbrev pub store_hung_up : Store → ℕ → Store
store_hung_up s c = record s { held = held_unless (owns_held c) s.held }

-- After a stop: prepared branches alone are left.
abbrev pub store_stopped : Store → Store
store_stopped s = record s { held = held_unless (λ b. not (is_prepared b.stage)) s.held }

-- ---- what a server's logs show

-- The changes of a log, the oldest first.
abbrev pub changes_of : List Operation → List Alteration
changes_of [] = []
changes_of (Scanned f rows ∷ older) = changes_of older
changes_of (Changed f rows ∷ older) = changes_of older ++ record { footprint = f; rows = rows } ∷ []

-- The footprints of a log, the oldest first.
abbrev pub footprints_of : List Operation → List Footprint
footprints_of [] = []
footprints_of (op ∷ older) = footprints_of older ++ footprint_of op ∷ []

-- A server's branch as code keeps it.
abbrev pub held_of : Branch → Held
held_of b = record { xid = b.xid; stage = b.stage; owner = b.owner; changes = changes_of b.log; footprints = footprints_of b.log }

-- The store that keeps a server.
abbrev pub store_of : Server → Store
store_of s = record { rows = s.rows; held = map held_of s.branches }
