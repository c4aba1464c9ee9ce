-- The front with redundant links over the commit protocol: when a transaction may be decided, and what may happen next.
use Rattle.std.specs.Prelude.{◌≡◌, ℕ, Bool, true, false, cond, not, ◌&&◌, ◌||◌, eqb, List, [], ◌∷◌, Option, Some, None}
use Rattle.commit_protocol.specs.Rows.{Table, Footprint, is_within}
use Rattle.commit_protocol.specs.Backend.{Request}
use Rattle.commit_protocol.specs.Backend.Request.{Start, Scan, Change, End, Prepare, Commit, Rollback, Recover}
use Rattle.commit_protocol.specs.Network.{set, Topology}
use Rattle.commit_protocol.specs.Protocol.{World, Move, is_at, has_member, is_member, may_ask, may_use, may_decide, happens, start}
use Rattle.commit_protocol.specs.Views.{done_on}
use Rattle.commit_protocol.specs.Protocol.Move.{Draws, Dials, Uses, Sends, Delivers, Refuses, Faults, Reads, Breaks, Hangup_seen, Writes, Recorded, Gives_up, Stops, Front_stops, Reopens}
use Rattle.commit_protocol.specs.Links.{Placement, Status, is_ok, is_recovery, is_ng, Cursor, Link, Mark, has_by, recorded_by, comes_to, raised, IsMark}
use Rattle.commit_protocol.specs.Links.Status.{OK, RECOVERY, NG}
use Rattle.commit_protocol.specs.Links.Cursor.{Nothing, All}
use Rattle.commit_protocol.specs.Notes.{Went, Note, went_in, notes_sent, IsTold, all_of}
use Rattle.commit_protocol.specs.Notes.Note.{Read, Write}
use Rattle.commit_protocol.specs.Copies.{CopyBatch, is_put, batch_notes, batch_mark, EndsAt}

-- What the record in progress is about: a transaction of statements, or a batch of a copy.
pub data Matter : Type 0 where
  Statements : (notes : List Note) → Matter
  Batch : (notes : List Note) (mark : Mark) → Matter

-- The front over the core. line: of each transaction and server, the connection in use now; sent: of each transaction, which scans
-- and changes went to which link; marks: how far decided batches have brought the links; writing: what the record in progress is
-- about; book: what the decided transactions did, the newest first, a copy's batch as nothing.
pub record Front : Type 0 where
  pub core : World
  pub link : ℕ → Link
  pub line : ℕ → ℕ → Option ℕ
  pub sent : ℕ → List Went
  pub marks : List Mark
  pub writing : Option Matter
  pub book : List (List Note)

-- The link has to have the key right, by its record's status.
abbrev pub has_key : Front → ℕ → ℕ → Bool
has_key v l k = has_by v.marks l (v.link l) (v.link l).status k

-- The link has to have the key right as far as the records say.
abbrev pub has_recorded : Front → ℕ → ℕ → Bool
has_recorded v l k = recorded_by (v.link l) (v.link l).status k

-- Each write went to links of its partition, and to each of these that isn't NG in its present epoch; its server is a member.
abbrev pub AreWritten : Topology → Placement → (ℕ → Link) → List ℕ → List Note → Type 0
AreWritten f p link ms [] = Unit {0}
AreWritten f p link ms (Read q keys look found links ∷ older) = AreWritten f p link ms older
AreWritten f p link ms (Write q keys rows links ∷ older) =
    (all_of p q links ≡ true)
    × ((l : ℕ) → p.link_partition l ≡ q → is_ng (link l).status ≡ false → (went_in l (link l).epoch links ≡ true) × (has_member f (p.link_server l) ms ≡ true))
    × AreWritten f p link ms older

-- A link protects a read: it is OK, in the read's epoch, of the read's partition, and its server is a member.
abbrev pub protects : Topology → Placement → (ℕ → Link) → List ℕ → ℕ → Went → Bool
protects f p link ms q g = is_ok (link g.link).status && (eqb g.epoch (link g.link).epoch && (eqb (p.link_partition g.link) q && has_member f (p.link_server g.link) ms))

-- One of these links protects the read.
abbrev pub one_protects : Topology → Placement → (ℕ → Link) → List ℕ → ℕ → List Went → Bool
one_protects f p link ms q [] = false
one_protects f p link ms q (g ∷ gs) = protects f p link ms q g || one_protects f p link ms q gs

-- Each read has a link that protects it.
abbrev pub are_protected : Topology → Placement → (ℕ → Link) → List ℕ → List Note → Bool
are_protected f p link ms [] = true
are_protected f p link ms (Read q keys look found links ∷ older) = one_protects f p link ms q links && are_protected f p link ms older
are_protected f p link ms (Write q keys rows links ∷ older) = are_protected f p link ms older

-- The notes of a transaction are what it was told, and what they name was sent.
pub record AreNoted (f : Topology) (p : Placement) (v : Front) (x : ℕ) (ms : List ℕ) (notes : List Note) : Type 0 where
  pub sent : notes_sent notes (v.sent x) ≡ true
  pub told : (l c : ℕ) → is_member c ms ≡ true → f.home c ≡ p.link_server l → IsTold p l c notes (done_on c (v.core.transaction x).log)

-- A transaction of statements may be decided. (That its boot is the present one is `ready`: who is live was drawn in this boot.)
pub record MayDecide (f : Topology) (p : Placement) (v : Front) (x : ℕ) (ms : List ℕ) (notes : List Note) : Type 0 where
  pub ready : may_decide f v.core x ms ≡ true
  pub noted : AreNoted f p v x ms notes
  pub writes : AreWritten f p v.link ms notes
  pub reads : are_protected f p v.link ms notes ≡ true

-- A batch may be decided: the source is OK in the epoch of its scan, the destination RECOVERY in the epoch in which the batch began,
-- and both servers are members. It begins at the least key, or where a decided batch of this epoch ended or below.
pub record MayCopy (f : Topology) (p : Placement) (v : Front) (x : ℕ) (ms : List ℕ) (b : CopyBatch) : Type 0 where
  pub ready : may_decide f v.core x ms ≡ true
  pub noted : AreNoted f p v x ms (batch_notes p b)
  pub same : p.link_partition b.source.link ≡ p.link_partition b.target.link
  pub source : protects f p v.link ms (p.link_partition b.source.link) b.source ≡ true
  pub target : (is_recovery (v.link b.target.link).status && (eqb b.target.epoch (v.link b.target.link).epoch && has_member f (p.link_server b.target.link) ms)) ≡ true
  pub begins : (eqb b.keys.from 0 || comes_to v.marks b.target.link b.target.epoch b.keys.from) ≡ true
  pub ends : EndsAt p b b.upto
  pub put : (k : ℕ) → is_put b.puts k ≡ false → is_within b.keys k ≡ true → b.rows k ≡ None
  pub within : (k : ℕ) → is_put b.puts k ≡ true → is_within b.keys k ≡ true

-- Moves of the core that need nothing more of the front.
abbrev pub is_free_request : Request → Bool
is_free_request (Start x) = true
is_free_request (Scan fp) = false
is_free_request (Change fp rows) = false
is_free_request (End x) = true
is_free_request Recover = true
is_free_request (Prepare x) = false
is_free_request (Commit x) = true
is_free_request (Rollback x) = true

-- The move of the core needs nothing more of the front.
abbrev pub is_free : Move → Bool
is_free (Draws x) = true
is_free (Dials c) = true
is_free (Uses c x) = false
is_free (Sends c r) = is_free_request r
is_free (Delivers c) = true
is_free (Refuses c) = true
is_free (Faults c found) = true
is_free (Reads c) = true
is_free (Breaks c) = true
is_free (Hangup_seen c) = true
is_free (Writes x ms) = false
is_free Recorded = false
is_free (Gives_up x) = true
is_free (Stops s) = true
is_free Front_stops = true
is_free (Reopens found) = false

-- Each of these that went to a link of the server went in an epoch that is past.
abbrev pub all_past : Placement → (ℕ → Link) → ℕ → List Went → Bool
all_past p link s [] = true
all_past p link s (g ∷ gs) = (not (eqb (p.link_server g.link) s) || not (eqb g.epoch (link g.link).epoch)) && all_past p link s gs

-- The transaction's present connection to the server is this one.
abbrev pub is_line : Topology → Front → ℕ → Bool
is_line f v c = is_at (v.line (v.core.connection c).xid (f.home c)) c

-- Something goes to a link on a connection.
abbrev pub sends_to : Topology → Front → ℕ → Request → ℕ → Front
sends_to f v c r l = record v {
  core = happens f v.core (Sends c r);
  sent = set v.sent (v.core.connection c).xid (record { link = l; connection = c; epoch = (v.link l).epoch } ∷ v.sent (v.core.connection c).xid);
}

-- The record in progress is durable, or was found: the book grows by what it is about.
abbrev pub booked : Front → World → Option Matter → Front
booked v w None = record v { core = w }
booked v w (Some (Statements notes)) = record v { core = w; writing = None; book = notes ∷ v.book }
booked v w (Some (Batch notes mark)) = record v { core = w; writing = None; marks = mark ∷ v.marks; book = [] ∷ v.book }

-- The log was opened again: the record in progress was found, or not.
abbrev pub reopened : Front → World → Bool → Front
reopened v w found = cond found (booked v w v.writing) (record v { core = w; writing = None })

-- One link is another.
abbrev pub with_link : Front → ℕ → Link → Front
with_link v l n = record v { link = set v.link l n }

-- What the front may do, each with its guard.
pub data Next (f : Topology) (p : Placement) (v : Front) : Front → Type 0 where
  -- a move of the core that asks nothing more
  Goes : (m : Move) → is_free m ≡ true → Next f p v (record v { core = happens f v.core m })
  -- a transaction takes a connection into use as its present one to that server; what went there before went in an epoch that is past
  Opens : (c x : ℕ) → may_use v.core c x ≡ true → all_past p v.link (f.home c) (v.sent x) ≡ true
      → Next f p v (record v { core = happens f v.core (Uses c x); line = set v.line x (set (v.line x) (f.home c) (Some c)) })
  -- a scan or a change goes to a link on the present connection
  Scans : (c : ℕ) (fp : Footprint) → may_ask f v.core c (Scan fp) ≡ true → is_line f v c ≡ true → p.link_server fp.table ≡ f.home c → Next f p v (sends_to f v c (Scan fp) fp.table)
  Changes : (c : ℕ) (fp : Footprint) (rows : Table) → may_ask f v.core c (Change fp rows) ≡ true → is_line f v c ≡ true → p.link_server fp.table ≡ f.home c → Next f p v (sends_to f v c (Change fp rows) fp.table)
  -- PREPARE goes out on the present connection
  Prepares : (c x : ℕ) → may_ask f v.core c (Prepare x) ≡ true → is_line f v c ≡ true → Next f p v (record v { core = happens f v.core (Sends c (Prepare x)) })
  -- the front begins to write the record of a decision, of statements or of a copy's batch
  Decides : (x : ℕ) (ms : List ℕ) (notes : List Note) → MayDecide f p v x ms notes → Next f p v (record v { core = happens f v.core (Writes x ms); writing = Some (Statements notes) })
  Copies : (x : ℕ) (ms : List ℕ) (b : CopyBatch) → MayCopy f p v x ms b → Next f p v (record v { core = happens f v.core (Writes x ms); writing = Some (Batch (batch_notes p b) (batch_mark b)) })
  -- the record is durable
  Is_recorded : Next f p v (booked v (happens f v.core Recorded) v.writing)
  -- the log is opened as a new boot, with a record in progress in it or not
  Is_reopened : (found : Bool) → Next f p v (reopened v (happens f v.core (Reopens found)) found)
  -- a link goes to NG, and from NG to RECOVERY, while no record is in progress
  Falls : (l : ℕ) → v.writing ≡ None → is_ng (v.link l).status ≡ false → Next f p v (with_link v l (raised (v.link l) NG))
  Rises : (l : ℕ) → v.writing ≡ None → is_ng (v.link l).status ≡ true → Next f p v (with_link v l (raised (v.link l) RECOVERY))
  -- the cursor of a decided batch is recorded, in the batch's epoch
  Moves_cursor : (l : ℕ) (u : Cursor) → v.writing ≡ None → is_recovery (v.link l).status ≡ true → IsMark (record { link = l; epoch = (v.link l).epoch; upto = u }) v.marks
      → Next f p v (with_link v l (record (v.link l) { cursor = u }))
  -- a link whose copy is through is OK, in the copy's epoch
  Completes : (l : ℕ) → v.writing ≡ None → is_recovery (v.link l).status ≡ true → IsMark (record { link = l; epoch = (v.link l).epoch; upto = All }) v.marks
      → Next f p v (with_link v l (record (v.link l) { status = OK }))

-- What a front may come to.
pub data Run (f : Topology) (p : Placement) : Front → Front → Type 0 where
  Stays : {v : Front} → Run f p v v
  Steps : {u v w : Front} → Run f p u v → Next f p v w → Run f p u w

-- A new front, with the configured statuses.
abbrev pub new_front : (ℕ → Status) → Front
new_front status = record {
  core = start;
  link = λ l. record { status = status l; epoch = 0; cursor = Nothing };
  line = λ x s. None;
  sent = λ x. [];
  marks = [];
  writing = None;
  book = [];
}
