-- One partition on two links, a write, a fall, and a copy: a run of each kind of move.
use Rattle.std.specs.Prelude.{ℕ, Bool, true, false, cond, eqb, leb, List, [], ◌∷◌, ◌++◌, Some, None}
use Rattle.commit_protocol.specs.Rows.{row, Table, Interval, Footprint, Operation, covers, restricted}
use Rattle.commit_protocol.specs.Rows.Operation.{Scanned, Changed}
use Rattle.commit_protocol.specs.Backend.{Request, point}
use Rattle.commit_protocol.specs.Backend.Request.{Start, End, Commit}
use Rattle.commit_protocol.specs.Network.{Topology}
use Rattle.commit_protocol.specs.Protocol.{happens}
use Rattle.commit_protocol.specs.Protocol.Move.{Draws, Dials, Sends, Delivers, Reads, Breaks, Hangup_seen, Writes}
use Rattle.commit_protocol.specs.Links.{Plain, Placement, Status, at_link}
use Rattle.commit_protocol.specs.Notes.{Went, Note, seen_in}
use Rattle.commit_protocol.specs.Copies.{CopyBatch, batch_notes, batch_mark}
use Rattle.commit_protocol.specs.Replicas.{Front, with_link, new_front}
use Rattle.commit_protocol.specs.Notes.Note.{Read, Write}
use Rattle.commit_protocol.specs.Links.Status.{OK, NG}
use Rattle.commit_protocol.specs.Links.Cursor.{All}
use Rattle.commit_protocol.specs.Replicas.Matter.{Statements, Batch}
use Rattle.commit_protocol.specs.Statements.{Statement, Entry}
use Rattle.replica_law.specs.Actions.{Action, acted_all}
use Rattle.replica_law.specs.Actions.Action.{Core, Open, Scan_on, Change_on, Prepare_on, Record_done, Reopen, Fall, Rise}

-- Connection 1 leads to server 0, connections 2 and 4 to server 1; keys up to 10 are in partition 0; links 0 and 1 have it.
abbrev pub wires : Topology
wires = record { home = λ c. cond (eqb c 2) 1 (cond (eqb c 4) 1 0) }

-- Keys up to 10 are in partition 0; each link is of it, and at the server of its number.
abbrev pub places : Placement
places = record { key_partition = λ k. cond (leb k 10) 0 1; link_partition = λ l. 0; link_server = λ l. l }

-- Links 0 and 1 are OK, others NG.
abbrev pub configured : ℕ → Status
configured l = cond (eqb l 0) OK (cond (eqb l 1) OK NG)

-- Key 3.
abbrev pub one_key : List Interval
one_key = point 3 ∷ []

-- All keys of the partition.
abbrev pub all_keys : Interval
all_keys = record { from = 0; to = 10 }

-- A row at each key.
abbrev pub five : Plain
five = λ k. Some (row 5)

-- Keys of a link.
abbrev pub footprint_at : ℕ → List Interval → Bool → Footprint
footprint_at l keys exclusive = record { table = l; keys = keys; exclusive = exclusive }

-- A request goes to both servers and is answered.
abbrev pub asks_both : Request → List Action
asks_both r = Core (Sends 1 r) ∷ Core (Sends 2 r) ∷ Core (Delivers 1) ∷ Core (Delivers 2) ∷ Core (Reads 1) ∷ Core (Reads 2) ∷ []

-- Both servers take a request and are read.
abbrev pub both_read : List Action
both_read = Core (Delivers 1) ∷ Core (Delivers 2) ∷ Core (Reads 1) ∷ Core (Reads 2) ∷ []

-- Both branches are ended and prepared.
abbrev pub prepares_both : ℕ → List Action
prepares_both x = asks_both (End x) ++ Prepare_on 1 x ∷ Prepare_on 2 x ∷ both_read

-- Transaction 7 writes row 5 at key 3, by both links.
abbrev pub writes_both : List Action
writes_both = Core (Draws 7) ∷ Core (Dials 1) ∷ Core (Dials 2) ∷ Open 1 7 ∷ Open 2 7 ∷ asks_both (Start 7)
    ++ Scan_on 1 (footprint_at 0 one_key true) ∷ Scan_on 2 (footprint_at 1 one_key true) ∷ both_read
    ++ Change_on 1 (footprint_at 0 one_key true) (λ k. Some (row 5)) ∷ Change_on 2 (footprint_at 1 one_key true) (λ k. Some (row 5)) ∷ both_read
    ++ prepares_both 7

-- The front as transaction 7 is prepared.
abbrev pub front_ready : Front
front_ready = acted_all wires (new_front configured) writes_both

-- Where the scans and changes of transaction 7 went.
abbrev pub went_first : List Went
went_first = record { link = 0; connection = 1; epoch = 0 } ∷ record { link = 1; connection = 2; epoch = 0 } ∷ []

-- What its scans found: nothing.
abbrev pub nothing_found : Plain
nothing_found = seen_in places 0 one_key (λ k. restricted (footprint_at 0 one_key true) (λ q. None) (at_link 0 k))

-- What transaction 7 notes.
abbrev pub first_notes : List Note
first_notes = Write 0 one_key five went_first ∷ Read 0 one_key (λ t. t) nothing_found went_first ∷ []

-- The front as its record is being written.
abbrev pub front_writing : Front
front_writing = record front_ready { core = happens wires front_ready.core (Writes 7 (1 ∷ 2 ∷ [])); writing = Some (Statements first_notes) }

-- It is decided and installed; link 1 falls and rises; transaction 8 copies link 0 to link 1.
abbrev pub copies_over : List Action
copies_over = Record_done ∷ asks_both (Commit 7) ++ Fall 1 ∷ Rise 1 ∷ Core (Draws 8) ∷ Open 1 8 ∷ Open 2 8 ∷ asks_both (Start 8)
    ++ Scan_on 1 (footprint_at 0 (all_keys ∷ []) false) ∷ Core (Delivers 1) ∷ Core (Reads 1)
    ∷ Change_on 2 (footprint_at 1 (all_keys ∷ []) true) (λ k. None) ∷ Change_on 2 (footprint_at 1 one_key true) (λ k. Some (row 5))
    ∷ Core (Delivers 2) ∷ Core (Delivers 2) ∷ Core (Reads 2) ∷ Core (Reads 2) ∷ prepares_both 8

-- The front as the batch is prepared.
abbrev pub front_copied : Front
front_copied = acted_all wires front_writing copies_over

-- What link 0 has then, and what the scan of it gives.
abbrev pub stored_first : Table
stored_first = λ q. cond (covers (footprint_at 0 one_key true) q) (Some (row 5)) None

-- What the scan of link 0 gives.
abbrev pub scanned_first : Table
scanned_first = restricted (footprint_at 0 (all_keys ∷ []) false) stored_first

-- The batch's rows.
abbrev pub rows_copied : Plain
rows_copied = seen_in places 0 (all_keys ∷ []) (λ k. scanned_first (at_link 0 k))

-- What transaction 8 did at the source and at the destination.
abbrev pub done_at_source : List Operation
done_at_source = Scanned (footprint_at 0 (all_keys ∷ []) false) scanned_first ∷ []

-- What transaction 8 did at the destination.
abbrev pub done_at_target : List Operation
done_at_target = Changed (footprint_at 1 one_key true) (λ k. Some (row 5)) ∷ Changed (footprint_at 1 (all_keys ∷ []) true) (λ k. None) ∷ []

-- The batch.
abbrev pub one_batch : CopyBatch
one_batch = record {
  source = record { link = 0; connection = 1; epoch = 0 };
  target = record { link = 1; connection = 2; epoch = 2 };
  keys = all_keys;
  rows = rows_copied;
  puts = one_key ∷ [];
  upto = All;
}

-- The front as the batch's record is being written.
abbrev pub front_copying : Front
front_copying = record front_copied { core = happens wires front_copied.core (Writes 8 (1 ∷ 2 ∷ [])); writing = Some (Batch (batch_notes places one_batch) (batch_mark one_batch)) }

-- The batch is decided; its cursor is recorded, and link 1 is OK.
abbrev pub front_booked : Front
front_booked = acted_all wires front_copying (Record_done ∷ asks_both (Commit 8))

-- The cursor is recorded.
abbrev pub front_cursor : Front
front_cursor = with_link front_booked 1 (record (front_booked.link 1) { cursor = All })

-- Link 1 is OK.
abbrev pub front_whole : Front
front_whole = with_link front_cursor 1 (record (front_cursor.link 1) { status = OK })

-- The record is lost, or found, as the log is opened again.
abbrev pub front_reopened : Bool → Front
front_reopened found = acted_all wires front_writing (Reopen found ∷ [])

-- Transaction 7 as a statement: it reads key 3, makes its row 5 and answers 1.
abbrev pub one_statement : Statement
one_statement = record {
  scans = record { partition = 0; keys = one_key; look = λ t. t } ∷ [];
  answer = λ found. 1;
  changes = λ found. record { partition = 0; keys = one_key; rows = five } ∷ [];
}

-- How it was answered.
abbrev pub one_entry : Entry
one_entry = record {
  statement = one_statement;
  answer = 1;
  scanned = record { scan = record { partition = 0; keys = one_key; look = λ t. t }; found = nothing_found; links = went_first } ∷ [];
  went = λ q. went_first;
}

-- What the decided transactions were, the newest first: a copy's batch, and the statement.
abbrev pub two_decided : List (List Entry)
two_decided = [] ∷ (one_entry ∷ []) ∷ []

-- ---- a session that goes on after it lost a server

-- Transaction 7 has scanned both links as connection 2 breaks. Link 1 goes to NG, and a later statement dials its server again.
abbrev pub loses_server : List Action
loses_server = Core (Draws 7) ∷ Core (Dials 1) ∷ Core (Dials 2) ∷ Open 1 7 ∷ Open 2 7 ∷ asks_both (Start 7)
    ++ Scan_on 1 (footprint_at 0 one_key true) ∷ Scan_on 2 (footprint_at 1 one_key true) ∷ both_read
    ++ Core (Breaks 2) ∷ Fall 1 ∷ Core (Hangup_seen 2) ∷ Core (Dials 4) ∷ Open 4 7 ∷ Core (Sends 4 (Start 7)) ∷ Core (Delivers 4) ∷ Core (Reads 4)
    ∷ Change_on 1 (footprint_at 0 one_key true) (λ k. Some (row 5)) ∷ Core (Delivers 1) ∷ Core (Reads 1)
    ∷ Core (Sends 1 (End 7)) ∷ Core (Delivers 1) ∷ Core (Reads 1) ∷ Prepare_on 1 7 ∷ Core (Delivers 1) ∷ Core (Reads 1) ∷ []

-- The front as transaction 7 is prepared at server 0 alone.
abbrev pub front_alone : Front
front_alone = acted_all wires (new_front configured) loses_server

-- Its write went to link 0 alone, the one that isn't NG.
abbrev pub went_alone : List Went
went_alone = record { link = 0; connection = 1; epoch = 0 } ∷ []

-- What it notes: a read by both links, a write by one.
abbrev pub alone_notes : List Note
alone_notes = Write 0 one_key five went_alone ∷ Read 0 one_key (λ t. t) nothing_found went_first ∷ []

-- It is decided.
abbrev pub front_decided_alone : Front
front_decided_alone = acted_all wires (record front_alone { core = happens wires front_alone.core (Writes 7 (1 ∷ [])); writing = Some (Statements alone_notes) }) (Record_done ∷ [])
