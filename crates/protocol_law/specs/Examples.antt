-- Runs that are computed, one for each kind of move, so that no guard is unmeetable.
use Rattle.std.specs.Prelude.{ℕ, Bool, true, false, cond, eqb, List, [], ◌∷◌, ◌++◌, map, length, Option, Some, None}
use Rattle.commit_protocol.specs.Rows.{Key, Row, row, Footprint}
use Rattle.commit_protocol.specs.Backend.{Branch, Request, find, point, put_row}
use Rattle.commit_protocol.specs.Backend.Request.{Start, Scan, End, Prepare, Commit, Rollback, Recover}
use Rattle.commit_protocol.specs.Network.{Topology}
use Rattle.commit_protocol.specs.Protocol.{World, Decision, Move, run, start}
use Rattle.commit_protocol.specs.Protocol.Move.{Draws, Dials, Uses, Sends, Delivers, Refuses, Faults, Reads, Breaks, Hangup_seen, Writes, Recorded, Gives_up, Stops, Front_stops, Reopens}

-- Connections 1 and 3 lead to server 0, connection 2 to server 1.
abbrev pub two_servers : Topology
two_servers = record { home = λ c. cond (eqb c 2) 1 0 }

-- A key of table 0.
abbrev pub at_key : ℕ → Key
at_key k = record { table = 0; key = k }

-- A key, exclusive.
abbrev pub one_key : ℕ → Footprint
one_key k = record { table = 0; keys = point k ∷ []; exclusive = true }

-- A request is sent, delivered and answered.
abbrev pub asks_and_reads : ℕ → Request → List Move
asks_and_reads c r = Sends c r ∷ Delivers c ∷ Reads c ∷ []

-- A transaction draws its number and begins a branch on a connection that is dialled for it.
abbrev pub begins_on : (x c : ℕ) → List Move
begins_on x c = Draws x ∷ Dials c ∷ Uses c x ∷ asks_and_reads c (Start x)

-- It reads a key and writes it.
abbrev pub writes_key : (c k : ℕ) (new : Row) → List Move
writes_key c k new = asks_and_reads c (Scan (one_key k)) ++ asks_and_reads c (put_row (at_key k) new)

-- It ends and prepares its branch.
abbrev pub prepares : (x c : ℕ) → List Move
prepares x c = asks_and_reads c (End x) ++ asks_and_reads c (Prepare x)

-- Transaction 7 writes row 5 at key 3 of server 0 and is prepared there.
abbrev pub prepared_once : List Move
prepared_once = begins_on 7 1 ++ writes_key 1 3 (row 5) ++ prepares 7 1

-- Its decision is recorded, and then COMMIT goes out.
abbrev pub commits_once : List Move
commits_once = prepared_once ++ Writes 7 (1 ∷ []) ∷ Recorded ∷ asks_and_reads 1 (Commit 7)

-- Another transaction asks for the same key while the first is prepared, and again once it is committed.
abbrev pub waits_for_lock : List Move
waits_for_lock = prepared_once ++ begins_on 8 3 ++ asks_and_reads 3 (Scan (one_key 3))

-- The same, and it asks again once the first is committed.
abbrev pub gets_lock : List Move
gets_lock = waits_for_lock ++ Writes 7 (1 ∷ []) ∷ Recorded ∷ asks_and_reads 1 (Commit 7) ++ asks_and_reads 3 (Scan (one_key 3))

-- The connection breaks with a request under way, which is late; then the server sees the end.
abbrev pub late_request : List Move
late_request = begins_on 7 1 ++ Sends 1 (Scan (one_key 3)) ∷ Breaks 1 ∷ Delivers 1 ∷ []

-- The same, and the end is seen.
abbrev pub late_then_seen : List Move
late_then_seen = late_request ++ Hangup_seen 1 ∷ []

-- A server stops while one transaction is prepared there and another is not.
abbrev pub stops_between : List Move
stops_between = prepared_once ++ begins_on 8 3 ++ Stops 0 ∷ []

-- The front stops while the record is being written, and the opened log has it, or hasn't. Then a new connection settles.
abbrev pub stops_writing : Bool → List Move
stops_writing found = prepared_once ++ Writes 7 (1 ∷ []) ∷ Front_stops ∷ Reopens found ∷ Dials 3 ∷ []

-- The record was found: COMMIT.
abbrev pub settles_commit : List Move
settles_commit = stops_writing true ++ Sends 3 (Commit 7) ∷ Delivers 3 ∷ []

-- The record was lost: ROLLBACK.
abbrev pub settles_rollback : List Move
settles_rollback = stops_writing false ++ Sends 3 (Rollback 7) ∷ Delivers 3 ∷ []

-- While the record is in progress a rollback isn't sent, so nothing is delivered.
abbrev pub settles_too_early : List Move
settles_too_early = prepared_once ++ Writes 7 (1 ∷ []) ∷ Dials 3 ∷ Sends 3 (Rollback 7) ∷ Delivers 3 ∷ []

-- A transaction without a branch is decided with no members.
abbrev pub decides_nothing : List Move
decides_nothing = Draws 7 ∷ Writes 7 [] ∷ Recorded ∷ []

-- A transaction is given up, and its branch rolled back.
abbrev pub gives_up : List Move
gives_up = prepared_once ++ Gives_up 7 ∷ asks_and_reads 1 (Rollback 7)

-- Two servers, one transaction: each is a member.
abbrev pub spans_servers : List Move
spans_servers = prepared_once ++ Dials 2 ∷ Uses 2 7 ∷ asks_and_reads 2 (Start 7) ++ writes_key 2 4 (row 6) ++ prepares 7 2 ++ Writes 7 (1 ∷ 2 ∷ []) ∷ Recorded ∷ Delivers 1 ∷ asks_and_reads 2 (Commit 7)

-- A server refuses a scan for want of memory.
abbrev pub refuses_scan : List Move
refuses_scan = begins_on 7 1 ++ Sends 1 (Scan (one_key 3)) ∷ Refuses 1 ∷ []

-- Its disk faults as it prepares: the step is kept, or lost with the branch.
abbrev pub faults_preparing : Bool → List Move
faults_preparing found = begins_on 7 1 ++ writes_key 1 3 (row 5) ++ asks_and_reads 1 (End 7) ++ Sends 1 (Prepare 7) ∷ Faults 1 found ∷ []

-- Another connection asks what is prepared.
abbrev pub recovers : List Move
recovers = prepared_once ++ Dials 3 ∷ Sends 3 Recover ∷ Delivers 3 ∷ []

-- What the laws' examples look at.
abbrev pub after_run : List Move → World
after_run ms = run two_servers ms start

-- The row at a key of a server.
abbrev pub row_at : List Move → ℕ → ℕ → Option Row
row_at ms s k = ((after_run ms).server s).rows (at_key k)

-- A branch has done so many operations.
abbrev pub has_log : Option Branch → ℕ → Bool
has_log None n = false
has_log (Some b) n = eqb (length b.log) n

-- There is one.
abbrev pub is_there : Option Branch → Bool
is_there None = false
is_there (Some b) = true

-- The live branch of a transaction at server 0 after these moves.
abbrev pub branch_of : List Move → ℕ → Option Branch
branch_of ms x = find x ((after_run ms).server 0).branches

-- The numbers of the decided transactions, the newest first.
abbrev pub decided_numbers : List Move → List ℕ
decided_numbers ms = map (λ (d : Decision). d.number) (after_run ms).history
