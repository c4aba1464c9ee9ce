-- What is due on each connection, beside the protocol's world: requests that were sent and whose answers were not read yet.
use Rattle.std.specs.Prelude.{◌≡◌, ℕ, true, cond, List, [], ◌∷◌, ◌++◌}
use Rattle.commit_protocol.specs.Rows.{Table, Operation}
use Rattle.commit_protocol.specs.Rows.Operation.{Scanned, Changed}
use Rattle.commit_protocol.specs.Backend.{Request}
use Rattle.commit_protocol.specs.Backend.Request.{Start, Scan, Change, End, Prepare, Commit, Rollback, Recover}
use Rattle.commit_protocol.specs.Network.{set, Topology, Reply}
use Rattle.commit_protocol.specs.Network.Reply.{Refused, Ran, Did, Listed}
use Rattle.commit_protocol.specs.Protocol.{World, Move, may_ask, happens, start}
use Rattle.commit_protocol.specs.Protocol.Move.{Draws, Dials, Uses, Sends, Delivers, Refuses, Faults, Reads, Breaks, Hangup_seen, Writes, Recorded, Gives_up, Stops, Front_stops, Reopens}

-- The world, and what is due on each connection, the oldest first.
pub record Course : Type 0 where
  pub core : World
  pub due : ℕ → List Request

-- All but the first.
abbrev pub tail_of : List Request → List Request
tail_of [] = []
tail_of (r ∷ rs) = rs

-- What is due once the first waiting answer is read.
abbrev pub due_read : (ℕ → List Request) → ℕ → List Reply → ℕ → List Request
due_read due c [] = due
due_read due c (a ∷ more) = set due c (tail_of (due c))

-- What is due after a move: what is sent is due until its answer is read.
abbrev pub due_after : Topology → World → (ℕ → List Request) → Move → ℕ → List Request
due_after f w due (Draws x) = due
due_after f w due (Dials c) = due
due_after f w due (Uses c x) = due
due_after f w due (Sends c r) = cond (may_ask f w c r) (set due c (due c ++ r ∷ [])) due
due_after f w due (Delivers c) = due
due_after f w due (Refuses c) = due
due_after f w due (Faults c found) = due
due_after f w due (Reads c) = due_read due c (w.connection c).unread
due_after f w due (Breaks c) = due
due_after f w due (Hangup_seen c) = due
due_after f w due (Writes x ms) = due
due_after f w due Recorded = due
due_after f w due (Gives_up x) = due
due_after f w due (Stops s) = due
due_after f w due Front_stops = due
due_after f w due (Reopens found) = due

-- A move, with what is due after it.
abbrev pub goes : Topology → Course → Move → Course
goes f v m = record { core = happens f v.core m; due = due_after f v.core v.due m }

-- These moves, the first one first.
abbrev pub course : Topology → List Move → Course → Course
course f [] v = v
course f (m ∷ ms) v = course f ms (goes f v m)

-- Nothing happened, nothing is due.
abbrev pub new_course : Course
new_course = record { core = start; due = λ c. [] }

-- What a front that reads `done` knows: START began the branch, PREPARE prepared it. A scan or a change isn't answered so.
abbrev pub DidMeans : Topology → World → ℕ → Request → Type 0
DidMeans f w c (Start y) = (w.connection c).begun ≡ true
DidMeans f w c (Scan fp) = ⊥
DidMeans f w c (Change fp rows) = ⊥
DidMeans f w c (End y) = Unit {0}
DidMeans f w c (Prepare y) = (w.transaction y).ready (f.home c) ≡ true
DidMeans f w c (Commit y) = Unit {0}
DidMeans f w c (Rollback y) = Unit {0}
DidMeans f w c Recover = ⊥

-- What ran is what was asked.
abbrev pub RanMeans : Request → Operation → Type 0
RanMeans (Start x) op = ⊥
RanMeans (Scan fp) op = (rows : Table) × (op ≡ Scanned fp rows)
RanMeans (Change fp rows) op = op ≡ Changed fp rows
RanMeans (End x) op = ⊥
RanMeans (Prepare x) op = ⊥
RanMeans (Commit x) op = ⊥
RanMeans (Rollback x) op = ⊥
RanMeans Recover op = ⊥

-- A list of what is prepared answers RECOVER alone.
abbrev pub ListMeans : Request → Type 0
ListMeans (Start x) = ⊥
ListMeans (Scan fp) = ⊥
ListMeans (Change fp rows) = ⊥
ListMeans (End x) = ⊥
ListMeans (Prepare x) = ⊥
ListMeans (Commit x) = ⊥
ListMeans (Rollback x) = ⊥
ListMeans Recover = Unit {0}

-- The answer is one to the request, and what it says is true.
abbrev pub Answers : Topology → World → ℕ → Request → Reply → Type 0
Answers f w c r Refused = Unit {0}
Answers f w c r (Ran op) = RanMeans r op
Answers f w c r Did = DidMeans f w c r
Answers f w c r (Listed xids) = ListMeans r
