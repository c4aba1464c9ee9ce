-- What counts of a server, and the words of the laws.
use Rattle.std.specs.Prelude.{◌≡◌, ℕ, Bool, false, cond, ◌&&◌, eqb, List, [], ◌∷◌, Option, Some, None}
use Rattle.commit_protocol.specs.Rows.{Table, Operation, after, AreRight}
use Rattle.commit_protocol.specs.Backend.{Branch, Server, Request, find, is_prepared}
use Rattle.commit_protocol.specs.Network.{Topology}
use Rattle.commit_protocol.specs.Protocol.{Step, Decision, World, Move, has_member}
use Rattle.commit_protocol.specs.Protocol.Move.{Draws, Dials, Uses, Sends, Delivers, Refuses, Faults, Reads, Breaks, Hangup_seen, Writes, Recorded, Gives_up, Stops, Front_stops, Reopens}

-- What a transaction did on one connection.
abbrev pub done_on : ℕ → List Step → List Operation
done_on c [] = []
done_on c (st ∷ older) = cond (eqb st.connection c) (st.op ∷ done_on c older) (done_on c older)

-- What a transaction did at a server, where that is a member.
abbrev pub done_at : Topology → ℕ → List ℕ → List Step → List Operation
done_at f s [] log = []
done_at f s (c ∷ cs) log = cond (eqb (f.home c) s) (done_on c log) (done_at f s cs log)

-- The rows of a server after the decided transactions, in the order of their decisions.
abbrev pub decided_rows : Topology → ℕ → List Decision → Table
decided_rows f s [] = λ k. None
decided_rows f s (d ∷ older) = after (decided_rows f s older) (done_at f s d.members d.log)

-- The server's own history is serial: each scan of a member's connection gave what the decided rows were then.
abbrev pub IsSerialAt : Topology → ℕ → List Decision → Type 0
IsSerialAt f s [] = Unit {0}
IsSerialAt f s (d ∷ older) = AreRight (decided_rows f s older) (done_at f s d.members d.log) × IsSerialAt f s older

-- The rows with the changes of a prepared branch of the decision, where the server is a member.
abbrev pub with_pending : Topology → ℕ → Decision → Table → Option Branch → Table
with_pending f s d t None = t
with_pending f s d t (Some b) = cond (is_prepared b.stage && has_member f s d.members) (after t b.log) t

-- The committed rows with the prepared changes of these decisions, the oldest first.
abbrev pub view_from : Topology → ℕ → Server → List Decision → Table
view_from f s v [] = v.rows
view_from f s v (d ∷ older) = with_pending f s d (view_from f s v older) (find d.number v.branches)

-- What counts of a server: its committed rows, changed by the prepared branches there of decided transactions with it as a
-- member, in the order of the decisions.
abbrev pub view : Topology → World → ℕ → Table
view f w s = view_from f s (w.server s) w.history

-- The request stands first.
abbrev pub First : Request → List Request → Type 0
First r [] = ⊥
First r (q ∷ qs) = q ≡ r

-- The decision is of this transaction, with the server as a member.
abbrev pub is_member_of : Topology → Option Decision → ℕ → ℕ → Bool
is_member_of f None y s = false
is_member_of f (Some d) y s = eqb d.number y && has_member f s d.members

-- The move may decide this transaction with the server as a member.
abbrev pub decides_member : Topology → World → Move → ℕ → ℕ → Bool
decides_member f w (Draws x) y s = false
decides_member f w (Dials c) y s = false
decides_member f w (Uses c x) y s = false
decides_member f w (Sends c r) y s = false
decides_member f w (Delivers c) y s = false
decides_member f w (Refuses c) y s = false
decides_member f w (Faults c found) y s = false
decides_member f w (Reads c) y s = false
decides_member f w (Breaks c) y s = false
decides_member f w (Hangup_seen c) y s = false
decides_member f w (Writes x ms) y s = false
decides_member f w Recorded y s = is_member_of f w.pending y s
decides_member f w (Gives_up x) y s = false
decides_member f w (Stops t) y s = false
decides_member f w Front_stops y s = false
decides_member f w (Reopens found) y s = found && is_member_of f w.pending y s
