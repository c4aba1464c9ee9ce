-- The moves of the front whose guards are tests, so that runs can be computed.
use Rattle.std.specs.Prelude.{ℕ, Bool, true, not, ◌&&◌, eqb, List, [], ◌∷◌, Some, is_none}
use Rattle.commit_protocol.specs.Rows.{Footprint, Table}
use Rattle.commit_protocol.specs.Backend.Request.{Scan, Change, Prepare}
use Rattle.commit_protocol.specs.Network.{set, Topology}
use Rattle.commit_protocol.specs.Protocol.{Move, may_ask, may_use, happens}
use Rattle.commit_protocol.specs.Protocol.Move.{Uses, Sends, Recorded, Reopens}
use Rattle.commit_protocol.specs.Links.{Placement, is_ng, raised}
use Rattle.commit_protocol.specs.Replicas.{Front, is_free, all_past, is_line, sends_to, booked, reopened, with_link}
use Rattle.commit_protocol.specs.Links.Status.{RECOVERY, NG}

-- A move of the front.
pub data Action : Type 0 where
  Core : (m : Move) → Action
  Open : (c x : ℕ) → Action
  Scan_on : (c : ℕ) (fp : Footprint) → Action
  Change_on : (c : ℕ) (fp : Footprint) (rows : Table) → Action
  Prepare_on : (c x : ℕ) → Action
  Record_done : Action
  Reopen : (found : Bool) → Action
  Fall : (l : ℕ) → Action
  Rise : (l : ℕ) → Action

-- Its guard.
abbrev pub may : Topology → Placement → Front → Action → Bool
may f p v (Core m) = is_free m
may f p v (Open c x) = may_use v.core c x && all_past p v.link (f.home c) (v.sent x)
may f p v (Scan_on c fp) = may_ask f v.core c (Scan fp) && (is_line f v c && eqb (p.link_server fp.table) (f.home c))
may f p v (Change_on c fp rows) = may_ask f v.core c (Change fp rows) && (is_line f v c && eqb (p.link_server fp.table) (f.home c))
may f p v (Prepare_on c x) = may_ask f v.core c (Prepare x) && is_line f v c
may f p v Record_done = true
may f p v (Reopen found) = true
may f p v (Fall l) = is_none v.writing && not (is_ng (v.link l).status)
may f p v (Rise l) = is_none v.writing && is_ng (v.link l).status

-- What it leaves.
abbrev pub acted : Topology → Front → Action → Front
acted f v (Core m) = record v { core = happens f v.core m }
acted f v (Open c x) = record v { core = happens f v.core (Uses c x); line = set v.line x (set (v.line x) (f.home c) (Some c)) }
acted f v (Scan_on c fp) = sends_to f v c (Scan fp) fp.table
acted f v (Change_on c fp rows) = sends_to f v c (Change fp rows) fp.table
acted f v (Prepare_on c x) = record v { core = happens f v.core (Sends c (Prepare x)) }
acted f v Record_done = booked v (happens f v.core Recorded) v.writing
acted f v (Reopen found) = reopened v (happens f v.core (Reopens found)) found
acted f v (Fall l) = with_link v l (raised (v.link l) NG)
acted f v (Rise l) = with_link v l (raised (v.link l) RECOVERY)

-- Each guard holds as its turn comes.
abbrev pub may_all : Topology → Placement → Front → List Action → Bool
may_all f p v [] = true
may_all f p v (a ∷ as_next) = may f p v a && may_all f p (acted f v a) as_next

-- What these leave, the first one first.
abbrev pub acted_all : Topology → Front → List Action → Front
acted_all f v [] = v
acted_all f v (a ∷ as_next) = acted_all f (acted f v a) as_next
