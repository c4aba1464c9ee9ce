-- One session of packets, over servers in memory.
use Rattle.std.specs.Prelude.{◌≡◌, ℕ, List}
use Rattle.my_wire.specs.Counts.{IsFront}
use Rattle.my_wire.specs.Packets.{first_packet}
use Rattle.my_messages.specs.declared.session_end.SessionEnd.{SessionEnd}
use Rattle.catalog.specs.Views.{View}
use Rattle.front_node.specs.Session.{Exchange, Sent, sent_to, EndsBy, IsOver}
use Rattle.wire_law.specs.Wire.{AreSolo}

-- What was read and what was written, and how they hang together: what was written is a front of what the client is sent for its bytes.
pub record Wires {S K : Type 0} (gives : S → List ℕ → S → Type 0) (has_ended : S → Type 0) (takes : K → List ℕ → K → Type 0) (catalog : View) (source left : S) (sink full : K) (how : SessionEnd) : Type 0 where
  pub read : List ℕ
  pub written : List ℕ
  pub exchanges : List Exchange
  pub rest : List ℕ
  pub given : gives source read left
  pub taken : takes sink written full
  pub sent : Sent read exchanges rest
  pub front : IsFront written (sent_to exchanges rest)
  pub solo : AreSolo catalog exchanges
  pub ends : EndsBy (has_ended left) (first_packet 0 rest) how
  -- where the client left, or was refused, it is the whole
  pub whole : IsOver how → written ≡ sent_to exchanges rest
