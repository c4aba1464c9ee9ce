-- A session between two packets.
use Rattle.std.specs.Prelude.{◌≡◌, ◌≢◌, ℕ, ◌≤◌, ◌++◌, List, length, Option, None}
use Rattle.my_wire.specs.Packets.{Wanting, Whole, Refused, Stream, packet, first_packet, most}
use Rattle.my_wire.specs.declared.packet.WireFault.{WireFault}
use Rattle.my_messages.specs.Command.{IsCommand}
use Rattle.my_messages.specs.declared.command.Command.{Command}
use Rattle.my_messages.specs.declared.command.Command.TheVariants.{Quit}
use Rattle.my_messages.specs.declared.reply.Reply.{Reply}
use Rattle.my_messages.specs.declared.session_end.SessionEnd.TheVariants as ends
use Rattle.sql_text.specs.declared.link.LinkRequest.{LinkRequest}
use Rattle.sql_text.specs.declared.link.LinkAnswer.{LinkAnswer}
use Rattle.front_node.specs.Asking.{Node}
use Rattle.front_node.specs.Session.{Exchange, exchange_bytes, status_by, session_bytes, status_after, refusal_bytes, EndsBy, Exchanged, Served, Sent}
use Rattle.front_node.specs.declared.session.Step.{Step}
use Rattle.front_node.specs.declared.session.Step.TheVariants as steps

-- what is served with what: the front and its servers, the client's bytes, what isn't written yet, and the status of the last answer
pub record Seat (B : Type 0) : Type 0 where
  pub node : Node B
  pub reader : Stream
  pub out : List ℕ
  pub status : ℕ

-- a reader at the beginning of a command
abbrev pub at_command : List ℕ → Stream
at_command held = record { held = held; expected = 0; refused = None }

-- what became of the packet at the front
module _ {B : Type 0} (asks : B → ℕ → LinkRequest → LinkAnswer → B → Type 0) (n : ℕ) where
  -- a command was served
  pub record HasServed (old new : Seat B) : Type 0 where
    pub payload : List ℕ
    pub rest : List ℕ
    pub command : Command
    pub answer : Option Reply
    pub stood : old.reader.held ≡ packet 0 payload ++ rest
    pub fits : length payload ≤ most
    pub reader : new.reader ≡ at_command rest
    pub is_command : IsCommand command payload
    pub stays : command ≢ Quit
    pub exchanged : Exchanged asks n old.node command answer new.node
    pub out : new.out ≡ old.out ++ exchange_bytes old.status command answer
    pub status : new.status ≡ status_by old.status answer

  abbrev pub Went : Seat B → Step → Seat B → Type 0
  Went old steps.Wanting new = (first_packet 0 old.reader.held ≡ Wanting) × (new ≡ old)
  Went old steps.Served new = HasServed old new
  Went old (steps.Ended ends.Closed) new = (payload : List ℕ) × (rest : List ℕ) × (first_packet 0 old.reader.held ≡ Whole payload rest) × IsCommand Quit payload × (new.out ≡ old.out) × (new.node ≡ old.node)
  Went old (steps.Ended (ends.Refused number)) new =
      (fault : WireFault) × (first_packet 0 old.reader.held ≡ Refused fault) × EndsBy ⊥ (Refused fault) (ends.Refused number) × (new.out ≡ old.out ++ refusal_bytes (Refused fault)) × (new.node ≡ old.node)
  Went old (steps.Ended ends.NoMemory) new = new.out ≡ old.out
  Went old (steps.Ended ends.ClientFault) new = ⊥

-- what was read, asked and written since a session began
pub record Serving {C B : Type 0} (passes : C → List ℕ → List ℕ → C → Type 0) (asks : B → ℕ → LinkRequest → LinkAnswer → B → Type 0) (n : ℕ) (first : Node B) (client : C)
    (seat : Seat B) (now : C) : Type 0 where
  pub read : List ℕ
  pub written : List ℕ
  pub exchanges : List Exchange
  pub passed : passes client read written now
  pub sent : Sent read exchanges seat.reader.held
  pub reader : seat.reader ≡ at_command seat.reader.held
  pub served : Served asks n first exchanges seat.node
  pub said : written ++ seat.out ≡ session_bytes 2 exchanges
  pub status : seat.status ≡ status_after 2 exchanges
