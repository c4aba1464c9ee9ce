use Rattle.std.specs.Prelude.{◌≡◌, ℕ, ◌++◌, List, []}
use Rattle.my_wire.specs.Packets.{Refused, with_held}
use Rattle.my_wire.specs.declared.packet.WireFault.{WireFault}
use Rattle.my_messages.specs.declared.session_end.SessionEnd.TheVariants as ends
use Rattle.front_node.specs.Session.{EndsBy, refusal_bytes}
use Rattle.front_node.specs.declared.session.Step.{Step}
use Rattle.front_node.specs.declared.session.Step.TheVariants as steps
use Rattle.front_core.specs.Core.{Front}
use Rattle.front_node.specs.Serving.{Seat, at_command}
use Rattle.front_node.specs.declared.session.Talk.{Talk}

-- what a talk is served with
abbrev pub seat_of : {B : Type 0} → Talk → Front → B → Seat B
seat_of talk front backs = record { node = record { front = front; backs = backs }; reader = talk.reader; out = talk.out; status = talk.status }

-- a talk that begins
pub record IsNew (talk : Talk) : Type 0 where
  pub reader : talk.reader ≡ at_command []
  pub out : talk.out ≡ []
  pub status : talk.status ≡ 2

-- more bytes came
pub record HasFed (old : Talk) (piece : List ℕ) (new : Talk) : Type 0 where
  pub reader : new.reader ≡ with_held old.reader (old.reader.held ++ piece)
  pub out : new.out ≡ old.out
  pub status : new.status ≡ old.status

-- what wasn't written is written
pub record HasWritten (old new : Talk) : Type 0 where
  pub reader : new.reader ≡ old.reader
  pub out : new.out ≡ []
  pub status : new.status ≡ old.status

-- a refused header is answered by its error, or memory ran out
abbrev pub Refusing : Talk → WireFault → Step → Talk → Type 0
Refusing old fault (steps.Ended (ends.Refused number)) new = EndsBy ⊥ (Refused fault) (ends.Refused number) × (new.out ≡ old.out ++ refusal_bytes (Refused fault))
Refusing old fault (steps.Ended ends.NoMemory) new = new.out ≡ old.out
Refusing old fault (steps.Ended ends.Closed) new = ⊥
Refusing old fault (steps.Ended ends.ClientFault) new = ⊥
Refusing old fault steps.Wanting new = ⊥
Refusing old fault steps.Served new = ⊥
