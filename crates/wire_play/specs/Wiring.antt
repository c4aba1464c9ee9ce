use Rattle.std.specs.Prelude.{ℕ, List}
use Rattle.my_wire.specs.Counts.{HasRisen}
use Rattle.my_wire.specs.declared.duplex.End.TheVariants.{Source, Sink}
use Rattle.catalog.specs.Views.{View}
use Rattle.my_messages.specs.declared.session_end.SessionEnd.{SessionEnd}
use Rattle.my_messages.specs.declared.session_end.SessionEnd.TheVariants as ends
use Rattle.front_node.specs.Session.{IsOver}
use Rattle.wire_play.specs.declared.serve.WireEnd.{WireEnd}
use Rattle.wire_play.specs.declared.serve.WireEnd.TheVariants.{Done, Failed, NoMemory}
use Rattle.wire_play.specs.Wires.{Wires}

-- how a session of packets ended, with its cause
abbrev pub WireEnds : {S K : Type 0} → (S → List ℕ → S → Type 0) → (S → Type 0) → (S → ℕ) → (K → List ℕ → K → Type 0) → (K → ℕ) → View → S → S → K → K → WireEnd → Type 0
WireEnds gives has_ended read_faults takes write_faults catalog source rest sink full Done = (how : SessionEnd) × IsOver how × Wires gives has_ended takes catalog source rest sink full how
WireEnds gives has_ended read_faults takes write_faults catalog source rest sink full (Failed Source) = HasRisen (read_faults source) (read_faults rest) × Wires gives has_ended takes catalog source rest sink full ends.ClientFault
WireEnds gives has_ended read_faults takes write_faults catalog source rest sink full (Failed Sink) = HasRisen (write_faults sink) (write_faults full) × Wires gives has_ended takes catalog source rest sink full ends.ClientFault
WireEnds gives has_ended read_faults takes write_faults catalog source rest sink full NoMemory = Wires gives has_ended takes catalog source rest sink full ends.NoMemory
