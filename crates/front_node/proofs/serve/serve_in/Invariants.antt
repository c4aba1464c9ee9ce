use Rattle.std.proofs.Common.{◌≡◌, ◌<◌, ◌≤◌, [], length}
use Rattle.my_wire.specs.Packets.{first_packet, Wanting}
use Rattle.front_node.specs.Serving.{Serving}
use Rattle.front_node.specs.Seats.{seat_of}
use Rattle.front_node.proofs.serve.serve_in.Given as goal

-- what was served since the session began; all that is there is answered, and written
abbrev pub invariant-loop-count : goal.invariant-loop-count
invariant-loop-count g l = record {
  served : Serving g.C.Stream.passes g.B.Backs.asks l.session (record { front = l.fn.front; backs = l.fn.backs }) l.fn.client (seat_of l.talk l.front l.backs) l.client;
  wanting : first_packet 0 l.talk.reader.held ≡ Wanting;
  written : l.talk.out ≡ [];
  room : 0 < length l.room;
  later : g.C.Stream.faults l.fn.client ≤ g.C.Stream.faults l.client;
  same_source : g.C.Stream.reads_from l.client ≡ g.C.Stream.reads_from l.fn.client;
  same_sink : g.C.Stream.writes_to l.client ≡ g.C.Stream.writes_to l.fn.client;
}

abbrev pub decreases-loop-count : goal.decreases-loop-count
decreases-loop-count g l = g.C.Stream.readings_left l.client
