use Rattle.std.proofs.Common.{◌≡◌, ◌≤◌, length}
use Rattle.front_node.specs.Asking.{Node}
use Rattle.front_node.specs.Serving.{Serving, at_command}
use Rattle.front_node.specs.Seats.{seat_of}
use Rattle.front_node.proofs.serve.serve_held.Given as goal

-- what was served since the session began, and that the reader stands at a command
abbrev pub invariant-loop-talk : goal.invariant-loop-talk
invariant-loop-talk g l = record {
  served : (first : Node g.row.B.Denot) (begun : g.row.C.Denot) → Serving g.C.Stream.passes g.B.Backs.asks l.session first begun (seat_of l.fn.talk l.fn.front l.fn.backs) l.fn.client
      → Serving g.C.Stream.passes g.B.Backs.asks l.session first begun (seat_of l.talk l.front l.backs) l.client;
  reader : l.talk.reader ≡ at_command l.talk.reader.held;
  no_more : g.C.Stream.readings_left l.client ≤ g.C.Stream.readings_left l.fn.client;
  later : g.C.Stream.faults l.fn.client ≤ g.C.Stream.faults l.client;
  same_source : g.C.Stream.reads_from l.client ≡ g.C.Stream.reads_from l.fn.client;
  same_sink : g.C.Stream.writes_to l.client ≡ g.C.Stream.writes_to l.fn.client;
}

abbrev pub decreases-loop-talk : goal.decreases-loop-talk
decreases-loop-talk g l = length l.talk.reader.held
