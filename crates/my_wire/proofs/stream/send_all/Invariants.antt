use Rattle.std.proofs.Common.{◌≡◌, [], length, ◌-◌, ◌≤◌, take}
use Rattle.my_wire.proofs.stream.send_all.Given as goal

-- the front so far is taken
abbrev pub invariant-loop-at : goal.invariant-loop-at
invariant-loop-at g l = record {
  within : l.at ≤ length l.bytes;
  taken : g.C.Stream.passes l.initial.stream [] (take l.at l.bytes) l.stream;
  no_more : g.C.Stream.readings_left l.stream ≤ g.C.Stream.readings_left l.initial.stream;
  later : g.C.Stream.faults l.initial.stream ≤ g.C.Stream.faults l.stream;
  same_source : g.C.Stream.reads_from l.stream ≡ g.C.Stream.reads_from l.initial.stream;
  same_sink : g.C.Stream.writes_to l.stream ≡ g.C.Stream.writes_to l.initial.stream;
}

abbrev pub decreases-loop-at : goal.decreases-loop-at
decreases-loop-at g l = length l.bytes - l.at
