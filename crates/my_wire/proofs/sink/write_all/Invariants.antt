use Rattle.std.proofs.Common.{length, ◌-◌, ◌≤◌, take}
use Rattle.my_wire.proofs.sink.write_all.Given as goal

-- the front so far is taken
abbrev pub invariant-loop-at : goal.invariant-loop-at
invariant-loop-at g l = record {
  within : l.at ≤ length l.bytes;
  taken : g.K.Sink.takes l.initial.sink (take l.at l.bytes) l.sink;
  later : g.K.Sink.faults l.initial.sink ≤ g.K.Sink.faults l.sink;
}

abbrev pub decreases-loop-at : goal.decreases-loop-at
decreases-loop-at g l = length l.bytes - l.at
