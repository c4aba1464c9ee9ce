use Rattle.std.proofs.Common.{◌≡◌, take, drop}
use Rattle.world_runs.specs.Schedule.{cut_at, onto_line}
use Rattle.workload.proofs.cutting.cut_at.Given as goal

-- what is passed, and the first end in the rest after it
abbrev pub invariant-loop-i : goal.invariant-loop-i
invariant-loop-i l = onto_line (take l.i l.bytes) (cut_at l.end (drop l.i l.bytes)) ≡ cut_at l.end l.bytes
