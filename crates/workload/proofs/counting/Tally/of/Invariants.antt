use Rattle.std.proofs.Common.{length}
use Rattle.world_runs.specs.Schedule.{lines_of}
use Rattle.workload.specs.Tally.{Counts}
use Rattle.workload.proofs.counting.Tally.of.Given as goal

-- what was counted, and the lines that are left
abbrev pub invariant-loop-line : goal.invariant-loop-line
invariant-loop-line l = Counts l.tally (lines_of l.left) (lines_of l.text)

abbrev pub decreases-loop-line : goal.decreases-loop-line
decreases-loop-line l = length l.left
