use Rattle.std.proofs.Common.{◌≡◌, map, take}
use Rattle.front_core.specs.Jobs.{branch_at}
use Rattle.front_core.proofs.planning.branches_of.Given as goal

abbrev pub invariant-loop-server : goal.invariant-loop-server
invariant-loop-server l = l.branches ≡ map (branch_at l.catalog l.tx) (take l.server-index l.server-items)
