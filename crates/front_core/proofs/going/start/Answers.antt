use Rattle.std.proofs.Common.{arith, ap}
use Rattle.front_core.specs.Planned.{needed}
use Rattle.front_core.proofs.Room.{begins_few}
use Rattle.front_core.proofs.going.start.Goals as goal

pub go_on-requires-clause-room : goal.go_on-requires-clause-room
go_on-requires-clause-room c =
    omega (arith, ap (λ q. needed q.1) c.in_ok-progress.ensures.begins, begins_few c.args.run.job, c.most_asked.ensures, c.in_ok-outputs.ensures.room)
