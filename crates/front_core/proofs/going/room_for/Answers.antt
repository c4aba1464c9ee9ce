use Rattle.std.proofs.Common.{arith}
use Rattle.std.proofs.lemmas.Result.{IfOk-weaker}
use Rattle.front_core.proofs.Room.{hears_few}
use Rattle.front_core.proofs.going.room_for.Goals as goal

pub returns-then-is_last-clause-room : goal.returns-then-is_last-clause-room
returns-then-is_last-clause-room c =
    IfOk-weaker c.room.result _ _ (λ outputs room answer. omega (arith, room, c.most_asked.ensures, hears_few c.args.job.now answer)) c.room.ensures.room
