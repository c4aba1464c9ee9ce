use Rattle.std.proofs.Common.{[], refl}
use Rattle.front_node.specs.Asking.{Node}
use Rattle.front_node.specs.Serving.{Seat, at_command}
use Rattle.front_node.proofs.Sessions.{serving_begins, starves}
use Rattle.front_node.proofs.serve.serve_commands.Goals as goal

pub returns-in_default-clause-session : goal.returns-in_default-clause-session
returns-in_default-clause-session g c =
    let first : Node g.row.B.Denot = record { front = c.args.front.now; backs = c.args.backs.now } in
    let seat : Seat g.row.B.Denot = record { node = first; reader = at_command []; out = []; status = 2 } in
    starves g.C.Stream.passes g.C.Stream.has_ended g.met.C.Stream.passes_on g.B.Backs.asks c.args.session first c.args.client.now seat c.args.client.now c.args.client.now first
    (serving_begins g.C.Stream.passes g.met.C.Stream.passes_nothing g.met.C.Stream.passes_on g.B.Backs.asks c.args.session first c.args.client.now seat refl refl refl refl)
    (g.met.C.Stream.passes_nothing c.args.client.now)
