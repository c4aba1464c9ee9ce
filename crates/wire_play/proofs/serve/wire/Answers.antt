use Rattle.std.proofs.Common.{refl}
use Rattle.wire_play.proofs.Ends.{nothing}
use Rattle.wire_play.proofs.serve.wire.Goals as goal

pub returns-in_default : goal.returns-in_default
returns-in_default g c =
    nothing g.S.Source.gives g.met.S.Source.gives_nothing g.S.Source.has_ended g.S.Source.faults g.K.Sink.takes g.met.K.Sink.takes_nothing g.K.Sink.faults c.args.catalog c.args.input.now c.args.input.now
    c.args.out.now c.args.out.now refl refl
