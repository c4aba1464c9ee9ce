use Rattle.std.proofs.Common.{◌∙◌, ap, sym, subst}
use Rattle.catalog.specs.Views.{View}
use Rattle.world_runs.specs.World.{World, new_world}
use Rattle.spider_cli.specs.Playing.{Plays}
use Rattle.spider_cli.proofs.Streaming.{nothing_played}
use Rattle.spider_cli.proofs.world_play.play.Goals as goal

pub returns-in_default-clause-plays : goal.returns-in_default-clause-plays
returns-in_default-clause-plays g c =
    nothing_played g.S.Source.gives g.S.Source.has_ended g.K.Sink.takes g.K.Sink.faults g.met.S.Source.gives_nothing g.met.S.Source.gives_on g.met.K.Sink.takes_nothing g.met.K.Sink.takes_on
    c.args.catalog c.args.schedule.now c.args.out.now

pub returns-in_default-new-clause-plays : goal.returns-in_default-new-clause-plays
returns-in_default-new-clause-plays g c =
    nothing_played g.S.Source.gives g.S.Source.has_ended g.K.Sink.takes g.K.Sink.faults g.met.S.Source.gives_nothing g.met.S.Source.gives_on g.met.K.Sink.takes_nothing g.met.K.Sink.takes_on
    c.args.catalog c.args.schedule.now c.args.out.now

pub play_in-requires-clause-fresh : goal.play_in-requires-clause-fresh
play_in-requires-clause-fresh g c = c.in-Ok-new.ensures ∙ ap (λ (w : World). new_world w.front.catalog) (sym c.in-Ok-new.ensures)

pub returns-clause-plays : goal.returns-clause-plays
returns-clause-plays g c =
    subst (λ (catalog : View). Plays g.S.Source.gives g.S.Source.has_ended g.K.Sink.takes catalog c.args.schedule.now c.play_in.new.schedule c.args.out.now c.play_in.new.out c.play_in.result)
    (ap (λ (w : World). w.front.catalog) c.in-Ok-new.ensures) c.play_in.ensures.plays
