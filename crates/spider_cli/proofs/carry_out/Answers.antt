use Rattle.std.proofs.Common.{sym, subst}
use Rattle.spider_cli.specs.Top.{DoesOn}
use Rattle.spider_cli.specs.Forms.{form_view}
use Rattle.spider_cli.proofs.carry_out.Goals as goal

pub returns-in-Play : goal.returns-in-Play
returns-in-Play g c = subst (λ form. DoesOn g.I.Source.gives g.I.Source.has_ended g.I.Source.faults g.O.Sink.takes g.O.Sink.faults c.args.input.now c.play_on.new.input c.args.out.now c.play_on.new.out c.args.conf.now (form_view form) c.play_on.result) (sym c.in-Play.is) (c.play_on.ensures c.in-Play._path.now)

pub returns-in-Wire : goal.returns-in-Wire
returns-in-Wire g c = subst (λ form. DoesOn g.I.Source.gives g.I.Source.has_ended g.I.Source.faults g.O.Sink.takes g.O.Sink.faults c.args.input.now c.wire_on.new.input c.args.out.now c.wire_on.new.out c.args.conf.now (form_view form) c.wire_on.result) (sym c.in-Wire.is) (c.wire_on.ensures c.in-Wire._path.now)
