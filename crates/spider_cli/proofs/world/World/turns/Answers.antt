use Rattle.std.proofs.Common.{◌∙◌, ap, arith, sym}
use Rattle.spider_cli.specs.Shown.{shown, style_of, told_as}
use Rattle.world_runs.specs.World.{turn}
use Rattle.spider_cli.proofs.Outputs.{turn_goes_on, turns_end, turns_over}
use Rattle.spider_cli.proofs.world.World.turns.Goals as goal

pub returns-then-is_over : goal.returns-then-is_over
returns-then-is_over c = record {
  told = turns_end c.args.most c.loop.counter (shown c.loop.self) c.args.session _ c.loop.text.items _ (sym c.is_over.ensures ∙ c.if-is_over.true) c.loop.invariant.told;
  same = c.loop.invariant.same;
}

pub loop-preserved : goal.loop-preserved
loop-preserved c = record {
  told =
      turn_goes_on c.args.most c.loop.counter (shown c.turn.new.self) (shown c.loop.self) c.args.session (style_of (shown c.args.self.now) c.args.traced c.args.session) c.loop.text.items c.turn.new.text.items _
      (omega arith) (sym c.is_over.ensures ∙ c.if-is_over.false)
      (c.in_ok-turn.ensures.told
      ∙ ap (λ catalog. told_as (catalog.servers, c.args.traced, c.args.session) c.loop.text.items (turn (shown c.loop.self) c.args.session)) c.loop.invariant.same)
      c.loop.invariant.told;
  same = c.in_ok-turn.ensures.same ∙ c.loop.invariant.same;
}

pub returns : goal.returns
returns c = record {
  told = turns_over c.args.most c.loop.counter (shown c.loop.self) c.args.session _ c.loop.text.items _ (omega arith) c.loop.invariant.told;
  same = c.loop.invariant.same;
}
