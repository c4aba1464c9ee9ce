use Rattle.std.proofs.Common.{◌≡◌, ◌-◌}
use Rattle.spider_cli.specs.Shown.{shown, style_of, told_as}
use Rattle.world_runs.specs.World.{turns}
use Rattle.spider_cli.proofs.world.World.turns.Given as goal

-- what is told, and the turns that are left
abbrev pub invariant-loop : goal.invariant-loop
invariant-loop l = record {
  told : told_as (style_of (shown l.fn.self) l.traced l.session) l.text.items (turns (l.most - l.counter) (shown l.self) l.session)
      ≡ told_as (style_of (shown l.fn.self) l.traced l.session) l.fn.text.items (turns l.most (shown l.fn.self) l.session);
  same : l.self.front.catalog ≡ l.fn.self.front.catalog;
}
