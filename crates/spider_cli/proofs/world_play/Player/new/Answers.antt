use Rattle.std.proofs.Common.{refl, ap, false}
use Rattle.spider_cli.proofs.Telling.{fresh_told}
use Rattle.spider_cli.proofs.world_play.Player.new.Goals as goal

pub returns-clause-fresh : goal.returns-clause-fresh
returns-clause-fresh c = fresh_told _ c.args.world.front.catalog (ap (λ w. record { world = w; traced = false }) c.requires) refl c.new.ensures.items
