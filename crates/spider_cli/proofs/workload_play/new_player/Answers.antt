use Rattle.std.proofs.Common.{ap, ◌∙◌}
use Rattle.catalog.specs.Views.{View}
use Rattle.world_runs.specs.Run.{transcript}
use Rattle.world_runs.specs.World.{World}
use Rattle.spider_cli.proofs.workload_play.new_player.Goals as goal

pub returns-clause-fresh : goal.returns-clause-fresh
returns-clause-fresh c rest =
    c.new-player.ensures.fresh rest ∙ ap (λ (catalog : View). transcript catalog rest) (ap (λ (w : World). w.front.catalog) c.in_ok-world.ensures ∙ c.in_ok-copy.ensures)
