use Rattle.spider_cli.specs.Shown.{shown}
use Rattle.world_runs.specs.World.{client, with_session, runs}
use Rattle.spider_cli.proofs.Outputs.{then}
use Rattle.spider_cli.proofs.Telling.{on_ok}
use Rattle.spider_cli.proofs.world.World.client.Goals as goal

pub returns : goal.returns
unfolding client
returns c =
    let old = shown c.args.self.now in
    on_ok c.run.result c.run.ensures.told
    (λ told.
    then old (shown c.open.new.self) (shown c.run.new.self) c.args.traced c.args.session c.args.text.now.items c.open.new.text.items c.run.new.text.items (with_session old c.args.session)
    (λ w. runs w c.args.session c.args.statement.now) c.in_ok-open.ensures.same c.in_ok-open.ensures.told told)
