use Rattle.std.proofs.Common.{refl}
use Rattle.front_core.specs.Core.{most_turns}
use Rattle.spider_cli.proofs.world.most_turns.Goals as goal

pub returns : goal.returns
unfolding most_turns
returns c = refl
