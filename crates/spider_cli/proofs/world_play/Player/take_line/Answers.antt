use Rattle.std.proofs.Common.{◌∷◌, ◌∙◌}
use Rattle.spider_cli.proofs.Telling.{both_ok, ended_told, ended_refused}
use Rattle.spider_cli.proofs.world_play.Player.take_line.Goals as goal

pub returns-clause-told : goal.returns-clause-told
returns-clause-told c =
    let grown = c.grow.new.self in
    both_ok c.end_line.result c.end_line.ensures.empty c.end_line.ensures.told
    (λ empty told rest.
    ended_told grown c.end_line.new.self c.args.text.now.items c.end_line.new.text.items c.in_ok-grow.ensures.ready.no_end empty told rest
    ∙ c.in_ok-grow.ensures.told c.args.text.now.items (10 ∷ rest))

pub returns-clause-refused : goal.returns-clause-refused
returns-clause-refused c number rule e rest =
    ended_refused c.grow.new.self c.args.text.now.items _ c.in_ok-grow.ensures.ready.no_end (c.end_line.ensures.refused number rule e) rest
    ∙ c.in_ok-grow.ensures.told c.args.text.now.items (10 ∷ rest)
