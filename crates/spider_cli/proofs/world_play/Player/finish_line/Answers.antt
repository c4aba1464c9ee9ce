use Rattle.std.proofs.Common.{◌∙◌, []}
use Rattle.spider_cli.specs.Shown.{scene_of}
use Rattle.spider_cli.proofs.Telling.{passed_on, last_told, nothing_left}
use Rattle.spider_cli.proofs.world_play.Player.finish_line.Goals as goal

pub returns-in_err-end_line-clause-refused : goal.returns-in_err-end_line-clause-refused
returns-in_err-end_line-clause-refused c line rule e =
    last_told c.args.self.now c.args.text.now.items _ c.requires.ready.no_end c.requires.some
    (c.end_line.ensures.refused line rule (passed_on c.from_residual.result c.end_line.result _ _ c.from_residual.ensures.1 c.in_err-end_line.was e) [])

pub returns-clause-told : goal.returns-clause-told
returns-clause-told c =
    let player = c.end_line.new.self in
    last_told c.args.self.now c.args.text.now.items _ c.requires.ready.no_end c.requires.some
    (nothing_left (scene_of player.stage) player.number c.end_line.new.text.items c.push_end.new.text.items c.in_ok-push_end.ensures ∙ c.in_ok-end_line.ensures.told [])
