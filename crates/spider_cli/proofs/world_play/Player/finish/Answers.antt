use Rattle.std.proofs.Common.{◌≡◌, [], arith}
use Rattle.std.proofs.lemmas.List.{nil_from_length}
use Rattle.std.proofs.lemmas.Bool.Decides.{nat_tests}
use Rattle.spider_cli.specs.Shown.{scene_of}
use Rattle.spider_cli.proofs.Telling.{none_told, nothing_left}
use Rattle.spider_cli.proofs.world_play.Player.finish.Goals as goal

pub returns-clause-told : goal.returns-clause-told
returns-clause-told c =
    let player = c.args.self.now in
    let e : player.line.items ≡ [] = (let t = c.if-not-is_empty.false in let m = c.is_empty.ensures in nil_from_length player.line.items (grind (arith, nat_tests, player.line.ok.0))) in
    none_told player c.args.text.now.items _ e (nothing_left (scene_of player.stage) player.number c.args.text.now.items c.push_end.new.text.items c.in_ok-push_end.ensures)
