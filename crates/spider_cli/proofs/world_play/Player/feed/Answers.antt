use Rattle.std.proofs.Common.{◌++◌, sym}
use Rattle.spider_cli.proofs.Telling.{cut, uncut, cut_told, cut_shorter, passed_on}
use Rattle.spider_cli.proofs.world_play.Player.feed.Goals as goal

pub take_line-requires-clause-no_end : goal.take_line-requires-clause-no_end
take_line-requires-clause-no_end c = (cut c.loop-line.left.now c.in-Some.line.now c.in-Some.more.now (sym c.in-Some.ensures)).no_end

pub returns-in_err-take_line-clause-refused : goal.returns-in_err-take_line-clause-refused
returns-in_err-take_line-clause-refused c line rule e rest =
    let was = c.in_err-take_line.was in
    cut_told c.loop-line.self c.loop-line.text.items _ _ c.loop-line.left.now c.in-Some.line.now c.in-Some.more.now rest
    (cut c.loop-line.left.now c.in-Some.line.now c.in-Some.more.now (sym c.in-Some.ensures))
    (c.take_line.ensures.refused line rule (passed_on c.from_residual.result c.take_line.result _ _ c.from_residual.ensures.1 was e) (c.in-Some.more.now ++ rest))
    (c.loop-line.invariant.told rest)

pub loop-line-smaller : goal.loop-line-smaller
loop-line-smaller c = cut_shorter c.loop-line.left.now c.in-Some.line.now c.in-Some.more.now (cut c.loop-line.left.now c.in-Some.line.now c.in-Some.more.now (sym c.in-Some.ensures))

pub loop-line-preserved : goal.loop-line-preserved
loop-line-preserved c = record {
  ready = c.in_ok-take_line.ensures.ready;
  told = λ rest.
      cut_told c.loop-line.self c.loop-line.text.items _ _ c.loop-line.left.now c.in-Some.line.now c.in-Some.more.now rest
      (cut c.loop-line.left.now c.in-Some.line.now c.in-Some.more.now (sym c.in-Some.ensures))
      (c.in_ok-take_line.ensures.told (c.in-Some.more.now ++ rest)) (c.loop-line.invariant.told rest);
}

pub grow-requires-clause-no_end : goal.grow-requires-clause-no_end
grow-requires-clause-no_end c = uncut c.loop-line.left.now (sym c.in_default.ensures)
