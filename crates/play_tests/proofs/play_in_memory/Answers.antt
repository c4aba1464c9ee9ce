use Rattle.play_tests.proofs.Whole.{played_whole}
use Rattle.play_tests.proofs.play_in_memory.Goals as goal

pub returns : goal.returns
returns c e path form =
    played_whole _ c.args.files.now c.spider_local.new.files c.new-input.result c.spider_local.new.input c.args.out.now c.spider_local.new.out path _ (c.spider_local.ensures.done e) form c.new-input.ensures
