use Rattle.spider_cli.specs.Shown.{shown_as}
use Rattle.spider_cli.proofs.Outputs.{sent_more, told_more}
use Rattle.spider_cli.proofs.world.pass_on.Goals as goal

pub loop-output-preserved : goal.loop-output-preserved
loop-output-preserved c = record {
  sent = sent_more _ _ _ c.loop-output.yielded c.in-Some.output _ c.loop-output.invariant.sent c.request_of.ensures c.in_ok-send.ensures;
  text = told_more (shown_as c.args.style) _ _ _ c.loop-output.yielded c.in-Some.output c.loop-output.invariant.text c.in_ok-push_output.ensures;
}
