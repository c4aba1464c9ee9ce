use Rattle.std.proofs.Common.{◌≡◌, ◌∙◌, ap, sym}
use Rattle.spider_cli.specs.Lines.{line_view}
use Rattle.spider_cli.specs.Shown.{shown, scene_of}
use Rattle.spider_cli.proofs.Steps.{passed, traces, sends, breaks}
use Rattle.spider_cli.proofs.world.Stage.step.Goals as goal

pub returns-in-Passed-clause-step : goal.returns-in-Passed-clause-step
returns-in-Passed-clause-step c = passed c.args.number (scene_of c.args.self.now) c.args.line.now c.args.text.now.items (ap line_view (sym c.in-Passed.is) ∙ c.read_line.ensures)

pub returns-in-Trace-clause-step : goal.returns-in-Trace-clause-step
returns-in-Trace-clause-step c = traces c.args.number (scene_of c.args.self.now) c.args.line.now c.args.text.now.items c.in-Trace.on (ap line_view (sym c.in-Trace.is) ∙ c.read_line.ensures)

pub returns-in-Ok-clause-step : goal.returns-in-Ok-clause-step
returns-in-Ok-clause-step c =
    sends c.args.number c.in-Client.session (scene_of c.args.self.now) c.args.line.now c.in-Client.statement.now c.args.text.now.items c.client.new.text.items (shown c.client.new.self)
    (ap line_view (sym c.in-Client.is) ∙ c.read_line.ensures) c.in-Ok.ensures

pub returns-in-Broken-clause-broken : goal.returns-in-Broken-clause-broken
returns-in-Broken-clause-broken c rule e =
    let same : c.in-Broken.rule ≡ rule = cc in
    breaks c.args.number (scene_of c.args.self.now) c.args.line.now c.in-Broken.rule rule (ap line_view (sym c.in-Broken.is) ∙ c.read_line.ensures) same
