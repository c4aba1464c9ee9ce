use Rattle.std.proofs.Common.{ap, sym, ◌∙◌}
use Rattle.world_runs.specs.Run.{Told}
use Rattle.spider_cli.proofs.Generating.{generated_is}
use Rattle.spider_cli.proofs.Telling.{passed_on}
use Rattle.spider_cli.proofs.workload_play.generated.Goals as goal

pub returns-in_err-play_lines-clause-refused : goal.returns-in_err-play_lines-clause-refused
returns-in_err-play_lines-clause-refused c line rule e =
    let r = c.play_lines.ensures.refused line rule (passed_on c.from_residual-in_err-play_lines.result c.play_lines.result _ _ c.from_residual-in_err-play_lines.ensures.1 c.in_err-play_lines.was e) in
    sym (ap (λ (t : Told). t.refusal)
    (generated_is c.in_ok-player.player c.args.catalog.now c.tables.result.now c.args.seed c.args.count c.new-text.result.items _ c.new-text.ensures.items c.tables.ensures.all c.in_ok-player.ensures.fresh r))

pub returns-in_err-finish-clause-refused : goal.returns-in_err-finish-clause-refused
returns-in_err-finish-clause-refused c line rule e =
    let r = c.finish.ensures.refused line rule (passed_on c.from_residual-in_err-finish.result c.finish.result _ _ c.from_residual-in_err-finish.ensures.1 c.in_err-finish.was e) in
    sym (ap (λ (t : Told). t.refusal)
    (generated_is c.in_ok-player.player c.args.catalog.now c.tables.result.now c.args.seed c.args.count c.new-text.result.items _ c.new-text.ensures.items c.tables.ensures.all c.in_ok-player.ensures.fresh
    (r ∙ c.in_ok-play_lines.ensures.told)))

pub returns-clause-told : goal.returns-clause-told
returns-clause-told c =
    generated_is c.in_ok-player.player c.args.catalog.now c.tables.result.now c.args.seed c.args.count c.new-text.result.items _ c.new-text.ensures.items c.tables.ensures.all c.in_ok-player.ensures.fresh
    (c.in_ok-finish.ensures.told ∙ c.in_ok-play_lines.ensures.told)
