use Rattle.std.proofs.Common.{ap, ◌∙◌}
use Rattle.spider_cli.proofs.Generating.{worked}
use Rattle.workload.specs.Generated.{played_count}
use Rattle.workload.specs.Summary.{summary}
use Rattle.spider_cli.proofs.workload_play.play_workload.Goals as goal

pub returns-in-Ok : goal.returns-in-Ok
returns-in-Ok g c conf is =
    let played = c.played_count.ensures ∙ ap (λ tables. played_count tables c.args.count) c.tables.ensures.all in
    let told = ap (λ n. summary n c.as_slice.result.now) played ∙ ap (summary (played_count c.args.catalog.now.tables c.args.count)) c.as_slice.ensures.value in
    worked g.O.Sink.takes g.O.Sink.faults c.args.out.now c.write_summary.new.out conf c.args.catalog.now c.args.seed c.args.count c.in-Ok.transcript.items _ c.write_summary.result is
    c.in-Ok.ensures.told told c.write_summary.ensures
