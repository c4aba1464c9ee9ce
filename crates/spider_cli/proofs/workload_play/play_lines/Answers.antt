use Rattle.std.proofs.Common.{◌≡◌, ◌+◌, ◌-◌, ◌<◌, ◌≤◌, ◌++◌, ap, ◌∙◌, subst}
use Rattle.spider_cli.specs.Playing.{told_by}
use Rattle.spider_cli.proofs.Generating.{some_table, line_told, none_told}
use Rattle.spider_cli.proofs.Telling.{passed_on}
use Rattle.workload.specs.Generated.{lines_from, played_count}
use Rattle.world_runs.specs.Run.{with_front}
use Rattle.spider_cli.proofs.workload_play.play_lines.Goals as goal

pub push_line-requires : goal.push_line-requires
push_line-requires c = some_table c.args.tables.now c.args.count c.loop-number.number (subst (λ n. c.loop-number.number < n) c.played_count-played.ensures c.loop-number-test.true)

pub returns-in_err-feed-clause-refused : goal.returns-in_err-feed-clause-refused
returns-in_err-feed-clause-refused c line rule e =
    let n = played_count c.args.tables.now c.args.count in
    let rest = lines_from c.args.tables.now (n - (c.loop-number.number + 1)) c.push_line.new.self in
    line_told c.loop-number.player c.args.tables.now n c.loop-number.number c.loop-number.generator c.push_line.new.self c.clear.new.self.items c.push_line.new.text.items c.loop-number.text.items _ _
    (subst (λ m. c.loop-number.number < m) c.played_count-played.ensures c.loop-number-test.true) c.clear.ensures.items c.in_ok-push_line.ensures
    (c.feed.ensures.refused line rule (passed_on c.from_residual-in_err-feed.result c.feed.result _ _ c.from_residual-in_err-feed.ensures.1 c.in_err-feed.was e) rest
    ∙ ap (λ bytes. with_front c.loop-number.text.items (told_by c.loop-number.player (bytes ++ rest))) c.as_slice.ensures.value)
    c.loop-number.invariant.told

pub loop-number-preserved : goal.loop-number-preserved
loop-number-preserved c =
    let n = played_count c.args.tables.now c.args.count in
    let rest = lines_from c.args.tables.now (n - (c.loop-number.number + 1)) c.push_line.new.self in
    record {
      ready = c.in_ok-feed.ensures.ready;
      told =
          line_told c.loop-number.player c.args.tables.now n c.loop-number.number c.loop-number.generator c.push_line.new.self c.clear.new.self.items c.push_line.new.text.items c.loop-number.text.items _ _
          (subst (λ m. c.loop-number.number < m) c.played_count-played.ensures c.loop-number-test.true) c.clear.ensures.items c.in_ok-push_line.ensures
          (c.in_ok-feed.ensures.told rest ∙ ap (λ bytes. with_front c.loop-number.text.items (told_by c.loop-number.player (bytes ++ rest))) c.as_slice.ensures.value)
          c.loop-number.invariant.told;
    }

pub returns-clause-told : goal.returns-clause-told
returns-clause-told c =
    none_told c.loop-number.player c.args.tables.now (played_count c.args.tables.now c.args.count) c.loop-number.number c.loop-number.generator c.loop-number.text.items _
    (subst (λ n. n ≤ c.loop-number.number) c.played_count-played.ensures c.loop-number-test.false) c.loop-number.invariant.told
