use Rattle.std.proofs.Common.{◌≡◌, ◌-◌}
use Rattle.spider_cli.specs.Playing.{IsReady, told_by}
use Rattle.workload.specs.Generated.{lines_from, played_count}
use Rattle.world_runs.specs.Run.{with_front}
use Rattle.spider_cli.proofs.workload_play.play_lines.Given as goal

-- what is told so far, and of the lines that are left
abbrev pub invariant-loop-number : goal.invariant-loop-number
invariant-loop-number l = record {
  ready : IsReady l.player;
  told : with_front l.text.items (told_by l.player (lines_from l.tables (played_count l.tables l.count - l.number) l.generator))
      ≡ with_front l.fn.text.items (told_by l.fn.player (lines_from l.tables (played_count l.tables l.count) l.seed));
}
