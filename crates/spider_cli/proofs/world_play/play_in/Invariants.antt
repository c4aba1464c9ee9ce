use Rattle.std.proofs.Common.{◌≡◌, ◌≤◌, ◌<◌, [], length}
use Rattle.spider_cli.specs.Playing.{IsReady}
use Rattle.spider_cli.proofs.Streaming.{Going}
use Rattle.spider_cli.proofs.world_play.play_in.Given as goal

abbrev pub invariant-loop-count : goal.invariant-loop-count
invariant-loop-count g l = record {
  going : Going g.S.Source.gives g.K.Sink.takes l.fn.world.front.catalog l.fn.schedule l.schedule l.fn.out l.out l.player;
  ready : IsReady l.player;
  empty : l.text.items ≡ [];
  room : 0 < length l.room;
  later_in : g.S.Source.faults l.fn.schedule ≤ g.S.Source.faults l.schedule;
  later_out : g.K.Sink.faults l.fn.out ≤ g.K.Sink.faults l.out;
}

abbrev pub decreases-loop-count : goal.decreases-loop-count
decreases-loop-count g l = g.S.Source.readings_left l.schedule
