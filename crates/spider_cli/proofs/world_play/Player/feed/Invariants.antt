use Rattle.std.proofs.Common.{◌≡◌, ◌++◌, List, ℕ, length}
use Rattle.spider_cli.specs.Playing.{IsReady, told_by}
use Rattle.world_runs.specs.Run.{with_front}
use Rattle.spider_cli.proofs.world_play.Player.feed.Given as goal

-- however the schedule goes on, what is told so far and from here on is what was to be told
abbrev pub invariant-loop-line : goal.invariant-loop-line
invariant-loop-line l = record {
  ready : IsReady l.self;
  told : (rest : List ℕ) → with_front l.text.items (told_by l.self (l.left ++ rest)) ≡ with_front l.fn.text.items (told_by l.fn.self (l.piece ++ rest));
}

abbrev pub decreases-loop-line : goal.decreases-loop-line
decreases-loop-line l = length l.left
