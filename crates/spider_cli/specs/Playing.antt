-- What a play reads and writes.
use Rattle.std.specs.Prelude.{◌≡◌, ℕ, ◌++◌, ◌≤◌, false, ◌==◌, List, [], ◌∷◌, Some, None}
use Rattle.my_wire.specs.Counts.{IsFront}
use Rattle.catalog.specs.Views.{View}
use Rattle.world_runs.specs.declared.schedule.LineRule.{LineRule}
use Rattle.spider_cli.specs.declared.world_play.Player.{Player}
use Rattle.spider_cli.specs.declared.world_play.PlayEnd.{PlayEnd}
use Rattle.spider_cli.specs.declared.world_play.PlayEnd.TheVariants as end
use Rattle.world_runs.specs.Run.{Run, run_of, Told, told, transcript}
use Rattle.world_runs.specs.Schedule.{lines_of}
use Rattle.spider_cli.specs.Shown.{scene_of}

-- no line's end is among the bytes
abbrev pub NoEnd : List ℕ → Type 0
NoEnd [] = Unit {0}
NoEnd (b ∷ bytes) = ((b == 10) ≡ false) × NoEnd bytes

-- a player between two bytes: the line so far has no end
pub record IsReady (player : Player) : Type 0 where
  pub no_end : NoEnd player.line.items
  pub counted : player.number ≤ 1000000

-- the run from here, of these lines
abbrev pub run_from : Player → List (List ℕ) → Run
run_from player lines = run_of (scene_of player.stage) player.number lines

-- what is told from here on, where these bytes come
unfoldable pub told_by : Player → List ℕ → Told
told_by player rest = told (run_from player (lines_of (player.line.items ++ rest)))

-- What was read and what was written on a configuration, and how they hang together: what was written is a front of the transcript of what was read.
pub record Plays {S K : Type 0} (gives : S → List ℕ → S → Type 0) (has_ended : S → Type 0) (takes : K → List ℕ → K → Type 0) (catalog : View) (source left : S) (sink full : K) (how : PlayEnd) : Type 0 where
  pub read : List ℕ
  pub written : List ℕ
  pub given : gives source read left
  pub taken : takes sink written full
  pub front : IsFront written (transcript catalog read).text
  -- at the end it is the whole transcript, of all that the source had
  pub done : how ≡ end.Done → (transcript catalog read ≡ record { text = written; refusal = None }) × has_ended left
  -- at a refusal it is the transcript up to the first line that breaks a rule
  pub refused : (line : ℕ) (rule : LineRule) → how ≡ end.Refused line rule → transcript catalog read ≡ record { text = written; refusal = Some (line, rule) }
