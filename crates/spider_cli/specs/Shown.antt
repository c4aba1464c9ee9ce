use Rattle.std.specs.Prelude.{ℕ, Bool, List, ◌++◌}
use Rattle.front_core.specs.declared.event.Output.{Output}
use Rattle.world_runs.specs.World as spec
use Rattle.world_runs.specs.Run.{Scene}
use Rattle.world_runs.specs.Transcript.{Shown, outputs_text}
use Rattle.spider_cli.specs.declared.transcript.Style.{Style}
use Rattle.spider_cli.specs.declared.world.World.{World}
use Rattle.spider_cli.specs.declared.world.Stage.{Stage}

-- the world that the program's state shows
abbrev pub shown : World → spec.World
shown w = record { front = w.front; stores = w.stores.items; requests = w.requests.items; answers = w.answers.items }

abbrev pub scene_of : Stage → Scene
scene_of s = record { world = shown s.world; traced = s.traced }

-- how outputs are shown, as the definition has it
abbrev pub shown_as : Style → Shown
shown_as s = (s.servers.now, s.traced, s.session)

-- how what a session is given out is shown in this world
abbrev pub style_of : spec.World → Bool → ℕ → Shown
style_of w traced n = (w.front.catalog.servers, traced, n)

-- the world that is left, and the text so far with the lines of what was given out
abbrev pub told_as : Shown → List ℕ → spec.World × List Output → spec.World × List ℕ
told_as style text r = (r.0, text ++ outputs_text style r.1)
