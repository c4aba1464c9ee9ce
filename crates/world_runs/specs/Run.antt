-- The run that a schedule names, and the text over it.
use Rattle.std.specs.Prelude.{ℕ, ◌+◌, ◌++◌, Bool, false, List, [], ◌∷◌, Option, Some, None, Result, Ok, Err}
use Rattle.std.specs.List.{flat_map}
use Rattle.catalog.specs.Views.{View}
use Rattle.front_core.specs.declared.event.Output.{Output}
use Rattle.world_runs.specs.declared.schedule.LineRule.{LineRule}
use Rattle.world_runs.specs.Schedule.{Line, Passed, Trace, Client, Broken, line_of, lines_of}
use Rattle.world_runs.specs.Transcript.{Shown, outputs_text, end_text}
use Rattle.world_runs.specs.World.{World, new_world, client}

-- ONE LINE

-- the world, and whether requests are shown
pub record Scene : Type 0 where
  pub world : World
  pub traced : Bool

-- the scene of a configuration as a schedule begins
abbrev pub new_scene : View → Scene
new_scene catalog = record { world = new_world catalog; traced = false }

-- what the front gave out in a line, and how it is shown
pub record Given : Type 0 where
  pub shown : Shown
  pub outputs : List Output

abbrev pub nothing : Given
nothing = record { shown = ([], false, 0); outputs = [] }

abbrev pub shown_for : Scene → ℕ → Shown
shown_for s n = (s.world.front.catalog.servers, s.traced, n)

abbrev pub client_in : Scene → ℕ → World × List Output → Scene × Given
client_in s n r = (record { world = r.0; traced = s.traced }, record { shown = shown_for s n; outputs = r.1 })

-- what a line does: the scene that it leaves and what the front gave out, or the rule that it breaks
abbrev pub line_does : Line → Scene → Result (Scene × Given) LineRule
line_does Passed s = Ok (s, nothing)
line_does (Trace on) s = Ok (record { world = s.world; traced = on }, nothing)
line_does (Client n text) s = Ok (client_in s n (client s.world n text))
line_does (Broken rule) s = Err rule

-- the line of that number
unfoldable pub line_step : ℕ → Scene → List ℕ → Result (Scene × Given) LineRule
line_step number s line = line_does (line_of number line) s

-- AS TEXT

abbrev pub given_text : Given → List ℕ
given_text g = outputs_text g.shown g.outputs

-- the scene that is left, and the text so far with the lines of what was given out
abbrev pub spoken : List ℕ → Scene × Given → Scene × List ℕ
spoken text r = (r.0, text ++ given_text r.1)

abbrev pub spoken_onto : List ℕ → Result (Scene × Given) LineRule → Result (Scene × List ℕ) LineRule
spoken_onto text (Ok s) = Ok (spoken text s)
spoken_onto text (Err rule) = Err rule

-- A RUN

-- a line that was played, and what the front gave out in it
pub record Played : Type 0 where
  pub line : List ℕ
  pub given : Given

-- the run that lines name: what was played, the scene at its end, and the first line that breaks a rule, with its number, which ends it
pub record Run : Type 0 where
  pub played : List Played
  pub scene : Scene
  pub refusal : Option (ℕ × LineRule)

abbrev pub after_line : Played → Run → Run
after_line p r = record { played = p ∷ r.played; scene = r.scene; refusal = r.refusal }

abbrev pub by_step : List ℕ → Result (Scene × Given) LineRule → ℕ → Scene → (Scene → Run) → Run
by_step line (Ok s) number scene more = after_line (record { line = line; given = s.1 }) (more s.0)
by_step line (Err rule) number scene more = record { played = []; scene = scene; refusal = Some (number, rule) }

-- the run of these lines, after so many
unfoldable pub run_of : Scene → ℕ → List (List ℕ) → Run
run_of scene number [] = record { played = []; scene = scene; refusal = None }
run_of scene number (line ∷ lines) = by_step line (line_step (number + 1) scene line) (number + 1) scene (λ s. run_of s (number + 1) lines)

-- the run that a schedule names on a configuration
abbrev pub run_of_schedule : View → List ℕ → Run
run_of_schedule catalog schedule = run_of (new_scene catalog) 0 (lines_of schedule)

-- THE TEXT OVER A RUN

-- the text, and the line that ended the run where one broke a rule
pub record Told : Type 0 where
  pub text : List ℕ
  pub refusal : Option (ℕ × LineRule)

abbrev pub played_text : List Played → List ℕ
played_text played = flat_map (λ (p : Played). given_text p.given) played

-- what the schedule's end adds is missing where a line broke a rule
abbrev pub end_of : Option (ℕ × LineRule) → World → List ℕ
end_of None w = end_text w.front.catalog w.stores
end_of (Some refusal) w = []

abbrev pub told : Run → Told
told r = record { text = played_text r.played ++ end_of r.refusal r.scene.world; refusal = r.refusal }

-- with a text before it
abbrev pub with_front : List ℕ → Told → Told
with_front front t = record { text = front ++ t.text; refusal = t.refusal }

-- the transcript of a schedule on a configuration
unfoldable pub transcript : View → List ℕ → Told
transcript catalog schedule = told (run_of (new_scene catalog) 0 (lines_of schedule))
