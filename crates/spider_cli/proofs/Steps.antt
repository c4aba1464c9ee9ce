-- What a line does, as the code reads it.
use Rattle.std.proofs.Common.{◌≡◌, ℕ, List, Bool, Ok, Err, sym, ap, ◌∙◌}
use Rattle.std.proofs.lemmas.List.{append-nil}
use Rattle.world_runs.specs.declared.schedule.LineRule.{LineRule}
use Rattle.world_runs.specs.Run.{Scene, line_does, line_step, spoken_onto}
use Rattle.world_runs.specs.Schedule as spec
use Rattle.world_runs.specs.World.{World, client}
use Rattle.spider_cli.specs.Shown.{style_of, told_as}

does : (number : ℕ) (s : Scene) (line : List ℕ) (l : spec.Line) → l ≡ spec.line_of number line → line_step number s line ≡ line_does l s
unfolding line_step
does number s line l e = ap (λ x. line_does x s) (sym e)

pub passed : (number : ℕ) (s : Scene) (line text : List ℕ) → spec.Passed ≡ spec.line_of number line → spoken_onto text (line_step number s line) ≡ Ok (s, text)
passed number s line text e = ap (spoken_onto text) (does number s line spec.Passed e) ∙ ap (λ t. Ok (s, t)) (append-nil text)

pub traces : (number : ℕ) (s : Scene) (line text : List ℕ) (on : Bool) → spec.Trace on ≡ spec.line_of number line
    → spoken_onto text (line_step number s line) ≡ Ok (record { world = s.world; traced = on }, text)
traces number s line text on e = ap (spoken_onto text) (does number s line (spec.Trace on) e) ∙ ap (λ t. Ok (record { world = s.world; traced = on }, t)) (append-nil text)

pub sends : (number n : ℕ) (s : Scene) (line statement text all : List ℕ) (new : World) → spec.Client n statement ≡ spec.line_of number line
    → (new, all) ≡ told_as (style_of s.world s.traced n) text (client s.world n statement)
    → spoken_onto text (line_step number s line) ≡ Ok (record { world = new; traced = s.traced }, all)
sends number n s line statement text all new e told =
    ap (spoken_onto text) (does number s line (spec.Client n statement) e) ∙ ap (λ (p : World × List ℕ). Ok (record { world = p.0; traced = s.traced }, p.1)) (sym told)

pub breaks : (number : ℕ) (s : Scene) (line : List ℕ) (broken rule : LineRule) → spec.Broken broken ≡ spec.line_of number line → broken ≡ rule → line_step number s line ≡ Err rule
breaks number s line broken rule e same = does number s line (spec.Broken broken) e ∙ ap Err same
