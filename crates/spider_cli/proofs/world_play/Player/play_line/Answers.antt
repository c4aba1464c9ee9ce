use Rattle.std.proofs.Common.{◌≡◌, ◌+◌, ◌∙◌, ap, sym, Err, Some}
use Rattle.world_runs.specs.Run.{line_step, spoken_onto}
use Rattle.spider_cli.specs.Shown.{scene_of}
use Rattle.spider_cli.proofs.Telling.{Stepped, stepped, stepped_told, broken_told, same_refusal, few}
use Rattle.spider_cli.proofs.world_play.Player.play_line.Goals as goal

-- the world's step, of the line that the player holds
played : (c : goal.After-self-1) → Stepped (c.args.self.now.number + 1) (scene_of c.args.self.now.stage) c.args.self.now.line.items c.args.text.now.items (scene_of c.step.new.self) c.step.new.text.items
played c =
    let self = c.args.self.now in
    stepped (self.number + 1) (scene_of self.stage) (scene_of c.step.new.self) self.line.items c.args.text.now.items c.step.new.text.items
    (ap (λ line. spoken_onto c.args.text.now.items (line_step (self.number + 1) (scene_of self.stage) line)) (sym c.as_slice.ensures.value) ∙ c.in-Ok.ensures.step)

pub returns-in-Ok-clause-ready : goal.returns-in-Ok-clause-ready
returns-in-Ok-clause-ready c =
    let self = c.args.self.now in
    let s = played c in
    record {
      no_end = c.requires.no_end;
      counted = few (self.number + 1) (scene_of self.stage) self.line.items _ s.step;
    }

pub returns-in-Ok-clause-told : goal.returns-in-Ok-clause-told
returns-in-Ok-clause-told c lines =
    let self = c.args.self.now in
    stepped_told (scene_of self.stage) (scene_of c.step.new.self) self.number self.line.items c.args.text.now.items c.step.new.text.items lines (played c)

pub returns-in-Err-Broken-clause-refused : goal.returns-in-Err-Broken-clause-refused
returns-in-Err-Broken-clause-refused c line rule e lines =
    let self = c.args.self.now in
    let l : self.number + 1 ≡ line = cc in
    let r : c.in-Err-Broken.rule ≡ rule = cc in
    let is = c.in-Err-Broken.is ∙ ap Err c.in-Err-Broken.field-0-is in
    let broken = ap (line_step (self.number + 1) (scene_of self.stage)) (sym c.as_slice.ensures.value) ∙ c.step.ensures.broken c.in-Err-Broken.rule is in
    ap (λ text. record { text = text; refusal = Some (line, rule) }) (c.step.ensures.silent c.in-Err-Broken.rule is)
    ∙ same_refusal c.args.text.now.items (self.number + 1) line c.in-Err-Broken.rule rule _ l r
    (broken_told (scene_of self.stage) self.number self.line.items c.args.text.now.items c.in-Err-Broken.rule lines broken)
