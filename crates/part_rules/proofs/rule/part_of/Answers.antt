use Rattle.std.proofs.Common.{rules, refl, ◌∙◌, w64, SFits}
use Rattle.std.proofs.lemmas.Int.{to_z-of_z}
use Rattle.part_rules.proofs.rule.part_of.Goals as goal

pub returns-in-Range : goal.returns-in-Range
returns-in-Range c =
    let fits : SFits w64 c.args.key = search rules in
    c.part_of.ensures ∙ rw (to_z-of_z w64 c.args.key fits, c.in-Range.is) refl

pub returns-in-List : goal.returns-in-List
returns-in-List c =
    let fits : SFits w64 c.args.key = search rules in
    c.part_of-in-List.ensures ∙ rw (to_z-of_z w64 c.args.key fits, c.in-List.is) refl
