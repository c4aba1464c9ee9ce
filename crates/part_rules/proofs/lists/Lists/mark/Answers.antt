use Rattle.std.proofs.Common.{◌≡◌, ◌<◌, rules, arith, refl, ◌∙◌, w64, SFits, length}
use Rattle.std.specs.Ordering.{int_cmp}
use Rattle.std.specs.declared.ops.Bound.TheVariants.{Included}
use Rattle.std.specs.BTreeMap.Range.{entries_between}
use Rattle.std.proofs.lemmas.Int.{to_z-of_z}
use Rattle.part_rules.proofs.ListMarks.{Listed-none, Listed-more, Marks-listed, entry_within}
use Rattle.part_rules.proofs.lists.Lists.mark.Goals as goal

pub loop-part-init : goal.loop-part-init
loop-part-init c = Listed-none c.args.interval.now c.into_iter-part-iterator.result c.args.marks.now

pub loop-part-preserved : goal.loop-part-preserved
loop-part-preserved c =
    let low : SFits w64 c.args.interval.now.low = search rules in
    let high : SFits w64 c.args.interval.now.high = search rules in
    let between = c.range-part-items.ensures.between (search rules) in
    let is_all : c.into_iter-part-iterator.result ≡ entries_between int_cmp (Included c.args.interval.now.low) (Included c.args.interval.now.high) c.self.inside.places.entries =
    c.into_iter-part-iterator.ensures.into_iter_gives ∙ rw (c.new.ensures.start, c.new.ensures.end, to_z-of_z w64 c.args.interval.now.low low, to_z-of_z w64 c.args.interval.now.high high) at between in
    let within : c.in-Some.part.now < length c.args.self.now = rw c.self.view_is at
    (entry_within c.self.inside.lists c.self.inside.places c.args.interval.now c.into_iter-part-iterator.result c.loop-part.part-iterator c.next.new.self c.args.marks.now c.loop-part.marks (c.in-Some.field-0-0.now, c.in-Some.part.now) c.self.invariant c.range-part-items.ensures.ordered is_all c.loop-part.invariant c.in-Some.ensures.steps) in
    Listed-more c.args.interval.now c.into_iter-part-iterator.result c.loop-part.part-iterator c.next.new.self c.args.marks.now c.loop-part.marks _ (c.in-Some.field-0-0.now, c.in-Some.part.now) c.loop-part.invariant c.in-Some.ensures.steps refl (omega (arith, within))

pub returns : goal.returns
returns c =
    let low : SFits w64 c.args.interval.now.low = search rules in
    let high : SFits w64 c.args.interval.now.high = search rules in
    let between = c.range-part-items.ensures.between (search rules) in
    let is_all : c.into_iter-part-iterator.result ≡ entries_between int_cmp (Included c.args.interval.now.low) (Included c.args.interval.now.high) c.self.inside.places.entries =
    c.into_iter-part-iterator.ensures.into_iter_gives ∙ rw (c.new.ensures.start, c.new.ensures.end, to_z-of_z w64 c.args.interval.now.low low, to_z-of_z w64 c.args.interval.now.high high) at between in
    rw (← c.self.view_is)
    (Marks-listed c.self.inside.lists c.self.inside.places c.args.interval.now c.into_iter-part-iterator.result c.loop-part.part-iterator c.args.marks.now c.loop-part.marks c.self.invariant c.range-part-items.ensures.ordered is_all c.in-None.ensures.steps.0 c.loop-part.invariant)
