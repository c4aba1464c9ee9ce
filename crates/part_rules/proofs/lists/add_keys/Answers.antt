use Rattle.std.proofs.Common.{pos, rules, sym, ◌∙◌, w64, SFits, get_or}
use Rattle.std.proofs.lemmas.Int.{to_z-of_z}
use Rattle.part_rules.proofs.ListParts.{HasAdded-there, HasAdded-new}
use Rattle.part_rules.proofs.lists.add_keys.Goals as goal

pub loop-key-preserved-then-contains_key : goal.loop-key-preserved-then-contains_key
loop-key-preserved-then-contains_key c = HasAdded-there c.args.places.now c.loop-key.places c.args.part c.args.keys.now c.loop-key.key-index (pos 0) c.loop-key-test.true c.loop-key.invariant (sym c.contains_key.ensures ∙ c.if-contains_key.true)

pub loop-key-preserved : goal.loop-key-preserved
loop-key-preserved c =
    let key = get_or c.args.keys.now c.loop-key.key-index (pos 0) in
    let fits : SFits w64 key = search rules in
    HasAdded-new c.args.places.now c.loop-key.places c.insert.new.self c.args.part c.args.keys.now c.loop-key.key-index (pos 0) _ c.loop-key-test.true (to_z-of_z w64 key fits) c.loop-key.invariant (sym c.contains_key.ensures ∙ c.if-contains_key.false) c.in_ok-insert.ensures.updates.0
