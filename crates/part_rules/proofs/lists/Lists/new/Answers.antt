use Rattle.std.proofs.Common.{◌∙◌}
use Rattle.part_rules.proofs.ListParts.{indexed-more}
use Rattle.part_rules.proofs.lists.Lists.new.Goals as goal

pub loop-part-preserved : goal.loop-part-preserved
loop-part-preserved c = indexed-more c.as_slice-keys-items.result.now c.loop-part.part c.keys-item.result c.as_slice.result.now c.loop-part.places c.add_keys.new.places c.loop-part-test.true (c.as_slice.ensures ∙ c.keys-item.is) c.loop-part.invariant c.in_ok-add_keys.ensures
