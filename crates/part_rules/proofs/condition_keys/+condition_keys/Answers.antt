use Rattle.std.proofs.Common.{Bool, not, map, ap, ◌∙◌}
use Rattle.std.specs.List.{list_all, list_any}
use Rattle.sql_values.specs.declared.tree.Cond.{Cond}
use Rattle.sql_values.specs.KeySets.{has_key}
use Rattle.part_rules.specs.Keeps.{keeps}
use Rattle.part_rules.proofs.KeyTests.{keys_alike, keys_same, all_more, all_done, any_done}
use Rattle.part_rules.proofs.condition_keys.+condition_keys.Goals as goal

pub keys_of_all-loop-part-preserved : goal.keys_of_all-loop-part-preserved
keys_of_all-loop-part-preserved t c = λ key fits.
    all_more c.loop-part.left_out.items c.in_ok-gaps.gaps c.extend_from_slice.new.self.items (keeps c.args.table.now key) c.args.parts.now c.loop-part.part-index c.part-item.result key _ c.loop-part-test.true
    (rw c.as_slice.ensures.all at c.in_ok-extend_from_slice.ensures.items)
    (c.in_ok-gaps.ensures key fits ∙ (ap (λ (b : Bool). not b) (c.in_ok-keys_of.ensures key fits) ∙ ap (λ (p : Cond). not (keeps c.args.table.now key p)) c.part-item.is))
    (c.loop-part.invariant key fits)

pub keys_of_all-returns : goal.keys_of_all-returns
keys_of_all-returns t c =
    keys_alike c.complement-3.result (λ key. not (has_key c.in_ok-from_vec.field-0 key)) (λ key. list_all (λ b. b) (map (keeps c.args.table.now key) c.args.parts.now))
    (λ key fits. ap (λ (b : Bool). not b) (c.in_ok-from_vec.ensures key) ∙ all_done c.loop-part.left_out.items (keeps c.args.table.now key) c.args.parts.now c.loop-part.part-index key _ c.loop-part-test.false (c.loop-part.invariant key fits))
    c.complement-3.ensures

pub keys_of_any-returns : goal.keys_of_any-returns
keys_of_any-returns t c =
    keys_same c.from_vec.result c.loop-part.found.items (λ key. list_any (λ b. b) (map (keeps c.args.table.now key) c.args.parts.now))
    (λ key fits. any_done c.loop-part.found.items (keeps c.args.table.now key) c.args.parts.now c.loop-part.part-index key _ c.loop-part-test.false (c.loop-part.invariant key fits))
    c.from_vec.ensures
