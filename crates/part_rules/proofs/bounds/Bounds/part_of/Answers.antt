use Rattle.std.proofs.Common.{◌≤◌, ◌<◌, rules, not, length, sym}
use Rattle.std.proofs.lemmas.Fn.{always_returns_same}
use Rattle.part_rules.specs.Rules.{is_below}
use Rattle.part_rules.proofs.Positions.{position_of_point, position-here, position-nowhere}
use Rattle.part_rules.proofs.RangeParts.{partitioned}
use Rattle.part_rules.proofs.bounds.Bounds.part_of.Goals as goal

pub returns-then-part-bounds : goal.returns-then-part-bounds
returns-then-part-bounds c =
    let point = rw c.as_slice-bounds.ensures.all at
    (c.partition_point-part.ensures.partitioned (λ b. not (is_below c.args.key.now b)) (always_returns_same _ _ _ (λ a r f k. search rules))
    (rw c.as_slice-bounds.ensures.all (partitioned c.args.key.now c.args.self.now c.as_slice-bounds.ensures.rising))) in
    let within : c.partition_point-part.result ≤ length c.args.self.now = rw c.as_slice-bounds.ensures.all at c.partition_point-part.ensures.bound in
    let before : c.partition_point-part.result < length c.args.self.now = rw c.as_slice-bounds.ensures.all at c.if-part-bounds.true in
    sym (position-here (is_below c.args.key.now) c.args.self.now c.partition_point-part.result
    (position_of_point (is_below c.args.key.now) c.args.self.now c.partition_point-part.result within point) before)

pub returns-else-part-bounds : goal.returns-else-part-bounds
returns-else-part-bounds c =
    let point = rw c.as_slice-bounds.ensures.all at
    (c.partition_point-part.ensures.partitioned (λ b. not (is_below c.args.key.now b)) (always_returns_same _ _ _ (λ a r f k. search rules))
    (rw c.as_slice-bounds.ensures.all (partitioned c.args.key.now c.args.self.now c.as_slice-bounds.ensures.rising))) in
    let within : c.partition_point-part.result ≤ length c.args.self.now = rw c.as_slice-bounds.ensures.all at c.partition_point-part.ensures.bound in
    let past : length c.args.self.now ≤ c.partition_point-part.result = rw c.as_slice-bounds.ensures.all at c.if-part-bounds.false in
    let is_place = position_of_point (is_below c.args.key.now) c.args.self.now c.partition_point-part.result within point in
    sym (position-nowhere (is_below c.args.key.now) c.args.self.now (rw is_place past))
