use Rattle.std.proofs.Common.{rules}
use Rattle.std.proofs.lemmas.Fn.{always_returns_same}
use Rattle.part_rules.specs.Rules.{is_below}
use Rattle.part_rules.proofs.RangeMarks.{partitioned_by_end, behind_found}
use Rattle.part_rules.proofs.pruning.behind.Goals as goal

pub returns-clause-rest : goal.returns-clause-rest
returns-clause-rest c =
    (behind_found c.args.bound.now c.args.keys.now _ c.partition_point-count.result c.requires c.partition_point-count.ensures.bound
    (c.partition_point-count.ensures.partitioned (λ i. is_below i.high c.args.bound.now) (always_returns_same _ _ _ (λ a r f k. search rules)) (partitioned_by_end c.args.bound.now c.args.keys.now c.requires))
    c.split_at.ensures.back).0

pub returns-clause-normal : goal.returns-clause-normal
returns-clause-normal c =
    (behind_found c.args.bound.now c.args.keys.now _ c.partition_point-count.result c.requires c.partition_point-count.ensures.bound
    (c.partition_point-count.ensures.partitioned (λ i. is_below i.high c.args.bound.now) (always_returns_same _ _ _ (λ a r f k. search rules)) (partitioned_by_end c.args.bound.now c.args.keys.now c.requires))
    c.split_at.ensures.back).1
