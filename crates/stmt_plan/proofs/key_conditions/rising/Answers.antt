use Rattle.std.proofs.lemmas.List.Filters.{dedup_is}
use Rattle.stmt_plan.proofs.KeyOrder.{AreRising-sorted}
use Rattle.stmt_plan.proofs.key_conditions.rising.Goals as goal

pub returns : goal.returns
returns c =
    AreRising-sorted c.args.keys.items _ _ c.in_ok-sort.ensures.permutation c.in_ok-sort.ensures.sorted (dedup_is _ _ _ c.dedup.ensures.filtered)
