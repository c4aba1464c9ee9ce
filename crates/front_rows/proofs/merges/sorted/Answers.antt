use Rattle.std.proofs.Common.{rules}
use Rattle.std.proofs.lemmas.Fn.{always_returns_same}
use Rattle.front_rows.specs.Comparing.{before}
use Rattle.front_rows.proofs.Orders.{before_ranks}
use Rattle.front_rows.proofs.merges.sorted.Goals as goal

pub returns : goal.returns
returns c = record {
  same_rows = c.in_ok-sort_by.ensures.permutation;
  sorted_by = c.in_ok-sort_by.ensures.sorted (before c.args.order.now) (before_ranks c.args.order.now) (always_returns_same _ _ _ (λ a r f k. search rules));
  stable = c.in_ok-sort_by.ensures.stable (before c.args.order.now) (before_ranks c.args.order.now) (always_returns_same _ _ _ (λ a r f k. search rules));
}
