use Rattle.std.proofs.Common.{rules, ◌&&◌, not}
use Rattle.std.specs.Prelude.{int_le}
use Rattle.std.proofs.lemmas.Map.Made.{filter_same_pairs}
use Rattle.branch_store.proofs.remote_table.cleared.Goals as goal

pub returns : goal.returns
returns c = record {
  left = filter_same_pairs _ (λ e. not (int_le c.args.low.now e.0 && int_le e.0 c.args.high.now)) _ (λ k v b w f' t. search rules) _ _ c.retain.ensures.filtered;
  ordered = c.retain.ensures.ordered;
}
