use Rattle.std.proofs.Common.{rules}
use Rattle.std.proofs.lemmas.Fn.{filter_same, always_returns_same}
use Rattle.sql_values.proofs.Ascending.{is_filled, IsAscending-sorted, has_key-sorted}
use Rattle.sql_values.proofs.merging.ascending.Goals as goal

pub returns-clause-ascending : goal.returns-clause-ascending
returns-clause-ascending c =
    IsAscending-sorted c.args.list.items _ _
    (filter_same _ is_filled _ (λ x b f k. search rules) _ _ c.retain.ensures.filtered)
    c.in_ok-sort_by_key.ensures.permutation
    (c.in_ok-sort_by_key.ensures.sorted (λ i. i.low) (always_returns_same _ _ _ (λ a r f k. search rules)))

pub returns-clause-keys : goal.returns-clause-keys
returns-clause-keys c = λ key.
    has_key-sorted c.args.list.items _ _ key
    (filter_same _ is_filled _ (λ x b f k. search rules) _ _ c.retain.ensures.filtered)
    c.in_ok-sort_by_key.ensures.permutation
