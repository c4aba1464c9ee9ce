use Rattle.std.proofs.Common.{◌≡◌, ◌-◌}
use Rattle.sql_text.specs.declared.token.Fixed.TheVariants as fixed
use Rattle.sql_text.specs.Reading.{further_at, with_front, aggregate_item_at}
use Rattle.sql_text.proofs.reading.select.further_aggregate_items.Given as goal

-- what is read so far, and what is read of the rest, is all
abbrev pub invariant-loop : goal.invariant-loop
invariant-loop l = with_front l.items.items (further_at (l.most - l.counter) fixed.Comma (aggregate_item_at l.depth) l.rest) ≡ with_front l.initial.items.items (further_at l.most fixed.Comma (aggregate_item_at l.depth) l.tokens)
