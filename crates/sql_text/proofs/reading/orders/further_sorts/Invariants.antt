use Rattle.std.proofs.Common.{◌≡◌, ◌-◌}
use Rattle.sql_text.specs.declared.token.Fixed.TheVariants as fixed
use Rattle.sql_text.specs.Reading.{further_at, with_front, sort_at}
use Rattle.sql_text.proofs.reading.orders.further_sorts.Given as goal

-- what is read so far, and what is read of the rest, is all
abbrev pub invariant-loop : goal.invariant-loop
invariant-loop l = with_front l.sorts.items (further_at (l.most - l.counter) fixed.Comma sort_at l.rest) ≡ with_front l.initial.sorts.items (further_at l.most fixed.Comma sort_at l.tokens)
