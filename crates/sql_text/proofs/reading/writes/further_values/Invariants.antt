use Rattle.std.proofs.Common.{◌≡◌, ◌-◌}
use Rattle.sql_text.specs.declared.token.Fixed.TheVariants as fixed
use Rattle.sql_text.specs.Reading.{further_at, with_front, one_at}
use Rattle.sql_text.specs.LinkGrammar.{value_of}
use Rattle.sql_text.proofs.reading.writes.further_values.Given as goal

-- what is read so far, and what is read of the rest, is all
abbrev pub invariant-loop : goal.invariant-loop
invariant-loop l = with_front l.values.items (further_at (l.most - l.counter) fixed.Comma (one_at value_of) l.rest) ≡ with_front l.initial.values.items (further_at l.most fixed.Comma (one_at value_of) l.tokens)
