use Rattle.std.proofs.Common.{◌≡◌, ◌+◌, ◌-◌, ◌*◌}
use Rattle.sql_text.specs.declared.token.Fixed.TheVariants as fixed
use Rattle.sql_text.specs.Grammar.{sign_of}
use Rattle.sql_text.specs.Reading.{stands, factor_at, addend_by, further_at, many_at, with_front}
use Rattle.sql_text.proofs.reading.expressions.+reading.Given as goal

-- each calls those of lower ranks at its depth, and all of them deeper
abbrev pub decreases-factor : goal.decreases-factor
decreases-factor l = 8 * l.depth

abbrev pub decreases-further_factors : goal.decreases-further_factors
decreases-further_factors l = 8 * l.depth + 1

abbrev pub decreases-term : goal.decreases-term
decreases-term l = 8 * l.depth + 2

abbrev pub decreases-addend : goal.decreases-addend
decreases-addend l = 8 * l.depth + 3

abbrev pub decreases-further_addends : goal.decreases-further_addends
decreases-further_addends l = 8 * l.depth + 4

abbrev pub decreases-sum : goal.decreases-sum
decreases-sum l = 8 * l.depth + 5

abbrev pub decreases-expr : goal.decreases-expr
decreases-expr l = 8 * l.depth + 6

abbrev pub decreases-closed : goal.decreases-closed
decreases-closed l = 8 * l.depth + 7

-- what is read so far, and what is read of the rest, is all
abbrev pub invariant-further_factors-loop : goal.invariant-further_factors-loop
invariant-further_factors-loop l = with_front l.factors.items (further_at (l.most - l.counter) fixed.Star (factor_at l.depth) l.rest) ≡ with_front l.fn.first.items (further_at l.most fixed.Star (factor_at l.depth) l.tokens)

abbrev pub invariant-further_addends-loop : goal.invariant-further_addends-loop
invariant-further_addends-loop l =
    with_front l.parts.items (many_at (l.most - l.counter) (stands sign_of) (addend_by (factor_at l.depth)) l.rest) ≡ with_front l.fn.first.items (many_at l.most (stands sign_of) (addend_by (factor_at l.depth)) l.tokens)
