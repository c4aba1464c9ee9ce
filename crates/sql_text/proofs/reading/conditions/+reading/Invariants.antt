use Rattle.std.proofs.Common.{◌≡◌, ◌+◌, ◌-◌, ◌*◌}
use Rattle.sql_text.specs.declared.token.Fixed.TheVariants as fixed
use Rattle.sql_text.specs.Reading.{neg_at, conj_by, further_at, with_front}
use Rattle.sql_text.proofs.reading.conditions.+reading.Given as goal

-- each calls those of lower ranks at its depth, and all of them deeper
abbrev pub decreases-neg : goal.decreases-neg
decreases-neg l = 6 * l.depth

abbrev pub decreases-further_negs : goal.decreases-further_negs
decreases-further_negs l = 6 * l.depth + 1

abbrev pub decreases-conj : goal.decreases-conj
decreases-conj l = 6 * l.depth + 2

abbrev pub decreases-further_conjs : goal.decreases-further_conjs
decreases-further_conjs l = 6 * l.depth + 3

abbrev pub decreases-cond : goal.decreases-cond
decreases-cond l = 6 * l.depth + 4

abbrev pub decreases-closed : goal.decreases-closed
decreases-closed l = 6 * l.depth + 5

-- what is read so far, and what is read of the rest, is all
abbrev pub invariant-further_negs-loop : goal.invariant-further_negs-loop
invariant-further_negs-loop l = with_front l.parts.items (further_at (l.most - l.counter) fixed.And (neg_at l.depth) l.rest) ≡ with_front l.fn.first.items (further_at l.most fixed.And (neg_at l.depth) l.tokens)

abbrev pub invariant-further_conjs-loop : goal.invariant-further_conjs-loop
invariant-further_conjs-loop l = with_front l.parts.items (further_at (l.most - l.counter) fixed.Or (conj_by (neg_at l.depth)) l.rest) ≡ with_front l.fn.first.items (further_at l.most fixed.Or (conj_by (neg_at l.depth)) l.tokens)
