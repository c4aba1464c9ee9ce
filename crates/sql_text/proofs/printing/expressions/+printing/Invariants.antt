use Rattle.std.proofs.Common.{◌≡◌, ◌++◌, drop, map, codes}
use Rattle.sql_text.specs.Printing.{at_level, shown_expr, shown_addend, joined_text, sum_text}
use Rattle.sql_text.proofs.Joined.{behind_text, rest_of_sum}
use Rattle.sql_text.proofs.printing.expressions.+printing.Given as goal

-- what is added so far, and what is left to add, is all
abbrev pub invariant-push_sum-loop-part : goal.invariant-push_sum-loop-part
invariant-push_sum-loop-part l = l.out.items ++ rest_of_sum l.further (map shown_addend (drop l.part-index l.parts)) ≡ l.initial.out.items ++ sum_text (map shown_addend l.parts)

abbrev pub invariant-push_product-loop-part : goal.invariant-push_product-loop-part
invariant-push_product-loop-part l =
    l.out.items ++ behind_text l.before (codes " * ") (map (at_level 0) (map shown_expr (drop l.part-index l.parts)))
    ≡ l.initial.out.items ++ joined_text (codes " * ") (map (at_level 0) (map shown_expr l.parts))
