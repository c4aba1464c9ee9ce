use Rattle.std.proofs.Common.{◌≡◌, ◌++◌, drop, map, codes}
use Rattle.std.specs.List.{flat_map}
use Rattle.sql_text.specs.Printing.{sort_text}
use Rattle.sql_text.proofs.printing.orders.push_further_sorts.Given as goal

-- what is added so far, and what is left to add, is all
abbrev pub invariant-loop-sort : goal.invariant-loop-sort
invariant-loop-sort l =
    l.out.items ++ flat_map (λ y. codes ", " ++ y) (map sort_text (drop l.sort-index l.sorts)) ≡ l.initial.out.items ++ flat_map (λ y. codes ", " ++ y) (map sort_text l.sorts)
