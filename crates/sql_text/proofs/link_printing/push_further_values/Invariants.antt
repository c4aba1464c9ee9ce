use Rattle.std.proofs.Common.{◌≡◌, ◌++◌, drop, map, codes}
use Rattle.std.specs.List.{flat_map}
use Rattle.sql_text.specs.LinkPrinting.{value_text}
use Rattle.sql_text.proofs.link_printing.push_further_values.Given as goal

-- what is added so far, and what is left to add, is all
abbrev pub invariant-loop-value : goal.invariant-loop-value
invariant-loop-value l =
    l.out.items ++ flat_map (λ y. codes "," ++ y) (map value_text (drop l.value-index l.values)) ≡ l.initial.out.items ++ flat_map (λ y. codes "," ++ y) (map value_text l.values)
