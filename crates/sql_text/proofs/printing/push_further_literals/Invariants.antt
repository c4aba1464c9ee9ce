use Rattle.std.proofs.Common.{◌≡◌, ◌++◌, drop, map, codes}
use Rattle.std.specs.List.{flat_map}
use Rattle.sql_text.specs.Printing.{literal_text}
use Rattle.sql_text.proofs.printing.push_further_literals.Given as goal

-- what is added so far, and what is left to add, is all
abbrev pub invariant-loop-literal : goal.invariant-loop-literal
invariant-loop-literal l =
    l.out.items ++ flat_map (λ y. codes "," ++ y) (map literal_text (drop l.literal-index l.literals)) ≡ l.initial.out.items ++ flat_map (λ y. codes "," ++ y) (map literal_text l.literals)
