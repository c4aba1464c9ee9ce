use Rattle.std.proofs.Common.{◌≡◌, ◌++◌, drop, map, codes}
use Rattle.std.specs.List.{flat_map}
use Rattle.sql_text.specs.Printing.{name_text}
use Rattle.sql_text.proofs.printing.push_further_names.Given as goal

-- what is added so far, and what is left to add, is all
abbrev pub invariant-loop-name : goal.invariant-loop-name
invariant-loop-name l =
    l.out.items ++ flat_map (λ y. codes ", " ++ y) (map name_text (drop l.name-index l.names)) ≡ l.initial.out.items ++ flat_map (λ y. codes ", " ++ y) (map name_text l.names)
