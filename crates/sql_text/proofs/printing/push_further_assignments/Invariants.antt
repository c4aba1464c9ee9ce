use Rattle.std.proofs.Common.{◌≡◌, ◌++◌, drop, map, codes}
use Rattle.std.specs.List.{flat_map}
use Rattle.sql_text.specs.Printing.{assignment_text}
use Rattle.sql_text.proofs.printing.push_further_assignments.Given as goal

-- what is added so far, and what is left to add, is all
abbrev pub invariant-loop-assignment : goal.invariant-loop-assignment
invariant-loop-assignment l =
    l.out.items ++ flat_map (λ y. codes ", " ++ y) (map assignment_text (drop l.assignment-index l.assignments)) ≡ l.initial.out.items ++ flat_map (λ y. codes ", " ++ y) (map assignment_text l.assignments)
