use Rattle.std.proofs.Common.{◌≡◌, ◌++◌, drop, map, codes}
use Rattle.std.specs.List.{flat_map}
use Rattle.sql_text.specs.Printing.{call_text}
use Rattle.sql_text.proofs.link_printing.push_further_calls.Given as goal

-- what is added so far, and what is left to add, is all
abbrev pub invariant-loop-call : goal.invariant-loop-call
invariant-loop-call l =
    l.out.items ++ flat_map (λ y. codes ", " ++ y) (map call_text (drop l.call-index l.calls)) ≡ l.initial.out.items ++ flat_map (λ y. codes ", " ++ y) (map call_text l.calls)
