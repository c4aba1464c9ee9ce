use Rattle.std.proofs.Common.{◌≡◌, ◌++◌, drop, map, codes}
use Rattle.std.specs.List.{flat_map}
use Rattle.sql_text.specs.Printing.{aggregate_item_text}
use Rattle.sql_text.proofs.printing.aggregates.push_further_aggregate_items.Given as goal

-- what is added so far, and what is left to add, is all
abbrev pub invariant-loop-item : goal.invariant-loop-item
invariant-loop-item l =
    l.out.items ++ flat_map (λ y. codes ", " ++ y) (map aggregate_item_text (drop l.item-index l.items)) ≡ l.initial.out.items ++ flat_map (λ y. codes ", " ++ y) (map aggregate_item_text l.items)
