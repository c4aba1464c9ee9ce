use Rattle.std.proofs.Common.{◌≡◌, ◌++◌, drop, map, codes}
use Rattle.std.specs.List.{flat_map}
use Rattle.sql_text.specs.LinkPrinting.{row_text}
use Rattle.sql_text.proofs.link_printing.push_further_rows.Given as goal

-- what is added so far, and what is left to add, is all
abbrev pub invariant-loop-row : goal.invariant-loop-row
invariant-loop-row l =
    l.out.items ++ flat_map (λ y. codes "," ++ y) (map row_text (drop l.row-index l.rows)) ≡ l.initial.out.items ++ flat_map (λ y. codes "," ++ y) (map row_text l.rows)
