use Rattle.std.proofs.Common.{◌≡◌, ◌++◌, drop, map, codes}
use Rattle.std.specs.List.{flat_map}
use Rattle.std.specs.Fmt.{signed_decimal}
use Rattle.sql_text.proofs.link_printing.push_further_keys.Given as goal

-- what is added so far, and what is left to add, is all
abbrev pub invariant-loop-key : goal.invariant-loop-key
invariant-loop-key l =
    l.out.items ++ flat_map (λ y. codes "," ++ y) (map signed_decimal (drop l.key-index l.keys)) ≡ l.initial.out.items ++ flat_map (λ y. codes "," ++ y) (map signed_decimal l.keys)
