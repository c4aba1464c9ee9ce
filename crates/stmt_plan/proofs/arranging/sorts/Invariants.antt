use Rattle.std.proofs.Common.{◌≡◌, [], ◌∷◌, map, take, drop, find}
use Rattle.sql_values.specs.Checks.{is_unknown}
use Rattle.stmt_plan.specs.Selects.{called, sort_of}
use Rattle.stmt_plan.proofs.arranging.sorts.Given as goal

abbrev pub invariant-loop-item : goal.invariant-loop-item
invariant-loop-item l = record {
  sorted : l.sorts ≡ map (sort_of (called l.table l.known)) (take l.item-index l.items);
  found : find (is_unknown (called l.table l.known ∷ [])) (map (λ item. item.column) (drop l.item-index l.items))
      ≡ find (is_unknown (called l.table l.known ∷ [])) (map (λ item. item.column) l.items);
}
