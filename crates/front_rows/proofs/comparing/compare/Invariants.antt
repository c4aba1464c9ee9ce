use Rattle.std.proofs.Common.{◌≡◌, drop}
use Rattle.front_rows.specs.Comparing.{rows_cmp}
use Rattle.front_rows.proofs.comparing.compare.Given as goal

abbrev pub invariant-loop-sort : goal.invariant-loop-sort
invariant-loop-sort l = rows_cmp (drop l.sort-index l.order) l.left l.right ≡ rows_cmp l.order l.left l.right
