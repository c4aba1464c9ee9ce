use Rattle.std.proofs.Common.{◌≡◌, map, take}
use Rattle.stmt_plan.specs.Inserts.{row_key}
use Rattle.stmt_plan.proofs.key_conditions.keys_of_rows.Given as goal

abbrev pub invariant-loop-row : goal.invariant-loop-row
invariant-loop-row l = l.keys.items ≡ map (row_key l.key) (take l.row-index l.rows)
