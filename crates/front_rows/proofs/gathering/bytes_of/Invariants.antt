use Rattle.std.proofs.Common.{◌≡◌, ◌-◌, ◌^◌, min, take, sum_by}
use Rattle.sql_values.specs.Storing.{row_size}
use Rattle.front_rows.proofs.gathering.bytes_of.Given as goal

abbrev pub invariant-loop-row : goal.invariant-loop-row
invariant-loop-row l = l.total ≡ min (sum_by row_size (take l.row-index l.rows)) (2 ^ 64 - 1)
