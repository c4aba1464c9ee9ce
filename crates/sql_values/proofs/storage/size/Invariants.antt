use Rattle.std.proofs.Common.{◌≡◌, ◌<◌, ◌+◌, ◌^◌, ◌-◌, drop, min, sum_by}
use Rattle.sql_values.specs.Storing.{value_size, row_size}
use Rattle.sql_values.proofs.storage.size.Given as goal

abbrev pub invariant-loop-value : goal.invariant-loop-value
invariant-loop-value l = record {
  in_range : l.total < 2 ^ 64;
  so_far : min (l.total + sum_by value_size (drop l.value-index l.value-items)) (2 ^ 64 - 1) ≡ min (row_size l.row) (2 ^ 64 - 1);
}
