use Rattle.std.proofs.Common.{◌≡◌, ◌+◌, ◌<◌, length, drop, min, ◌^◌, ◌-◌}
use Rattle.sql_values.specs.Columns.{columns_meant}
use Rattle.sql_values.proofs.columns.count_meant.Given as goal

abbrev pub invariant-loop-table : goal.invariant-loop-table
invariant-loop-table l = record {
  in_range : l.count < 2 ^ 64;
  counted : min (l.count + length (columns_meant l.name (drop l.table-index l.tables))) (2 ^ 64 - 1) ≡ min (length (columns_meant l.name l.tables)) (2 ^ 64 - 1);
}
