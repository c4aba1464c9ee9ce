use Rattle.std.proofs.Common.{◌≡◌, true, drop}
use Rattle.std.specs.List.{list_all}
use Rattle.front_rows.specs.Aggregates.{plus}
use Rattle.branch_store.specs.Counting.{IsSumOf, has_number, option_literal}
use Rattle.branch_store.proofs.Aggregated.{SoFar}
use Rattle.branch_store.proofs.counting.sum.Given as goal

abbrev pub invariant-loop-row : goal.invariant-loop-row
invariant-loop-row l = record {
  so_far : SoFar plus l.column (drop l.row-index l.rows) (option_literal l.total) l.rows;
  numbers : list_all (has_number l.column) (drop l.row-index l.rows) ≡ true;
  bounds : IsSumOf l.row-index (option_literal l.total);
}
