use Rattle.std.proofs.Common.{◌≡◌, ◌<◌, ◌+◌, ◌^◌, drop, length, sum_by}
use Rattle.sql_values.specs.Storing.{row_size}
use Rattle.txn_phases.specs.declared.deed.PlacedRow.{PlacedRow}
use Rattle.txn_phases.specs.Deeds.{news_at, rows_at, bytes_at}
use Rattle.txn_phases.specs.Weights.{capped}
use Rattle.txn_phases.proofs.weight.weight_of.Given as goal

abbrev pub invariant-loop-new : goal.invariant-loop-new
invariant-loop-new l = record {
  rows_fit : l.rows < 2 ^ 64;
  bytes_fit : l.bytes < 2 ^ 64;
  rows : capped (l.rows + length (news_at (drop l.new-index l.news) l.target.part)) ≡ capped (rows_at l.news l.target);
  bytes : capped (l.bytes + sum_by (λ (new : PlacedRow). row_size new.row) (news_at (drop l.new-index l.news) l.target.part)) ≡ capped (bytes_at l.news l.target);
}
