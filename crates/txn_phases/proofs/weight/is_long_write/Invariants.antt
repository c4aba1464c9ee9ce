use Rattle.std.proofs.Common.{◌≡◌, ◌<◌, ◌+◌, ◌^◌, drop}
use Rattle.txn_phases.specs.Weights.{capped, total}
use Rattle.txn_phases.proofs.weight.is_long_write.Given as goal

abbrev pub invariant-loop-weight : goal.invariant-loop-weight
invariant-loop-weight l = record {
  rows_fit : l.rows < 2 ^ 64;
  bytes_fit : l.bytes < 2 ^ 64;
  rows : capped (l.rows + total (λ w. w.rows) (drop l.weight-index l.weights) l.server) ≡ capped (total (λ w. w.rows) l.weights l.server);
  bytes : capped (l.bytes + total (λ w. w.bytes) (drop l.weight-index l.weights) l.server) ≡ capped (total (λ w. w.bytes) l.weights l.server);
}
