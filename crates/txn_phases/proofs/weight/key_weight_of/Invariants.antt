use Rattle.std.proofs.Common.{◌≡◌, ◌<◌, ◌+◌, ◌^◌, drop, length}
use Rattle.txn_phases.specs.Deeds.{keys_at}
use Rattle.txn_phases.specs.Weights.{capped}
use Rattle.txn_phases.proofs.weight.key_weight_of.Given as goal

abbrev pub invariant-loop-key : goal.invariant-loop-key
invariant-loop-key l = record {
  fits : l.rows < 2 ^ 64;
  counted : capped (l.rows + length (keys_at (drop l.key-index l.keys) l.target.part)) ≡ capped (length (keys_at l.keys l.target.part));
}
