use Rattle.std.proofs.Common.{◌≡◌, take}
use Rattle.txn_phases.specs.Deeds.{placed_keys}
use Rattle.txn_phases.proofs.partitions.place_keys.Given as goal

abbrev pub invariant-loop-row : goal.invariant-loop-row
invariant-loop-row l = l.keys.items ≡ placed_keys l.placing l.place (take l.row-index l.rows)
