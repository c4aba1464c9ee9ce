use Rattle.std.proofs.Common.{◌≡◌, drop}
use Rattle.part_rules.specs.Rules.{rises_above, rises as rising}
use Rattle.part_rules.proofs.bounds.rises.Given as goal

abbrev pub invariant-loop-bound : goal.invariant-loop-bound
invariant-loop-bound l = rises_above l.low (drop l.bound-index l.others) ≡ rising l.bounds
