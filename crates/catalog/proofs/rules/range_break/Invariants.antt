use Rattle.std.proofs.Common.{◌≡◌, drop, None}
use Rattle.catalog.specs.Rules.{range_break}
use Rattle.catalog.proofs.rules.range_break.Given as goal

abbrev pub invariant-loop-part : goal.invariant-loop-part
invariant-loop-part l = range_break l.low (drop l.part-index l.parts) ≡ range_break None l.parts
