use Rattle.std.proofs.Common.{◌≡◌, drop}
use Rattle.catalog.specs.Rules.{list_break}
use Rattle.catalog.proofs.rules.list_break.Given as goal

abbrev pub invariant-loop-i : goal.invariant-loop-i
invariant-loop-i l = list_break l.lists l.i (drop l.i l.parts) ≡ list_break l.lists 0 l.parts
