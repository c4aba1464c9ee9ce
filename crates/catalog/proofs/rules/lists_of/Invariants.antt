use Rattle.std.proofs.Common.{◌≡◌, map, take}
use Rattle.catalog.specs.Rules.{listed}
use Rattle.catalog.proofs.rules.lists_of.Given as goal

abbrev pub invariant-loop-part : goal.invariant-loop-part
invariant-loop-part l = l.lists ≡ map listed (take l.part-index l.parts)
