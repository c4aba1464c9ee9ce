use Rattle.std.proofs.Common.{◌≡◌, drop}
use Rattle.catalog.specs.Rules.{bound_of}
use Rattle.catalog.specs.Searches.{each, in_front}
use Rattle.catalog.proofs.rules.bounds_of.Given as goal

abbrev pub invariant-loop-part : goal.invariant-loop-part
invariant-loop-part l = in_front l.bounds (each bound_of (drop l.part-index l.parts)) ≡ each bound_of l.parts
