use Rattle.std.proofs.Common.{◌≡◌, map, take}
use Rattle.stmt_plan.specs.Selects.{unqualified}
use Rattle.stmt_plan.proofs.unqualified.+unqualifying.Given as goal

abbrev pub invariant-unqualified_parts-loop-part : goal.invariant-unqualified_parts-loop-part
invariant-unqualified_parts-loop-part l = l.copies ≡ map unqualified (take l.part-index l.parts)
