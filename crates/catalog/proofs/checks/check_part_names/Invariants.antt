use Rattle.std.proofs.Common.{◌≡◌, drop}
use Rattle.catalog.specs.Searches.{first}
use Rattle.catalog.specs.Broken.{bad_part_name}
use Rattle.catalog.proofs.checks.check_part_names.Given as goal

abbrev pub invariant-loop-part : goal.invariant-loop-part
invariant-loop-part l = first bad_part_name (drop l.part-index l.parts) ≡ first bad_part_name l.parts
