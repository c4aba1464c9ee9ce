use Rattle.std.proofs.Common.{◌≡◌, drop}
use Rattle.conf_file.specs.Keys.{first_some}
use Rattle.conf_file.specs.Names.{part_fault}
use Rattle.conf_file.proofs.names.check_parts.Given as goal

abbrev pub invariant-loop-part : goal.invariant-loop-part
invariant-loop-part l = first_some part_fault (drop l.part-index l.parts) ≡ first_some part_fault l.parts
