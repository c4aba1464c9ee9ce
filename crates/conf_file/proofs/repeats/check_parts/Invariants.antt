use Rattle.std.proofs.Common.{◌≡◌, drop}
use Rattle.conf_file.specs.Keys.{first_some}
use Rattle.conf_file.specs.Names.{taken_in_parts}
use Rattle.conf_file.proofs.repeats.check_parts.Given as goal

abbrev pub invariant-loop-table : goal.invariant-loop-table
invariant-loop-table l = first_some taken_in_parts (drop l.table-index l.tables) ≡ first_some taken_in_parts l.tables
