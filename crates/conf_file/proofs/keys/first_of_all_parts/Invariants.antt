use Rattle.std.proofs.Common.{◌≡◌, map, drop}
use Rattle.toml.specs.View.{view}
use Rattle.conf_file.specs.Keys.{first_some}
use Rattle.conf_file.specs.Shown.{broken_in_parts}
use Rattle.conf_file.proofs.keys.first_of_all_parts.Given as goal

abbrev pub invariant-loop-value : goal.invariant-loop-value
invariant-loop-value l = first_some (broken_in_parts l.fault) (map view (drop l.value-index l.values)) ≡ first_some (broken_in_parts l.fault) (map view l.values)
