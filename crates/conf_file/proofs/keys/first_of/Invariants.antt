use Rattle.std.proofs.Common.{◌≡◌, map, drop}
use Rattle.std.specs.List.{filter_map}
use Rattle.toml.specs.Data.{as_table}
use Rattle.toml.specs.View.{view}
use Rattle.conf_file.specs.Keys.{first_some, broken_in, as_entries}
use Rattle.conf_file.proofs.keys.first_of.Given as goal

abbrev pub invariant-loop-value : goal.invariant-loop-value
invariant-loop-value l =
    first_some (broken_in l.fault) (as_entries l.section (filter_map as_table (map view (drop l.value-index l.values))))
    ≡ first_some (broken_in l.fault) (as_entries l.section (filter_map as_table (map view l.values)))
