use Rattle.std.proofs.Common.{◌≡◌, ◌++◌, map, drop}
use Rattle.std.specs.List.{filter_map}
use Rattle.toml.specs.Data.{as_str}
use Rattle.toml.specs.View.{view}
use Rattle.conf_file.proofs.making.texts_of.Given as goal

abbrev pub invariant-loop-value : goal.invariant-loop-value
invariant-loop-value l = l.texts ++ filter_map as_str (map view (drop l.value-index l.values)) ≡ filter_map as_str (map view l.values)
