use Rattle.std.proofs.Common.{◌≡◌, ◌++◌, map, drop}
use Rattle.std.specs.List.{filter_map}
use Rattle.toml.specs.Data.{as_table}
use Rattle.toml.specs.View.{view}
use Rattle.conf_file.proofs.making.read_all.Given as goal

abbrev pub invariant-loop-value : goal.invariant-loop-value
invariant-loop-value g l =
    l.entries ++ map g.T.Entry.entry_of (filter_map as_table (map view (drop l.value-index l.values))) ≡ map g.T.Entry.entry_of (filter_map as_table (map view l.values))
