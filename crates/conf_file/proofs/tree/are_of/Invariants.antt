use Rattle.std.proofs.Common.{◌≡◌, map, drop}
use Rattle.std.specs.List.{list_all}
use Rattle.toml.specs.View.{view}
use Rattle.conf_file.specs.Trees.{is_of}
use Rattle.conf_file.proofs.tree.are_of.Given as goal

abbrev pub invariant-loop-value : goal.invariant-loop-value
invariant-loop-value l = list_all (is_of l.item) (map view (drop l.value-index l.values)) ≡ list_all (is_of l.item) (map view l.values)
