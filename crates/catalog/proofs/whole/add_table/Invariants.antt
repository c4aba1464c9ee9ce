use Rattle.std.proofs.Common.{◌≡◌, ◌++◌, take}
use Rattle.std.specs.List.{flat_map}
use Rattle.catalog.specs.Views.{part_defs}
use Rattle.catalog.proofs.whole.add_table.Given as goal

abbrev pub invariant-loop-part : goal.invariant-loop-part
invariant-loop-part l = l.defs ≡ l.initial.defs ++ flat_map (part_defs l.server l.table.def) (take l.part-index l.part-items)
