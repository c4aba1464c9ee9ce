use Rattle.std.proofs.Common.{◌≡◌, ◌++◌, take}
use Rattle.std.specs.List.{flat_map}
use Rattle.catalog.specs.Shared.{part_remotes}
use Rattle.catalog.proofs.shared.add_table.Given as goal

abbrev pub invariant-loop-part : goal.invariant-loop-part
invariant-loop-part l = l.remotes.items ≡ l.initial.remotes.items ++ flat_map part_remotes (take l.part-index l.part-items)
