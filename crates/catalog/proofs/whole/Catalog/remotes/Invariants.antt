use Rattle.std.proofs.Common.{◌≡◌, take}
use Rattle.std.specs.List.{flat_map}
use Rattle.catalog.specs.Views.{table_defs}
use Rattle.catalog.proofs.whole.Catalog.remotes.Given as goal

abbrev pub invariant-loop-table : goal.invariant-loop-table
invariant-loop-table l = l.defs ≡ flat_map (table_defs l.server) (take l.table-index l.table-items)
