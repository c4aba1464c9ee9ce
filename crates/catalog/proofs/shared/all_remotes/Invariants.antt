use Rattle.std.proofs.Common.{◌≡◌, take}
use Rattle.std.specs.List.{flat_map}
use Rattle.catalog.specs.Shared.{table_remotes}
use Rattle.catalog.proofs.shared.all_remotes.Given as goal

abbrev pub invariant-loop-table : goal.invariant-loop-table
invariant-loop-table l = l.remotes.items ≡ flat_map table_remotes (take l.table-index l.tables)
