use Rattle.std.proofs.Common.{◌≡◌, drop}
use Rattle.std.specs.List.{list_any}
use Rattle.branch_store.specs.Changes.{is_called}
use Rattle.branch_store.proofs.opening.is_among.Given as goal

abbrev pub invariant-loop-table : goal.invariant-loop-table
invariant-loop-table l = list_any (is_called l.name) (drop l.table-index l.tables) ≡ list_any (is_called l.name) l.tables
