use Rattle.std.proofs.Common.{◌≡◌, drop}
use Rattle.std.specs.List.{list_all}
use Rattle.branch_store.specs.Opening.{is_definition}
use Rattle.branch_store.proofs.opening.all_are_definitions.Given as goal

abbrev pub invariant-loop-table : goal.invariant-loop-table
invariant-loop-table l = list_all is_definition (drop l.table-index l.tables) ≡ list_all is_definition l.tables
