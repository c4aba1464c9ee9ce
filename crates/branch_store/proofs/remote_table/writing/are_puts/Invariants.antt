use Rattle.std.proofs.Common.{◌≡◌, drop}
use Rattle.std.specs.List.{list_all}
use Rattle.branch_store.specs.Undoing.{is_put}
use Rattle.branch_store.proofs.remote_table.writing.are_puts.Given as goal

abbrev pub invariant-loop-change : goal.invariant-loop-change
invariant-loop-change l = list_all is_put (drop l.change-index l.changes) ≡ list_all is_put l.changes
