use Rattle.std.proofs.Common.{◌≡◌, length}
use Rattle.branch_store.specs.Undoing.{undone}
use Rattle.branch_store.proofs.remote_table.RemoteTable.undo.Given as goal

abbrev pub invariant-loop-before : goal.invariant-loop-before
invariant-loop-before l = record { same : l.self.def ≡ l.fn.self.def; so_far : undone l.self.def l.self.rows l.log.items ≡ undone l.self.def l.fn.self.rows l.initial.log.items }

abbrev pub decreases-loop-before : goal.decreases-loop-before
decreases-loop-before l = length l.log.items
