use Rattle.std.proofs.Common.{◌≡◌, drop}
use Rattle.branch_store.specs.Changes.{after}
use Rattle.branch_store.proofs.remote_table.RemoteTable.change_all.Given as goal

abbrev pub invariant-loop-change : goal.invariant-loop-change
invariant-loop-change l = record { same : l.self.def ≡ l.fn.self.def; so_far : after l.self.def (drop l.change-index l.changes) l.self.rows ≡ after l.self.def l.changes l.fn.self.rows }
