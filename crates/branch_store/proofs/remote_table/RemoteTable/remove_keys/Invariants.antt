use Rattle.std.proofs.Common.{◌≡◌, drop}
use Rattle.branch_store.specs.Changes.{has_key_in, without}
use Rattle.branch_store.proofs.remote_table.RemoteTable.remove_keys.Given as goal

abbrev pub invariant-loop-key : goal.invariant-loop-key
invariant-loop-key l = record { same : l.self.def ≡ l.fn.self.def; so_far : without (has_key_in l.self.def (drop l.key-index l.keys)) l.self.rows ≡ without (has_key_in l.self.def l.keys) l.fn.self.rows }
