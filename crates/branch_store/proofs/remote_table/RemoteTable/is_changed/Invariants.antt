use Rattle.std.proofs.Common.{◌≡◌, drop}
use Rattle.std.specs.List.{list_any}
use Rattle.branch_store.specs.Changes.{is_of}
use Rattle.branch_store.proofs.remote_table.RemoteTable.is_changed.Given as goal

abbrev pub invariant-loop-change : goal.invariant-loop-change
invariant-loop-change l = list_any (is_of l.self.def) (drop l.change-index l.changes) ≡ list_any (is_of l.self.def) l.changes
