use Rattle.std.proofs.Common.{◌≡◌, ◌++◌}
use Rattle.branch_store.proofs.remote_table.RemoteTable.into_rows.Given as goal

abbrev pub invariant-loop-row : goal.invariant-loop-row
invariant-loop-row l = l.rows ++ l.row-iterator ≡ l.fn.self.rows
