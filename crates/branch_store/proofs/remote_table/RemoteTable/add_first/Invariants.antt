use Rattle.std.proofs.Common.{◌≡◌, ◌≤◌, ◌++◌, ◌-◌, take, length}
use Rattle.std.specs.Map.{values_of}
use Rattle.plain_tables.specs.Rows.{kept}
use Rattle.branch_store.proofs.remote_table.RemoteTable.add_first.Given as goal

abbrev pub invariant-loop-row : goal.invariant-loop-row
invariant-loop-row l = record {
  few : length l.rows ≤ l.most;
  so_far : l.rows ++ take (l.most - length l.rows) (kept l.self.def l.cond (values_of l.row-iterator)) ≡ l.fn.rows ++ take (l.most - length l.fn.rows) (kept l.self.def l.cond (values_of l.initial.row-iterator));
}
