use Rattle.std.proofs.Common.{◌≡◌, ◌≤◌, ◌++◌, ◌-◌, take, drop, length}
use Rattle.std.specs.List.{filter}
use Rattle.sql_values.specs.KeySets.{IsNormal}
use Rattle.plain_tables.specs.Rows.{kept}
use Rattle.branch_store.specs.Scanning.{lies_among}
use Rattle.branch_store.proofs.remote_table.RemoteTable.first_among.Given as goal

abbrev pub invariant-loop-interval : goal.invariant-loop-interval
invariant-loop-interval l = record {
  few : length l.rows ≤ l.most;
  normal : IsNormal (drop l.interval-index l.keys);
  so_far : l.rows ++ take (l.most - length l.rows) (kept l.self.def l.cond (filter (lies_among l.self.def (drop l.interval-index l.keys)) l.self.rows)) ≡ take l.most (kept l.self.def l.cond (filter (lies_among l.self.def l.keys) l.self.rows));
}
