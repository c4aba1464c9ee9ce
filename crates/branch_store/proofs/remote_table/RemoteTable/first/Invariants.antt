use Rattle.std.proofs.Common.{◌≡◌, ◌≤◌, ◌++◌, ◌-◌, take, length}
use Rattle.plain_tables.specs.Rows.{kept}
use Rattle.branch_store.proofs.remote_table.RemoteTable.first.Given as goal

abbrev pub invariant-loop-row : goal.invariant-loop-row
invariant-loop-row l = record { few : length l.rows ≤ l.most; so_far : l.rows ++ take (l.most - length l.rows) (kept l.self.def l.cond l.row-iterator) ≡ take l.most (kept l.self.def l.cond l.self.rows) }
