use Rattle.std.proofs.Common.{◌≡◌, drop}
use Rattle.plain_tables.specs.Inserts.{put_all}
use Rattle.branch_store.specs.Undoing.{undone}
use Rattle.branch_store.proofs.remote_table.RemoteTable.put_all_noted.Given as goal

abbrev pub invariant-loop-row : goal.invariant-loop-row
invariant-loop-row l = record {
  same : l.self.def ≡ l.fn.self.def;
  so_far : put_all l.self.def l.self.rows (drop l.row-index l.rows) ≡ put_all l.self.def l.fn.self.rows l.rows;
  back : undone l.self.def l.self.rows l.log.items ≡ undone l.fn.self.def l.fn.self.rows l.fn.log.items;
}
