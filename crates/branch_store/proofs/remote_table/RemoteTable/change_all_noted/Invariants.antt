use Rattle.std.proofs.Common.{◌≡◌, true, drop}
use Rattle.std.specs.List.{list_all}
use Rattle.branch_store.specs.Changes.{after}
use Rattle.branch_store.specs.Undoing.{is_put, undone}
use Rattle.branch_store.proofs.remote_table.RemoteTable.change_all_noted.Given as goal

abbrev pub invariant-loop-change : goal.invariant-loop-change
invariant-loop-change l = record {
  same : l.self.def ≡ l.fn.self.def;
  so_far : after l.self.def (drop l.change-index l.changes) l.self.rows ≡ after l.self.def l.changes l.fn.self.rows;
  back : undone l.self.def l.self.rows l.log.items ≡ undone l.fn.self.def l.fn.self.rows l.fn.log.items;
  puts : list_all is_put (drop l.change-index l.changes) ≡ true;
}
