use Rattle.std.proofs.Common.{◌≡◌, drop}
use Rattle.branch_store.proofs.Viewing.{views}
use Rattle.branch_store.proofs.books.Books.view_of.Given as goal

abbrev pub invariant-loop-xid : goal.invariant-loop-xid
invariant-loop-xid l = record {
  same : l.seen.def ≡ l.fn.table.def;
  so_far : views l.self.branches l.seen.def l.seen.rows (drop l.xid-index l.xids) ≡ views l.self.branches l.seen.def l.fn.table.rows l.xids;
}
