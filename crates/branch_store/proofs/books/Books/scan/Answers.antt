use Rattle.std.proofs.Common.{List, sym, subst}
use Rattle.branch_store.specs.declared.branch.Change.{Change}
use Rattle.branch_store.specs.Scanning.{AreOfTable}
use Rattle.branch_store.proofs.Sounds.{works_on_table}
use Rattle.branch_store.proofs.books.Books.scan.Goals as goal

pub answer-requires-clause-table : goal.answer-requires-clause-table
answer-requires-clause-table c =
    subst (λ (l : List Change). AreOfTable l c.in-Ok.work.table.now) (sym c.as_slice.ensures) (works_on_table c.args.self.now c.args.conn c.args.scan.now.table c.in-Ok.work.changes.now c.in-Ok.work.table.now c.requires (rw c.in-Ok.is at c.in_ok-work.ensures))
