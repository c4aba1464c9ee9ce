use Rattle.std.proofs.Common.{◌≡◌}
use Rattle.branch_store.specs.Opening.{empty_tables}
use Rattle.branch_store.proofs.books.Books.new.Given as goal

abbrev pub invariant-loop-def : goal.invariant-loop-def
invariant-loop-def l = l.list.items ≡ empty_tables l.yielded
