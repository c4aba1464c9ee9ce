use Rattle.std.proofs.Common.{◌≡◌, drop, []}
use Rattle.std.specs.List.{fold}
use Rattle.branch_store.specs.Store.{add_name}
use Rattle.branch_store.proofs.recovering.names_of.Given as goal

abbrev pub invariant-loop-branch : goal.invariant-loop-branch
invariant-loop-branch l = fold add_name l.names.entries (drop l.branch-index l.branches) ≡ fold add_name [] l.branches
