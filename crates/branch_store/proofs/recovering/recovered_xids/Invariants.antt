use Rattle.std.proofs.Common.{◌≡◌, ◌++◌, map}
use Rattle.branch_store.specs.Store.{recovered, xid_of}
use Rattle.branch_store.proofs.recovering.recovered_xids.Given as goal

abbrev pub invariant-loop-name : goal.invariant-loop-name
invariant-loop-name l = l.xids ++ map xid_of l.name-iterator ≡ recovered l.fn.branches
