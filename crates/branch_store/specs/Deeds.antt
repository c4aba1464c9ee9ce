-- What is done with a branch as a whole, as the code names it.
use Rattle.std.specs.Prelude.{ℕ, Bool}
use Rattle.branch_store.specs.declared.branch.Branch.{Branch}
use Rattle.branch_store.specs.declared.branches.Deed.{Deed}
use Rattle.branch_store.specs.declared.branches.Deed.TheVariants.{End, Prepare, Commit, Rollback}
use Rattle.branch_store.specs.Faults.{may_end, may_prepare, may_commit, may_roll_back}

-- it may be done with the branch on the connection
abbrev pub may_do : Deed → ℕ → Branch → Bool
may_do End conn branch = may_end conn branch
may_do Prepare conn branch = may_prepare conn branch
may_do Commit conn branch = may_commit branch
may_do Rollback conn branch = may_roll_back conn branch
