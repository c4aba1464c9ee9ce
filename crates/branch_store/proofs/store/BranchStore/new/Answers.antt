use Rattle.std.proofs.Common.{sym, subst}
use Rattle.branch_store.specs.Sound.{IsSound}
use Rattle.branch_store.proofs.Sounds.{empty_sound}
use Rattle.branch_store.proofs.store.BranchStore.new.Goals as goal

pub invariant_of-result : goal.invariant_of-result
invariant_of-result c = subst IsSound (sym c.in_ok-books.ensures) (empty_sound c.args.tables c.requires)
