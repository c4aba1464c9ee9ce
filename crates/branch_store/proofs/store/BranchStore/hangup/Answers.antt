use Rattle.std.proofs.Common.{sym, subst}
use Rattle.branch_store.specs.Sound.{IsSound}
use Rattle.branch_store.proofs.Sounds.{hangups_keep_rows}
use Rattle.branch_store.proofs.store.BranchStore.hangup.Goals as goal

pub invariant_of-self : goal.invariant_of-self
invariant_of-self c = subst IsSound (sym c.hangup.ensures) (hangups_keep_rows c.self.inside.books c.args.conn c.self.invariant)
