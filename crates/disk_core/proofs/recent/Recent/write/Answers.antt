use Rattle.std.proofs.Common.{List, ap}
use Rattle.disk_core.specs.DiskModel.{Change}
use Rattle.disk_core.proofs.Changes.{changes_written, total_written}
use Rattle.disk_core.proofs.recent.Recent.write.Goals as goal

pub invariant_of-self-clause-whole : goal.invariant_of-self-clause-whole
invariant_of-self-clause-whole c = total_written _ _ _ _ c.args.piece.now c.args.at c.push_reserved.ensures.items c.in-Ok.ensures.items c.args.self.now.whole

pub returns-clause-moment : goal.returns-clause-moment
returns-clause-moment c =
    ap (λ (cs : List Change). record { sure = c.args.self.now.sure.items; since = cs }) (changes_written _ _ _ _ c.args.piece.now c.args.at c.push_reserved.ensures.items c.in-Ok.ensures.items c.args.self.now.whole)
