use Rattle.std.proofs.Common.{rules, SFits, w64}
use Rattle.std.proofs.lemmas.Int.{to_z-of_z}
use Rattle.txn_phases.proofs.deed.put.Goals as goal

pub returns : goal.returns
returns c =
    let fits : SFits w64 c.args.key.now = search rules in
    rw (to_z-of_z w64 c.args.key.now fits) at c.in_ok-insert.ensures.entries
