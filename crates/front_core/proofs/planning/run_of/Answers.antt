use Rattle.std.proofs.Common.{rules}
use Rattle.front_core.proofs.Made.{run_made}
use Rattle.front_core.proofs.planning.run_of.Goals as goal

pub returns : goal.returns
returns c =
    run_made c.args.catalog.now c.args.tx c.args.table.now c.args.plan c.in_ok-targets.targets c.in_ok-branches.branches c.in_ok-scan.scan c.in_ok-deed.deed c.in_ok-deed.columns c.new.result
    (search rules) (search rules) (search rules) (search rules) (search rules) (search rules)
