use Rattle.std.proofs.Common.{rules, ◌∙◌}
use Rattle.txn_phases.specs.Deeds.{rows_at, bytes_at}
use Rattle.txn_phases.proofs.Weighed.{weighed}
use Rattle.txn_phases.proofs.weight.writes_too_much.Goals as goal

pub returns : goal.returns
returns c = c.is_any_heavy.ensures ∙ weighed c.deref.result.now (rows_at c.args.news.now) (bytes_at c.args.news.now) c.args.targets.now (search rules)
