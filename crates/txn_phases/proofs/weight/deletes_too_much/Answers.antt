use Rattle.std.proofs.Common.{rules, ◌∙◌, length}
use Rattle.txn_phases.specs.Deeds.{keys_at}
use Rattle.txn_phases.proofs.Weighed.{weighed}
use Rattle.txn_phases.proofs.weight.deletes_too_much.Goals as goal

pub returns : goal.returns
returns c = c.is_any_heavy.ensures ∙ weighed c.deref.result.now (λ t. length (keys_at c.args.keys.now t.part)) (λ t. 0) c.args.targets.now (search rules)
