use Rattle.part_rules.proofs.KeptKeys.{conditions_keep_keys}
use Rattle.part_rules.proofs.laws.conditions_keep_keys.Goals as goal

pub returns : goal.returns
returns c = conditions_keep_keys
