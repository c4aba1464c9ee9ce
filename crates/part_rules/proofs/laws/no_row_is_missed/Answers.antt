use Rattle.part_rules.proofs.KeptKeys.{no_row_is_missed}
use Rattle.part_rules.proofs.laws.no_row_is_missed.Goals as goal

pub returns : goal.returns
returns c = no_row_is_missed
