use Rattle.conf_file.proofs.Spelling.{columns_are_spelled}
use Rattle.conf_file.proofs.laws.columns_are_spelled.Goals as goal

pub returns : goal.returns
returns c = columns_are_spelled
