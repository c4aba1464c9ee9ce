use Rattle.phase_law.proofs.Keeping.{statements_keep_tables}
use Rattle.phase_law.proofs.statements_keep_tables.Goals as goal

pub returns : goal.returns
returns c = statements_keep_tables
