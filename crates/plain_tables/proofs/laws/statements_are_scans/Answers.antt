use Rattle.plain_tables.proofs.Scanned.{statements_are_scans}
use Rattle.plain_tables.proofs.laws.statements_are_scans.Goals as goal

pub returns : goal.returns
returns c = statements_are_scans
