use Rattle.plain_tables.proofs.Fitting.{updates_fit_columns}
use Rattle.plain_tables.proofs.laws.updates_fit_columns.Goals as goal

pub returns : goal.returns
returns c = updates_fit_columns
