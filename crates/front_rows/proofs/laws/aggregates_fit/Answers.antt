use Rattle.front_rows.proofs.Parts.{aggregates_fit}
use Rattle.front_rows.proofs.laws.aggregates_fit.Goals as goal

pub returns : goal.returns
returns c = aggregates_fit
