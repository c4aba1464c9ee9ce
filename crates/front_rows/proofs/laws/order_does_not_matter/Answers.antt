use Rattle.front_rows.proofs.Shuffled.{order_does_not_matter}
use Rattle.front_rows.proofs.laws.order_does_not_matter.Goals as goal

pub returns : goal.returns
returns c = order_does_not_matter
