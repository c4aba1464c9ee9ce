use Rattle.front_rows.proofs.KeyOrder.{one_order}
use Rattle.front_rows.proofs.laws.one_order.Goals as goal

pub returns : goal.returns
returns c = one_order
