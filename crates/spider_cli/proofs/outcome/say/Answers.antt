use Rattle.std.proofs.Common.{Result, Ok, Err, OnOk, OnErr, ◌⊎◌, inl, inr}
use Rattle.spider_cli.proofs.outcome.say.Goals as goal

by_result : {T E P Q : Type 0} (r : Result T E) → OnOk r P → OnErr r Q → P ⊎ Q
by_result (Ok x) p q = inl p
by_result (Err e) p q = inr q

pub returns : goal.returns
returns g c = (c.write_outcome.ensures.front, by_result c.write_outcome.result c.write_outcome.ensures.whole c.write_outcome.ensures.cause)
