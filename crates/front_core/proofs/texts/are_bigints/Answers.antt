use Rattle.sql_values.proofs.KeyLists.{no_interval}
use Rattle.front_core.proofs.Parting.{ends_more}
use Rattle.front_core.proofs.texts.are_bigints.Goals as goal

pub loop-key-preserved : goal.loop-key-preserved
loop-key-preserved c =
    ends_more c.args.keys.now c.loop-key.key-index no_interval c.loop-key-test.true c.are_ends.ensures.low c.are_ends.ensures.high c.loop-key.invariant
