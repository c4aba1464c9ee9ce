use Rattle.std.proofs.Common.{take}
use Rattle.sql_values.specs.KeySets.{AreBigInts}
use Rattle.front_core.proofs.texts.are_bigints.Given as goal

abbrev pub invariant-loop-key : goal.invariant-loop-key
invariant-loop-key l = AreBigInts (take l.key-index l.keys)
