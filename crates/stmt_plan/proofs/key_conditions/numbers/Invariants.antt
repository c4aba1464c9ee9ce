use Rattle.std.proofs.Common.{◌≡◌, map, take}
use Rattle.sql_values.specs.declared.literal.Literal.TheVariants.{Number}
use Rattle.stmt_plan.proofs.key_conditions.numbers.Given as goal

abbrev pub invariant-loop-key : goal.invariant-loop-key
invariant-loop-key l = l.list ≡ map Number (take l.key-index l.keys)
