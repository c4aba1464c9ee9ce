use Rattle.std.proofs.Common.{◌≡◌, drop}
use Rattle.std.specs.List.{list_any}
use Rattle.sql_values.specs.declared.tree.Comparison.TheVariants.{Equal}
use Rattle.sql_values.specs.Conditions.{compares}
use Rattle.sql_values.specs.Scalars.{scalar_literal}
use Rattle.sql_values.proofs.conditions.is_listed.Given as goal

abbrev pub invariant-loop-literal : goal.invariant-loop-literal
invariant-loop-literal l =
    list_any (compares Equal (scalar_literal l.value)) (drop l.literal-index l.list) ≡ list_any (compares Equal (scalar_literal l.value)) l.list
