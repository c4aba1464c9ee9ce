use Rattle.std.proofs.Common.{◌≡◌, drop}
use Rattle.std.specs.Cmp.Lexicographic.{pointwise}
use Rattle.sql_values.specs.Laws.{is_of}
use Rattle.txn_phases.proofs.forms.are_of.Given as goal

abbrev pub invariant-loop-place : goal.invariant-loop-place
invariant-loop-place l = pointwise is_of (drop l.place l.kinds) (drop l.place l.values) ≡ pointwise is_of l.kinds l.values
