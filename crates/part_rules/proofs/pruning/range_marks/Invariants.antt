use Rattle.std.proofs.Common.{◌≡◌, ◌++◌, drop}
use Rattle.sql_values.specs.KeySets.{IsNormal}
use Rattle.part_rules.specs.Marking.{range_marks}
use Rattle.part_rules.proofs.pruning.range_marks.Given as goal

abbrev pub invariant-loop-bound : goal.invariant-loop-bound
invariant-loop-bound l = record {
  normal : IsNormal l.rest;
  marks : l.marks.items ++ range_marks (drop l.bound-index l.bound-items) l.rest ≡ range_marks l.bounds l.keys;
}
