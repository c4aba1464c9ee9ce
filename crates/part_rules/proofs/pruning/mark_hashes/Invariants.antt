use Rattle.std.proofs.Common.{Some}
use Rattle.part_rules.specs.Rules.{hash_part}
use Rattle.part_rules.proofs.Marks.{MarksBelow}
use Rattle.part_rules.proofs.pruning.mark_hashes.Given as goal

abbrev pub invariant-loop-key : goal.invariant-loop-key
invariant-loop-key l = MarksBelow (λ key. Some (hash_part l.parts key)) l.interval l.key-counter l.initial.marks l.marks
