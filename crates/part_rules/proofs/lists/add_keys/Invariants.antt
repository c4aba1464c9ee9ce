use Rattle.part_rules.proofs.ListParts.{HasAdded}
use Rattle.part_rules.proofs.lists.add_keys.Given as goal

abbrev pub invariant-loop-key : goal.invariant-loop-key
invariant-loop-key l = HasAdded l.initial.places l.places l.part l.keys l.key-index
