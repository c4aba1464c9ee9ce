use Rattle.std.proofs.Common.{◌≡◌, drop, find}
use Rattle.std.specs.Option.{is_none}
use Rattle.part_rules.specs.Placing.{part}
use Rattle.stmt_plan.proofs.key_conditions.first_unplaced.Given as goal

abbrev pub invariant-loop-key : goal.invariant-loop-key
invariant-loop-key l = find (λ k. is_none (part l.rule k)) (drop l.key-index l.keys) ≡ find (λ k. is_none (part l.rule k)) l.keys
