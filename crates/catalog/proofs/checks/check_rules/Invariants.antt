use Rattle.std.proofs.Common.{◌≡◌, drop}
use Rattle.catalog.specs.Searches.{first}
use Rattle.catalog.specs.Broken.{broken_by}
use Rattle.catalog.proofs.checks.check_rules.Given as goal

abbrev pub invariant-loop-rule : goal.invariant-loop-rule
invariant-loop-rule l = first (broken_by l.servers l.tables) (drop l.rule-index l.rules) ≡ first (broken_by l.servers l.tables) l.rules
