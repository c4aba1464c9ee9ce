use Rattle.std.proofs.Common.{◌≡◌, drop}
use Rattle.catalog.specs.Searches.{first}
use Rattle.catalog.specs.Broken.{bad_text}
use Rattle.catalog.proofs.checks.check_columns.Given as goal

abbrev pub invariant-loop-text : goal.invariant-loop-text
invariant-loop-text l = first bad_text (drop l.text-index l.text-items) ≡ first bad_text l.text-items
