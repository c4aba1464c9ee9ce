use Rattle.std.proofs.Common.{◌≡◌, drop}
use Rattle.catalog.specs.Searches.{first}
use Rattle.catalog.specs.Broken.{breaks}
use Rattle.catalog.proofs.checks.check_tables.Given as goal

abbrev pub invariant-loop-table : goal.invariant-loop-table
invariant-loop-table l = first (breaks l.servers l.check) (drop l.table-index l.tables) ≡ first (breaks l.servers l.check) l.tables
