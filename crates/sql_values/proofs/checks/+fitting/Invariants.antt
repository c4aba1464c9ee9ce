use Rattle.std.proofs.Common.{◌≡◌, drop, map}
use Rattle.std.specs.List.{list_all}
use Rattle.sql_values.specs.Checks.{cond_fits}
use Rattle.sql_values.proofs.checks.+fitting.Given as goal

abbrev pub invariant-fit-loop-part : goal.invariant-fit-loop-part
invariant-fit-loop-part l = list_all (λ part. part) (map (cond_fits l.tables) (drop l.part-index l.parts)) ≡ list_all (λ part. part) (map (cond_fits l.tables) l.parts)
