use Rattle.std.proofs.Common.{◌≡◌, replicate}
use Rattle.catalog.proofs.links.repeated.Given as goal

abbrev pub invariant-loop : goal.invariant-loop
invariant-loop l = l.names.items ≡ replicate l.counter l.name
