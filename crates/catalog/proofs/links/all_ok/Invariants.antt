use Rattle.std.proofs.Common.{◌≡◌, replicate}
use Rattle.catalog.specs.declared.link.Status.TheVariants as status
use Rattle.catalog.proofs.links.all_ok.Given as goal

abbrev pub invariant-loop : goal.invariant-loop
invariant-loop l = l.statuses.items ≡ replicate l.counter status.Ok
