use Rattle.std.proofs.Common.{◌≡◌, ◌++◌, drop}
use Rattle.std.specs.List.{filter_map}
use Rattle.catalog.specs.Views.{remote_def}
use Rattle.catalog.proofs.whole.add_part.Given as goal

abbrev pub invariant-loop-link : goal.invariant-loop-link
invariant-loop-link l = l.defs ++ filter_map (remote_def l.server l.def) (drop l.link-index l.link-items) ≡ l.initial.defs ++ filter_map (remote_def l.server l.def) l.link-items
