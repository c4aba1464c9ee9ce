use Rattle.std.proofs.Common.{◌≡◌, ◌++◌, false, drop}
use Rattle.front_core.specs.Planned.{targets_left}
use Rattle.front_core.proofs.targets.push_links.Given as goal

abbrev pub invariant-loop-link : goal.invariant-loop-link
invariant-loop-link l = l.targets ++ targets_left l.mode l.part l.found (drop l.link-index l.links) ≡ l.initial.targets ++ targets_left l.mode l.part false l.links
