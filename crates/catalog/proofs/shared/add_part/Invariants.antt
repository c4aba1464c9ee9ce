use Rattle.std.proofs.Common.{◌≡◌, ◌++◌, map, take}
use Rattle.catalog.specs.Shared.{remote_of}
use Rattle.catalog.proofs.shared.add_part.Given as goal

abbrev pub invariant-loop-link : goal.invariant-loop-link
invariant-loop-link l = l.remotes.items ≡ l.initial.remotes.items ++ map remote_of (take l.link-index l.link-items)
