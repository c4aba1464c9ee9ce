use Rattle.std.proofs.Common.{◌≡◌, [], take, drop}
use Rattle.std.specs.HashSet.{contains}
use Rattle.std.specs.List.{list_any}
use Rattle.catalog.specs.declared.shared.Remote.{Remote}
use Rattle.catalog.specs.Shared.{is_same, repeated_from}
use Rattle.catalog.proofs.shared.first_repeated.Given as goal

abbrev pub invariant-loop-remote : goal.invariant-loop-remote
invariant-loop-remote l = record {
  seen : (q : Remote) → contains is_same l.seen q ≡ list_any (λ (y : Remote). is_same y q) (take l.remote-index l.remotes);
  left : repeated_from is_same (take l.remote-index l.remotes) (drop l.remote-index l.remotes) ≡ repeated_from is_same [] l.remotes;
}
