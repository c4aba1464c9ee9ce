use Rattle.std.proofs.Common.{◌≡◌, ◌∙◌, sym, take, true, false, cond}
use Rattle.std.specs.HashSet.{contains}
use Rattle.std.specs.List.{list_any}
use Rattle.catalog.specs.declared.shared.Remote.{Remote}
use Rattle.catalog.specs.Shared.{is_same}
use Rattle.catalog.proofs.Repeats.{repeated_here, repeated_next, seen_more}
use Rattle.catalog.proofs.shared.first_repeated.Goals as goal

pub returns-then-contains : goal.returns-then-contains
returns-then-contains c =
    let remotes = c.args.remotes.now in
    let i = c.loop-remote.remote-index in
    let x = c.remote-item.result in
    let there : list_any (λ (y : Remote). is_same y x) (take i remotes) ≡ true = sym (c.loop-remote.invariant.seen x) ∙ sym c.contains.ensures ∙ c.if-contains.true in
    sym (repeated_here is_same (take i remotes) remotes i x c.loop-remote-test.true c.remote-item.is there) ∙ c.loop-remote.invariant.left

pub loop-remote-preserved : goal.loop-remote-preserved
loop-remote-preserved c =
    let remotes = c.args.remotes.now in
    let i = c.loop-remote.remote-index in
    let x = c.remote-item.result in
    let gone : list_any (λ (y : Remote). is_same y x) (take i remotes) ≡ false = sym (c.loop-remote.invariant.seen x) ∙ sym c.contains.ensures ∙ c.if-contains.false in
    let grows : (q : Remote) → contains is_same c.insert.new.self q ≡ cond (is_same x q) true (contains is_same c.loop-remote.seen q) =
    λ q. rw (sym c.in_ok-clone.ensures.cases.0, sym c.in_ok-clone.ensures.cases.1) (c.in_ok-insert.ensures.updates.0 q) in
    record {
      seen = seen_more is_same (contains is_same c.loop-remote.seen) (contains is_same c.insert.new.self) remotes i x c.loop-remote-test.true c.remote-item.is c.loop-remote.invariant.seen grows;
      left = repeated_next is_same remotes i x c.loop-remote-test.true c.remote-item.is gone ∙ c.loop-remote.invariant.left;
    }
