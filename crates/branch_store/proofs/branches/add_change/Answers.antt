use Rattle.std.proofs.Common.{◌≡◌, List, Some, None, sym, ap, ◌∙◌, subst, set}
use Rattle.std.specs.List.{position}
use Rattle.branch_store.specs.declared.branch.Branch.{Branch}
use Rattle.branch_store.specs.declared.branch.Change.{Change}
use Rattle.branch_store.specs.Faults.{is_own}
use Rattle.branch_store.specs.Store.{add_change}
use Rattle.branch_store.proofs.Firsts.{changed_there, none_changed, none_there}
use Rattle.branch_store.proofs.branches.add_change.Goals as goal

pub returns-in-None-clause-ok : goal.returns-in-None-clause-ok
returns-in-None-clause-ok c =
    let P : List Branch → Type 0 = λ xs. None ≡ position (is_own c.args.conn) xs in
    sym (none_changed (is_own c.args.conn) (add_change c.args.change) c.args.branches.now.items (none_there (is_own c.args.conn) c.args.branches.now.items (sym (subst P c.as_slice.ensures.value c.in-None.ensures))))

pub returns-clause-ok : goal.returns-clause-ok
returns-clause-ok c =
    let P : List Branch → Type 0 = λ xs. Some c.in-Some.place ≡ position (is_own c.args.conn) xs in
    let items = c.args.branches.now.items in
    let d = c.index_mut-branch.result.now in
    let with : List Change → List Branch = λ changes. set items c.in-Some.place (record { xid = d.xid; stage = d.stage; owner = d.owner; changes = changes }) in
    ap with c.in_ok-push.ensures.ok
    ∙ sym (changed_there (is_own c.args.conn) (add_change c.args.change) items c.in-Some.place d (sym (subst P c.as_slice.ensures.value c.in-Some.ensures))
    ∙ ap (λ (b : Branch). set items c.in-Some.place (add_change c.args.change b)) (sym c.index_mut-branch.ensures.value))
