use Rattle.std.proofs.Common.{◌≡◌, List, Some, None, sym, ap, ◌∙◌, subst, set}
use Rattle.std.specs.List.{position}
use Rattle.branch_store.specs.declared.branch.Branch.{Branch}
use Rattle.branch_store.specs.Faults.{has_xid}
use Rattle.branch_store.specs.Store.{at_stage}
use Rattle.branch_store.proofs.Firsts.{changed_there, none_changed, none_there}
use Rattle.branch_store.proofs.branches.set_stage.Goals as goal

pub returns-in-None : goal.returns-in-None
returns-in-None c =
    let P : List Branch → Type 0 = λ xs. None ≡ position (has_xid c.args.xid.now) xs in
    sym (none_changed (has_xid c.args.xid.now) (at_stage c.args.stage) c.args.branches.now.items (none_there (has_xid c.args.xid.now) c.args.branches.now.items (sym (subst P c.as_slice.ensures.value c.in-None.ensures))))

pub returns : goal.returns
returns c =
    let P : List Branch → Type 0 = λ xs. Some c.in-Some.place ≡ position (has_xid c.args.xid.now) xs in
    let items = c.args.branches.now.items in
    sym (changed_there (has_xid c.args.xid.now) (at_stage c.args.stage) items c.in-Some.place c.index_mut.result.now (sym (subst P c.as_slice.ensures.value c.in-Some.ensures))
    ∙ ap (λ (b : Branch). set items c.in-Some.place (at_stage c.args.stage b)) (sym c.index_mut.ensures.value))
