use Rattle.std.proofs.Common.{◌≡◌, List, Some, None, sym, ◌∙◌, subst}
use Rattle.std.specs.List.{position}
use Rattle.branch_store.specs.declared.branch.Branch.{Branch}
use Rattle.branch_store.specs.Faults.{is_own}
use Rattle.branch_store.proofs.Firsts.{without_there, none_gone, none_there}
use Rattle.branch_store.proofs.branches.remove_own.Goals as goal

pub returns-in-None : goal.returns-in-None
returns-in-None c =
    let P : List Branch → Type 0 = λ xs. None ≡ position (is_own c.args.conn) xs in
    sym (none_gone (is_own c.args.conn) c.args.branches.now.items (none_there (is_own c.args.conn) c.args.branches.now.items (sym (subst P c.as_slice.ensures.value c.in-None.ensures))))

pub returns : goal.returns
returns c =
    let P : List Branch → Type 0 = λ xs. Some c.in-Some.place ≡ position (is_own c.args.conn) xs in
    c.remove-gone.ensures.items ∙ sym (without_there (is_own c.args.conn) c.args.branches.now.items c.in-Some.place c.remove-gone.result (sym (subst P c.as_slice.ensures.value c.in-Some.ensures)))
