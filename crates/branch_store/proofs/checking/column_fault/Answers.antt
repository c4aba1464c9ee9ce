use Rattle.std.proofs.Common.{List, ℕ, Some, None, ◌∙◌, ap}
use Rattle.branch_store.specs.declared.fault.BranchFault.TheVariants.{NoColumn}
use Rattle.branch_store.proofs.Naming.{column_fault_by}
use Rattle.branch_store.proofs.checking.column_fault.Goals as goal

pub returns-in-Some : goal.returns-in-Some
returns-in-Some c = column_fault_by c.args.def.now c.args.name.now (Some c.in-Some.field-0.now) c.in-Some.ensures

pub returns-in_ok-copy-in-None : goal.returns-in_ok-copy-in-None
returns-in_ok-copy-in-None c =
    ap (λ (name : List ℕ). Some (NoColumn name)) c.in_ok-copy-in-None.ensures ∙ column_fault_by c.args.def.now c.args.name.now None c.in-None.ensures
