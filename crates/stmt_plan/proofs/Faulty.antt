-- Faults of checks as faults of statements.
use Rattle.std.proofs.Common.{◌≡◌, ◌⊎◌, List, [], ◌∷◌, inl, inr, Some, Result, Err, ap, ◌∙◌, sym, subst}
use Rattle.std.specs.Option.{option_map}
use Rattle.std.specs.Result.{result_err}
use Rattle.sql_values.specs.declared.checks.CheckFault.{CheckFault}
use Rattle.sql_values.specs.declared.checks.CheckFault.TheVariants as check
use Rattle.stmt_plan.specs.declared.fault.StmtFault.{StmtFault}
use Rattle.stmt_plan.specs.declared.fault.StmtFault.TheVariants.{NoMemory}
use Rattle.sql_values.specs.declared.table.TableDef.{TableDef}
use Rattle.sql_values.specs.declared.tree.Cond.{Cond}
use Rattle.sql_values.specs.Checks.{checked_cond}
use Rattle.stmt_plan.specs.Chosen.{cond_fault}
use Rattle.stmt_plan.specs.Faults.{fault_of_check}

pub checked_fault : (cond : Cond) (table : TableDef) (tables : List TableDef) (fault : CheckFault) (told : StmtFault) → tables ≡ table ∷ [] →
    told ≡ fault_of_check fault →
    (fault ≡ check.NoMemory) ⊎ (checked_cond cond tables ≡ Err fault) → (told ≡ NoMemory) ⊎ (cond_fault table cond ≡ Some told)
checked_fault cond table tables fault told only is (inl none) = inl (is ∙ ap fault_of_check none)
checked_fault cond table tables fault told only is (inr found) =
    let refused : checked_cond cond (table ∷ []) ≡ Err fault = subst (λ (ts : List TableDef). checked_cond cond ts ≡ Err fault) only found in
    inr (ap (λ (r : Result (Unit {0}) CheckFault). option_map fault_of_check (result_err r)) refused ∙ ap (λ (f : StmtFault). Some f) (sym is))
