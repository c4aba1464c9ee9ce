-- How refusals of single literals, names and conditions are told of a statement.
use Rattle.std.specs.Prelude.{ℕ, Bool, true, false, List, [], ◌∷◌, Option, None}
use Rattle.std.specs.Option.{option_or}
use Rattle.sql_values.specs.declared.checks.CheckFault.{CheckFault}
use Rattle.sql_values.specs.declared.checks.CheckFault.TheVariants as check
use Rattle.sql_values.specs.declared.storage.StoreFault.{StoreFault}
use Rattle.sql_values.specs.declared.storage.StoreFault.TheVariants as store
use Rattle.stmt_plan.specs.declared.fault.StmtFault.{StmtFault}
use Rattle.stmt_plan.specs.declared.fault.StmtFault.TheVariants.{NoColumn, Ambiguous, IsNull, TypeMismatch, OutOfRange, TooLong, NoMemory}

-- the fault of a condition's check, as a statement's fault
abbrev pub fault_of_check : CheckFault → StmtFault
fault_of_check (check.NoColumn name) = NoColumn name
fault_of_check (check.Ambiguous name) = Ambiguous name
fault_of_check check.TypeMismatch = TypeMismatch
fault_of_check check.NoMemory = NoMemory

-- types that don't go together, and no more
abbrev pub is_mismatch : CheckFault → Bool
is_mismatch check.TypeMismatch = true
is_mismatch _ = false

-- why the literal for this column in this row can't be stored, as a statement's fault
abbrev pub fault_of_store : List ℕ → ℕ → StoreFault → StmtFault
fault_of_store column row store.IsNull = IsNull column
fault_of_store column row store.TypeMismatch = TypeMismatch
fault_of_store column row store.OutOfRange = OutOfRange column row
fault_of_store column row store.TooLong = TooLong column row
fault_of_store column row store.NoMemory = NoMemory

-- the first that is there
abbrev pub first_of : {X : Type 0} → List (Option X) → Option X
first_of [] = None
first_of (o ∷ os) = option_or o (first_of os)
