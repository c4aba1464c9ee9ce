-- What a check of a condition or an expression tells of its names and its types.
use Rattle.std.proofs.Common.{◌≡◌, ◌⊎◌, ℕ, Bool, true, false, cond, List, [], ◌∷◌, inl, inr, Option, Some, None, Ok, Err, refl, sym, ◌∙◌, ap, subst}
use Rattle.std.specs.Option.{option_map}
use Rattle.std.specs.Result.{result_ok, result_err}
use Rattle.std.proofs.lemmas.Bool.{both_ways}
use Rattle.sql_values.specs.declared.checks.CheckFault.{CheckFault}
use Rattle.sql_values.specs.declared.checks.CheckFault.TheVariants as check
use Rattle.sql_values.specs.declared.table.Kind.{Kind}
use Rattle.sql_values.specs.declared.table.TableDef.{TableDef}
use Rattle.sql_values.specs.declared.tree.ColumnName.{ColumnName}
use Rattle.sql_values.specs.declared.tree.Cond.{Cond}
use Rattle.sql_values.specs.declared.tree.Expr.{Expr}
use Rattle.sql_values.specs.Checks.{first_column, is_unknown, is_ambiguous, cond_columns, cond_fits, checked_cond, expr_columns, expr_kind, checked_expr, named_fault, after_columns}
use Rattle.stmt_plan.specs.declared.fault.StmtFault.{StmtFault}
use Rattle.stmt_plan.specs.declared.fault.StmtFault.TheVariants.{NoColumn, NoMemory}
use Rattle.stmt_plan.specs.Chosen.{unknown_fault}
use Rattle.stmt_plan.specs.Faults.{fault_of_check, is_mismatch}
use Rattle.stmt_plan.specs.Plans.{IsTable}
use Rattle.stmt_plan.proofs.Chosen.{none_ambiguous}

-- two faults that are one aren't told apart
not_of_types : (f g : CheckFault) → Some f ≡ Some g → is_mismatch g ≡ true → is_mismatch f ≡ false → ⊥
not_of_types f g same types other = let is : f ≡ g = cc in both_ways (is_mismatch g) (sym (ap is_mismatch is) ∙ other) types

-- a check that succeeds knows all names, and found what it answers
passed : {T : Type 0} (unknown several : Option (List ℕ)) (found : Option T) (x : T) → after_columns (named_fault unknown several) found ≡ Ok x →
    (unknown ≡ None) × (found ≡ Some x)
passed (Some n) several found x is = let no : Some (check.NoColumn n) ≡ None = ap result_err is in cc
passed None (Some n) found x is = let no : Some (check.Ambiguous n) ≡ None = ap result_err is in cc
passed None None (Some y) x is = (refl, ap result_ok is)
passed None None None x is = let no : Some check.TypeMismatch ≡ None = ap result_err is in cc

-- one that tells only of types knows all names too, and found nothing
mismatched : {T : Type 0} (unknown several : Option (List ℕ)) (found : Option T) (fault : CheckFault) → is_mismatch fault ≡ true →
    after_columns (named_fault unknown several) found ≡ Err fault → (unknown ≡ None) × (found ≡ None)
mismatched (Some n) several found fault types is = absurd (not_of_types (check.NoColumn n) fault (ap result_err is) types refl)
mismatched None (Some n) found fault types is = absurd (not_of_types (check.Ambiguous n) fault (ap result_err is) types refl)
mismatched None None (Some y) fault types is = let no : None ≡ Some fault = ap result_err is in cc
mismatched None None None fault types is = (refl, refl)

-- one that tells more tells the first unknown name, where none may mean several columns
refused : {T : Type 0} (unknown several : Option (List ℕ)) (found : Option T) (fault : CheckFault) → several ≡ None → is_mismatch fault ≡ false →
    after_columns (named_fault unknown several) found ≡ Err fault → option_map NoColumn unknown ≡ Some (fault_of_check fault)
refused (Some n) several found fault none more is = let told : Some (check.NoColumn n) ≡ Some fault = ap result_err is in ap (option_map fault_of_check) told
refused None (Some n) found fault none more is = let no : Some n ≡ None = none in cc
refused None None (Some y) fault none more is = let no : None ≡ Some fault = ap result_err is in cc
refused None None None fault none more is = absurd (not_of_types fault check.TypeMismatch (sym (ap result_err is)) refl more)

-- EXPRESSIONS

abbrev unknown_in : TableDef → List ColumnName → Option (List ℕ)
unknown_in table names = first_column (is_unknown (table ∷ [])) names

abbrev several_in : TableDef → List ColumnName → Option (List ℕ)
several_in table names = first_column (is_ambiguous (table ∷ [])) names

pub kind_known : (table : TableDef) (value : Expr) (kind : Kind) → checked_expr value table ≡ Ok kind →
    (Some kind ≡ expr_kind (table ∷ []) value) × (unknown_fault table (expr_columns value) ≡ None)
kind_known table value kind is =
    let all = passed (unknown_in table (expr_columns value)) (several_in table (expr_columns value)) (expr_kind (table ∷ []) value) kind is in
    (sym all.1, ap (option_map NoColumn) all.0)

pub kind_mismatched : (table : TableDef) (value : Expr) (fault : CheckFault) → is_mismatch fault ≡ true →
    (fault ≡ check.NoMemory) ⊎ (checked_expr value table ≡ Err fault) →
    (None ≡ expr_kind (table ∷ []) value) × (unknown_fault table (expr_columns value) ≡ None)
kind_mismatched table value fault types (inl memory) = absurd (not_of_types check.NoMemory fault (ap (λ (f : CheckFault). Some f) (sym memory)) types refl)
kind_mismatched table value fault types (inr is) =
    let all = mismatched (unknown_in table (expr_columns value)) (several_in table (expr_columns value)) (expr_kind (table ∷ []) value) fault types is in
    (sym all.1, ap (option_map NoColumn) all.0)

pub kind_refused : (table : TableDef) (value : Expr) (fault : CheckFault) (told : StmtFault) → IsTable table → is_mismatch fault ≡ false →
    told ≡ fault_of_check fault → (fault ≡ check.NoMemory) ⊎ (checked_expr value table ≡ Err fault) →
    (told ≡ NoMemory) ⊎ (unknown_fault table (expr_columns value) ≡ Some told)
kind_refused table value fault told is_table more from (inl memory) = inl (from ∙ ap fault_of_check memory)
kind_refused table value fault told is_table more from (inr is) =
    inr (refused (unknown_in table (expr_columns value)) (several_in table (expr_columns value)) (expr_kind (table ∷ []) value) fault
    (none_ambiguous table table.name (expr_columns value) is_table) more is
    ∙ ap (λ (f : StmtFault). Some f) (sym from))

-- CONDITIONS

-- what a check of a condition finds is whether that fits
abbrev if_fits : Bool → Option (Unit {0})
if_fits b = cond b (Some (tt {0})) None

fits_found : (b : Bool) (x : Unit {0}) → if_fits b ≡ Some x → true ≡ b
fits_found true x is = refl
fits_found false x is = let no : None ≡ Some x = is in cc

unfit_found : (b : Bool) → if_fits b ≡ None → false ≡ b
unfit_found true is = let no : Some (tt {0}) ≡ None = is in cc
unfit_found false is = refl

pub cond_known : (table : TableDef) (c : Cond) (tables : List TableDef) (x : Unit {0}) → tables ≡ table ∷ [] → checked_cond c tables ≡ Ok x →
    (true ≡ cond_fits (table ∷ []) c) × (unknown_fault table (cond_columns c) ≡ None)
cond_known table c tables x only is =
    let found : checked_cond c (table ∷ []) ≡ Ok x = subst (λ (ts : List TableDef). checked_cond c ts ≡ Ok x) only is in
    let all = passed (unknown_in table (cond_columns c)) (several_in table (cond_columns c)) (if_fits (cond_fits (table ∷ []) c)) x found in
    (fits_found (cond_fits (table ∷ []) c) x all.1, ap (option_map NoColumn) all.0)

pub cond_mismatched : (table : TableDef) (c : Cond) (tables : List TableDef) (fault : CheckFault) → tables ≡ table ∷ [] → is_mismatch fault ≡ true →
    (fault ≡ check.NoMemory) ⊎ (checked_cond c tables ≡ Err fault) →
    (false ≡ cond_fits (table ∷ []) c) × (unknown_fault table (cond_columns c) ≡ None)
cond_mismatched table c tables fault only types (inl memory) = absurd (not_of_types check.NoMemory fault (ap (λ (f : CheckFault). Some f) (sym memory)) types refl)
cond_mismatched table c tables fault only types (inr is) =
    let found : checked_cond c (table ∷ []) ≡ Err fault = subst (λ (ts : List TableDef). checked_cond c ts ≡ Err fault) only is in
    let all = mismatched (unknown_in table (cond_columns c)) (several_in table (cond_columns c)) (if_fits (cond_fits (table ∷ []) c)) fault types found in
    (unfit_found (cond_fits (table ∷ []) c) all.1, ap (option_map NoColumn) all.0)

pub cond_refused : (table : TableDef) (c : Cond) (tables : List TableDef) (fault : CheckFault) (told : StmtFault) → IsTable table → tables ≡ table ∷ [] →
    is_mismatch fault ≡ false → told ≡ fault_of_check fault → (fault ≡ check.NoMemory) ⊎ (checked_cond c tables ≡ Err fault) →
    (told ≡ NoMemory) ⊎ (unknown_fault table (cond_columns c) ≡ Some told)
cond_refused table c tables fault told is_table only more from (inl memory) = inl (from ∙ ap fault_of_check memory)
cond_refused table c tables fault told is_table only more from (inr is) =
    let found : checked_cond c (table ∷ []) ≡ Err fault = subst (λ (ts : List TableDef). checked_cond c ts ≡ Err fault) only is in
    inr (refused (unknown_in table (cond_columns c)) (several_in table (cond_columns c)) (if_fits (cond_fits (table ∷ []) c)) fault
    (none_ambiguous table table.name (cond_columns c) is_table) more found
    ∙ ap (λ (f : StmtFault). Some f) (sym from))
