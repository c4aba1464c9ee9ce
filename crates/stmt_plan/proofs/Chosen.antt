-- The faults of SELECT, UPDATE and DELETE as the code finds them are their refusals.
use Rattle.std.proofs.Common.{◌≡◌, ℕ, suc, ◌≤◌, Bool, true, false, ◌&&◌, cond, eqb, List, [], ◌∷◌, ◌++◌, length, refl, ap, sym, ◌∙◌, arith, Option, Some, None, ◌⊎◌, inl, inr, filter, find}
use Rattle.std.specs.Prelude.{slice_get}
use Rattle.std.specs.Option.{option_map, option_or}
use Rattle.std.proofs.lemmas.Bool.{cases_Bool}
use Rattle.std.proofs.lemmas.List.{append-nil, length-map}
use Rattle.std.specs.Result.{result_err}
use Rattle.std.specs.Cmp.Lexicographic.{pointwise, bytes_decides}
use Rattle.std.proofs.lemmas.Bool.{and_parts}
use Rattle.sql_values.specs.declared.table.ColumnDef.{ColumnDef}
use Rattle.sql_values.specs.declared.table.TableDef.{TableDef}
use Rattle.sql_values.specs.declared.tree.ColumnName.{ColumnName}
use Rattle.sql_values.specs.declared.tree.Cond.{Cond}
use Rattle.sql_values.specs.Checks.{is_unknown, is_ambiguous, first_column, cond_columns, cond_fits, after_columns, named_fault}
use Rattle.sql_values.specs.Columns.{may_mean, may_qualify, columns_meant}
use Rattle.part_rules.specs.declared.rule.Rule.{Rule}
use Rattle.sql_text.specs.declared.statement.Delete.{Delete}
use Rattle.sql_text.specs.declared.statement.Select.{Select}
use Rattle.sql_text.specs.declared.statement.TableStatement.{TableStatement}
use Rattle.sql_text.specs.declared.statement.TableStatement.TheVariants as statement
use Rattle.sql_text.specs.declared.statement.Update.{Update}
use Rattle.stmt_plan.specs.declared.fault.StmtFault.{StmtFault}
use Rattle.stmt_plan.specs.declared.fault.StmtFault.TheVariants.{NoColumn, Ambiguous, KeyChanged, TypeMismatch, NoMemory}
use Rattle.stmt_plan.specs.Chosen.{where_fault, chosen_fault, where_fits, update_fault}
use Rattle.stmt_plan.specs.Faults.{fault_of_check}
use Rattle.stmt_plan.specs.Plans.{IsTable}
use Rattle.stmt_plan.specs.Refusals.{refusal, mismatch_in}
use Rattle.stmt_plan.specs.Selects.{called, calls_fit, known_name, item_columns, order_columns, where_columns, named_columns}
use Rattle.stmt_plan.specs.Settings.{assigned_columns, settings, sets_key, sets_fault, sets_fit}
use Rattle.stmt_plan.proofs.Meant.{found_mapped}
use Rattle.stmt_plan.proofs.Seeks.{first-append, first-nil}

-- where what passes a test stands at one place, at most one does
none_pass : {X : Type 0} (p : X → Bool) (xs : List X) → ((j : ℕ) (y : X) → slice_get xs j ≡ Some y → p y ≡ true → ⊥) → length (filter p xs) ≡ 0
none_pass p [] none = refl
none_pass p (x ∷ xs) none =
    elim (cases_Bool (p x)) [
      | inl here ↦ absurd (none 0 x refl here)
      | inr other ↦ rw other (none_pass p xs (λ j y at pass. none (suc j) y at pass))
    ]

one_passes : {X : Type 0} (p : X → Bool) (xs : List X) →
    ((i j : ℕ) (x y : X) → slice_get xs i ≡ Some x → slice_get xs j ≡ Some y → p x ≡ true → p y ≡ true → i ≡ j) → length (filter p xs) ≤ 1
one_passes p [] one = omega arith
one_passes p (x ∷ xs) one =
    elim (cases_Bool (p x)) [
      | inl here ↦
          let none : length (filter p xs) ≡ 0 = none_pass p xs (λ j y at pass. let same : 0 ≡ suc j = one 0 (suc j) x y refl at here pass in omega arith) in
          rw here (omega (arith, none))
      | inr other ↦ rw other (one_passes p xs (λ i j y z at there pass passes. let same : suc i ≡ suc j = one (suc i) (suc j) y z at there pass passes in omega arith))
    ]

same_names : (name : ColumnName) (n : List ℕ) (c d : ColumnDef) → may_mean name (n, c) ≡ true → may_mean name (n, d) ≡ true → c.name ≡ d.name
same_names name n c d first second =
    let c_named : pointwise eqb c.name name.column ≡ true = (and_parts (may_qualify name.table n) (pointwise eqb c.name name.column) first).1 in
    let d_named : pointwise eqb d.name name.column ≡ true = (and_parts (may_qualify name.table n) (pointwise eqb d.name name.column) second).1 in
    (bytes_decides c.name name.column).0 c_named ∙ sym ((bytes_decides d.name name.column).0 d_named)

one_meant : (table : TableDef) (n : List ℕ) (name : ColumnName) → IsTable table → length (columns_meant name (called table n ∷ [])) ≤ 1
unfolding columns_meant
one_meant table n name is =
    rw (append-nil, found_mapped, length-map)
    (one_passes (λ (column : ColumnDef). may_mean name (n, column)) table.columns
    (λ i j c d at there first second. is.apart i j c d at there (same_names name n c d first second)))

not_ambiguous : (table : TableDef) (n : List ℕ) (name : ColumnName) → IsTable table → is_ambiguous (called table n ∷ []) name ≡ false
not_ambiguous table n name is = let few : length (columns_meant name (called table n ∷ [])) ≤ 1 = one_meant table n name is in grind arith

none_found : (test : ColumnName → Bool) (names : List ColumnName) → ((name : ColumnName) → test name ≡ false) → find test names ≡ None
none_found test [] never = refl
none_found test (name ∷ names) never = rw (never name) (none_found test names never)

pub none_ambiguous : (table : TableDef) (n : List ℕ) (names : List ColumnName) → IsTable table →
    first_column (is_ambiguous (called table n ∷ [])) names ≡ None
unfolding first_column
none_ambiguous table n names is = rw (none_found (is_ambiguous (called table n ∷ [])) names (λ name. not_ambiguous table n name is)) refl

-- the same faults in the two orders, where no name is ambiguous
in_order : (items wheres : Option (List ℕ)) (fits : Bool) →
    option_or (option_map NoColumn (option_or items wheres)) (option_or (cond {A = Option StmtFault} fits None (Some TypeMismatch)) None)
    ≡ option_or (option_map NoColumn items) (option_map fault_of_check (result_err (after_columns (named_fault wheres None) (cond {A = Option (Unit {0})} fits (Some (tt {0})) None))))
in_order (Some n) wheres fits = refl
in_order None (Some n) fits = refl
in_order None None true = refl
in_order None None false = refl

with_where : (all items wheres several some : Option (List ℕ)) (fits : Bool) → all ≡ option_or items wheres → several ≡ None → some ≡ None →
    option_or (option_map NoColumn all) (option_or (option_map Ambiguous several) (option_or (cond {A = Option StmtFault} fits None (Some TypeMismatch)) None))
    ≡ option_or (option_map NoColumn items) (option_map fault_of_check (result_err (after_columns (named_fault wheres some) (cond {A = Option (Unit {0})} fits (Some (tt {0})) None))))
with_where all items wheres several some fits joined none none_there = rw (joined, none, none_there) (in_order items wheres fits)

without_where : (all items several : Option (List ℕ)) → all ≡ items → several ≡ None →
    option_or (option_map NoColumn all) (option_or (option_map Ambiguous several) (option_or {T = StmtFault} None None)) ≡ option_or (option_map NoColumn items) None
without_where all items several same none = rw (same, none) refl

pub refusal_by : (table : TableDef) (n : List ℕ) (pushed : Option Cond) → IsTable table →
    option_or (option_map NoColumn (first_column (is_unknown (called table n ∷ [])) (where_columns pushed)))
    (option_or (option_map Ambiguous (first_column (is_ambiguous (called table n ∷ [])) (where_columns pushed))) (option_or (mismatch_in (called table n) pushed) None))
    ≡ where_fault (called table n) pushed
refusal_by table n None is =
    without_where (first_column (is_unknown (called table n ∷ [])) []) None (first_column (is_ambiguous (called table n ∷ [])) []) (first-nil (is_unknown (called table n ∷ []))) (first-nil (is_ambiguous (called table n ∷ [])))
refusal_by table n (Some c) is =
    with_where (first_column (is_unknown (called table n ∷ [])) (cond_columns c)) None (first_column (is_unknown (called table n ∷ [])) (cond_columns c))
    (first_column (is_ambiguous (called table n ∷ [])) (cond_columns c)) (first_column (is_ambiguous (called table n ∷ [])) (cond_columns c)) (cond_fits (called table n ∷ []) c)
    refl (none_ambiguous table n (cond_columns c) is) (none_ambiguous table n (cond_columns c) is)

pub refusal_of_delete : (table : TableDef) (rule : Rule) (delete : Delete) → IsTable table →
    refusal table rule (statement.Delete delete) ≡ where_fault table delete.cond
refusal_of_delete table rule delete is = refusal_by table table.name delete.cond is

-- UPDATE

-- a name that isn't known is told of what is set, and then of WHERE
names_first : (sets wheres : Option (List ℕ)) (rest : Option StmtFault) →
    option_or (option_map NoColumn (option_or sets wheres)) rest ≡ option_or (option_map NoColumn sets) (option_or (option_map NoColumn wheres) rest)
names_first (Some n) wheres rest = refl
names_first None wheres rest = refl

-- types that don't go together are told last, wherever they meet
types_last : (fit compare : Bool) →
    option_or (cond {A = Option StmtFault} fit (cond {A = Option StmtFault} compare None (Some TypeMismatch)) (Some TypeMismatch)) None
    ≡ cond {A = Option StmtFault} (fit && compare) None (Some TypeMismatch)
types_last true true = refl
types_last true false = refl
types_last false compare = refl

mismatch_is : (table : TableDef) (c : Option Cond) → mismatch_in table c ≡ cond {A = Option StmtFault} (where_fits table c) None (Some TypeMismatch)
mismatch_is table None = refl
mismatch_is table (Some c) = refl

update_in_order : (all sets wheres several : Option (List ℕ)) (key values compared : Option StmtFault) (fit compare : Bool) → all ≡ option_or sets wheres →
    several ≡ None → compared ≡ cond {A = Option StmtFault} compare None (Some TypeMismatch) →
    option_or (option_map NoColumn all) (option_or (option_map Ambiguous several) (option_or key (option_or values (option_or (cond {A = Option StmtFault} fit compared (Some TypeMismatch)) None))))
    ≡ option_or (option_map NoColumn sets) (option_or (option_map NoColumn wheres) (option_or key (option_or values (cond {A = Option StmtFault} (fit && compare) None (Some TypeMismatch)))))
update_in_order all sets wheres several key values compared fit compare joined none types =
    rw (joined, none, types, types_last fit compare) (names_first sets wheres (option_or key (option_or values (cond {A = Option StmtFault} (fit && compare) None (Some TypeMismatch)))))

pub refusal_of_update : (table : TableDef) (rule : Rule) (update : Update) → IsTable table → refusal table rule (statement.Update update) ≡ update_fault table update
refusal_of_update table rule update is =
    update_in_order (first_column (is_unknown (table ∷ [])) (assigned_columns update.sets ++ where_columns update.cond)) (first_column (is_unknown (table ∷ [])) (assigned_columns update.sets))
    (first_column (is_unknown (table ∷ [])) (where_columns update.cond)) (first_column (is_ambiguous (table ∷ [])) (assigned_columns update.sets ++ where_columns update.cond))
    (cond {A = Option StmtFault} (sets_key table (settings table update.sets)) (Some KeyChanged) None) (sets_fault table (settings table update.sets)) (mismatch_in table update.cond)
    (sets_fit table (settings table update.sets)) (where_fits table update.cond)
    (first-append (is_unknown (table ∷ [])) (assigned_columns update.sets) (where_columns update.cond))
    (none_ambiguous table table.name (assigned_columns update.sets ++ where_columns update.cond) is) (mismatch_is table update.cond)

-- SELECT

select_in_order : (all items wheres orders several : Option (List ℕ)) (compared : Option StmtFault) (fit compare : Bool) → all ≡ option_or items (option_or wheres orders) → several ≡ None →
    compared ≡ cond {A = Option StmtFault} compare None (Some TypeMismatch) →
    option_or (option_map NoColumn all) (option_or (option_map Ambiguous several) (option_or (cond {A = Option StmtFault} fit compared (Some TypeMismatch)) None))
    ≡ option_or (option_map NoColumn items) (option_or (option_map NoColumn wheres) (option_or (option_map NoColumn orders) (cond {A = Option StmtFault} (fit && compare) None (Some TypeMismatch))))
select_in_order all items wheres orders several compared fit compare joined none types =
    rw (joined, none, types, types_last fit compare)
    (names_first items (option_or wheres orders) (cond {A = Option StmtFault} (fit && compare) None (Some TypeMismatch))
    ∙ ap (option_or (option_map NoColumn items)) (names_first wheres orders (cond {A = Option StmtFault} (fit && compare) None (Some TypeMismatch))))

pub refusal_of_select : (table : TableDef) (rule : Rule) (select : Select) → IsTable table →
    refusal table rule (statement.Select select) ≡ chosen_fault table select
refusal_of_select table rule select is =
    let known = called table (known_name select.tab) in
    let unknown = is_unknown (known ∷ []) in
    select_in_order (first_column unknown (named_columns select)) (first_column unknown (item_columns select.items)) (first_column unknown (where_columns select.cond)) (first_column unknown (order_columns select.order))
    (first_column (is_ambiguous (known ∷ [])) (named_columns select)) (mismatch_in known select.cond) (calls_fit known select.items) (where_fits known select.cond)
    (first-append unknown (item_columns select.items) (where_columns select.cond ++ order_columns select.order)
    ∙ ap (option_or (first_column unknown (item_columns select.items))) (first-append unknown (where_columns select.cond) (order_columns select.order)))
    (none_ambiguous table (known_name select.tab) (named_columns select) is) (mismatch_is known select.cond)

-- WHAT IS TOLD

-- a fault that the code finds is told, where what it looks for is the refusal
pub told_by : (refusals found : Option StmtFault) (fault : StmtFault) → refusals ≡ found →
    (fault ≡ NoMemory) ⊎ (found ≡ Some fault) → (fault ≡ NoMemory) ⊎ (refusals ≡ Some fault)
told_by refusals found fault same (inl none) = inl none
told_by refusals found fault same (inr is) = inr (same ∙ is)

pub told_of_select : (table : TableDef) (rule : Rule) (s : TableStatement) (select : Select) (fault : StmtFault) → IsTable table →
    s ≡ statement.Select select →
    (fault ≡ NoMemory) ⊎ (chosen_fault table select ≡ Some fault) → (fault ≡ NoMemory) ⊎ (refusal table rule s ≡ Some fault)
told_of_select table rule s select fault is selects =
    told_by (refusal table rule s) (chosen_fault table select) fault (ap (refusal table rule) selects ∙ refusal_of_select table rule select is)

pub none_of_select : (table : TableDef) (rule : Rule) (s : TableStatement) (select : Select) → IsTable table → s ≡ statement.Select select →
    chosen_fault table select ≡ None → refusal table rule s ≡ None
none_of_select table rule s select is selects none = ap (refusal table rule) selects ∙ refusal_of_select table rule select is ∙ none

pub told_of_update : (table : TableDef) (rule : Rule) (s : TableStatement) (update : Update) (fault : StmtFault) → IsTable table →
    s ≡ statement.Update update →
    (fault ≡ NoMemory) ⊎ (update_fault table update ≡ Some fault) → (fault ≡ NoMemory) ⊎ (refusal table rule s ≡ Some fault)
told_of_update table rule s update fault is updates =
    told_by (refusal table rule s) (update_fault table update) fault (ap (refusal table rule) updates ∙ refusal_of_update table rule update is)

pub none_of_update : (table : TableDef) (rule : Rule) (s : TableStatement) (update : Update) → IsTable table → s ≡ statement.Update update →
    update_fault table update ≡ None → refusal table rule s ≡ None
none_of_update table rule s update is updates none = ap (refusal table rule) updates ∙ refusal_of_update table rule update is ∙ none

pub told_of_delete : (table : TableDef) (rule : Rule) (s : TableStatement) (delete : Delete) (fault : StmtFault) → IsTable table →
    s ≡ statement.Delete delete →
    (fault ≡ NoMemory) ⊎ (where_fault table delete.cond ≡ Some fault) → (fault ≡ NoMemory) ⊎ (refusal table rule s ≡ Some fault)
told_of_delete table rule s delete fault is deletes =
    told_by (refusal table rule s) (where_fault table delete.cond) fault (ap (refusal table rule) deletes ∙ refusal_of_delete table rule delete is)

pub none_of_delete : (table : TableDef) (rule : Rule) (s : TableStatement) (delete : Delete) → IsTable table → s ≡ statement.Delete delete →
    where_fault table delete.cond ≡ None → refusal table rule s ≡ None
none_of_delete table rule s delete is deletes none = ap (refusal table rule) deletes ∙ refusal_of_delete table rule delete is ∙ none
