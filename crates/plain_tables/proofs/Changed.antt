-- The rows that an UPDATE puts have the keys of the rows that it found.
use Rattle.std.proofs.Common.{◌≡◌, ℕ, zero, suc, ◌+◌, ◌==◌, pos, Bool, true, false, not, List, [], ◌∷◌, map, Option, Some, None, Result, Ok, Err, refl, arith, sym, ◌∙◌, ap, subst, cond}
use Rattle.std.specs.Prelude.{FitsSigned, IsSome, slice_get}
use Rattle.std.specs.Int.{w64}
use Rattle.std.specs.List.{AllByRecursion, filter, zip}
use Rattle.std.specs.Option.{option_map_or}
use Rattle.std.specs.Result.{result_ok, result_err}
use Rattle.std.proofs.lemmas.Bool.{both_ways, or_parts}
use Rattle.sql_values.specs.declared.table.ColumnDef.{ColumnDef}
use Rattle.sql_values.specs.declared.table.TableDef.{TableDef}
use Rattle.sql_values.specs.declared.value.Value.{Value}
use Rattle.sql_values.specs.declared.value.Value.TheVariants as value
use Rattle.sql_values.specs.Expressions.{number_of}
use Rattle.part_rules.specs.declared.rule.Rule.{Rule}
use Rattle.part_rules.specs.Placing.{part}
use Rattle.stmt_plan.specs.declared.planned.SetColumn.{SetColumn}
use Rattle.stmt_plan.specs.Settings.{sets_key}
use Rattle.plain_tables.specs.Rows.{Row, key_of, HasKey}
use Rattle.plain_tables.specs.Updates.{map_ok, and_then, set_to, held_in, with_value, set_one, set_all, set_rows, is_same_row, changed, UpdatesKeepKeys, UpdatesAreRows}

-- RESULTS

pub same_value : {T E : Type 0} (x y : T) → ◌≡◌ {A = Result T E} (Ok x) (Ok y) → x ≡ y
same_value x y is = let same : Some x ≡ Some y = ap result_ok is in cc

-- one step after the other: the first gave a value, and the second went on from there
pub then_ok : {T U E : Type 0} (r : Result T E) (f : T → Result U E) (y : U) → and_then r f ≡ Ok y → (x : T) × (r ≡ Ok x) × (f x ≡ Ok y)
then_ok (Ok x) f y is = (x, refl, is)
then_ok (Err e) f y is = let no : Some e ≡ None = ap result_err is in cc

pub mapped_ok : {T U E : Type 0} (r : Result T E) (f : T → U) (y : U) → map_ok f r ≡ Ok y → (x : T) × (r ≡ Ok x) × (f x ≡ y)
mapped_ok (Ok x) f y is = (x, refl, same_value (f x) y is)
mapped_ok (Err e) f y is = let no : Some e ≡ None = ap result_err is in cc

-- ONE ROW

-- a value elsewhere stays
others_stay : (row : Row) (place key : ℕ) (v : Value) → (place ≡ key → ⊥) → slice_get (with_value row place v) key ≡ slice_get row key
others_stay [] place key v apart = refl
others_stay (old ∷ row) zero zero v apart = absurd (apart refl)
others_stay (old ∷ row) zero (suc key) v apart = refl
others_stay (old ∷ row) (suc place) zero v apart = refl
others_stay (old ∷ row) (suc place) (suc key) v apart = others_stay row place key v (λ same. apart (ap (λ (n : ℕ). suc n) same))

-- by cases on the column
set_by : (def : TableDef) (number : ℕ) (s : SetColumn) (row new : Row) (o : Option ColumnDef) → (s.column ≡ def.key → ⊥) →
    option_map_or (λ (column : ColumnDef). map_ok (with_value row s.column) (held_in column number (set_to def row s.value))) o (Ok row) ≡ Ok new →
    slice_get new def.key ≡ slice_get row def.key
set_by def number s row new None apart is = ap (λ (r : Row). slice_get r def.key) (sym (same_value row new is))
set_by def number s row new (Some column) apart is =
    let held = mapped_ok (held_in column number (set_to def row s.value)) (with_value row s.column) new is in
    ap (λ (r : Row). slice_get r def.key) (sym held.2) ∙ others_stay row s.column def.key held.0 apart

not_key : (def : TableDef) (s : SetColumn) → (s.column == def.key) ≡ false → s.column ≡ def.key → ⊥
not_key def s other same =
    let self : (def.key == def.key) ≡ true = grind arith in
    both_ways (def.key == def.key) (subst (λ (k : ℕ). (k == def.key) ≡ false) same other) self

all_set : (def : TableDef) (number : ℕ) (sets : List SetColumn) (row new : Row) → sets_key def sets ≡ false → set_all def number sets row ≡ Ok new →
    slice_get new def.key ≡ slice_get row def.key
unfolding set_all
all_set def number [] row new free is = ap (λ (r : Row). slice_get r def.key) (sym (same_value row new is))
all_set def number (s ∷ sets) row new free is =
    let step = then_ok (set_one def number s row) (set_all def number sets) new is in
    let parts = or_parts (s.column == def.key) (sets_key def sets) free in
    all_set def number sets step.0 new parts.1 step.2
    ∙ set_by def number s row step.0 (slice_get def.columns s.column) (not_key def s parts.0) step.1

-- ROWS

pub updates_keep_keys : UpdatesKeepKeys
unfolding set_rows
updates_keep_keys def sets number [] news free is = ap (map (key_of def)) (sym (same_value [] news is))
updates_keep_keys def sets number (old ∷ olds) news free is =
    let step = then_ok (set_all def number sets old) (λ (new : Row). map_ok (λ (rest : List Row). new ∷ rest) (set_rows def sets (number + 1) olds)) news is in
    let rest = mapped_ok (set_rows def sets (number + 1) olds) (λ (rest : List Row). step.0 ∷ rest) news step.2 in
    let here : key_of def step.0 ≡ key_of def old = ap (λ (v : Option Value). option_map_or number_of v (pos 0)) (all_set def number sets old step.0 free step.1) in
    ap (map (key_of def)) (sym rest.2)
    ∙ ap (λ k. k ∷ map (key_of def) rest.0) here
    ∙ ap (λ ks. key_of def old ∷ ks) (updates_keep_keys def sets (number + 1) olds rest.0 free rest.1)

-- what setting a row keeps, setting rows keeps of each
pub rows_keep : (P : Row → Type 0) (def : TableDef) (sets : List SetColumn) → ((number : ℕ) (old new : Row) → set_all def number sets old ≡ Ok new → P old → P new)
    → (number : ℕ) (olds news : List Row) → set_rows def sets number olds ≡ Ok news → AllByRecursion P olds → AllByRecursion P news
unfolding set_rows
rows_keep P def sets keeps number [] news is all = subst (AllByRecursion P) (same_value [] news is) tt
rows_keep P def sets keeps number (old ∷ olds) news is all =
    let step = then_ok (set_all def number sets old) (λ (new : Row). map_ok (λ (rest : List Row). new ∷ rest) (set_rows def sets (number + 1) olds)) news is in
    let rest = mapped_ok (set_rows def sets (number + 1) olds) (λ (rest : List Row). step.0 ∷ rest) news step.2 in
    subst (AllByRecursion P) rest.2 (keeps number old step.0 step.1 all.0, rows_keep P def sets keeps (number + 1) olds rest.0 rest.1 all.1)

one_more : (P : Row → Type 0) (b : Bool) (p : Row × Row) (rest : List (Row × Row)) → P p.1 → AllByRecursion P (map (λ (q : Row × Row). q.1) rest) →
    AllByRecursion P (map (λ (q : Row × Row). q.1) (cond b (p ∷ rest) rest))
one_more P true p rest here later = (here, later)
one_more P false p rest here later = later

-- what holds of all new rows holds of those whose values changed
pub changed_have : (P : Row → Type 0) (olds news : List Row) → AllByRecursion P news → AllByRecursion P (changed olds news)
changed_have P [] news all = tt
changed_have P (old ∷ olds) [] all = tt
changed_have P (old ∷ olds) (new ∷ news) all =
    one_more P (not (is_same_row old new)) (old, new) (filter (λ (p : Row × Row). not (is_same_row p.0 p.1)) (zip olds news)) all.0 (changed_have P olds news all.1)

-- what holds of a row wherever it holds of one with the same value in the key column
abbrev Keeps : TableDef → (Row → Type 0) → Type 0
Keeps def P = (old new : Row) → slice_get new def.key ≡ slice_get old def.key → P old → P new

changed_keep : (P : Row → Type 0) (def : TableDef) (sets : List SetColumn) (number : ℕ) (olds news : List Row) → Keeps def P → sets_key def sets ≡ false →
    set_rows def sets number olds ≡ Ok news → AllByRecursion P olds → AllByRecursion P (changed olds news)
changed_keep P def sets number olds news keeps free is all =
    changed_have P olds news (rows_keep P def sets (λ n old new set. keeps old new (all_set def n sets old new free set)) number olds news is all)

same_key : (def : TableDef) (old new : Row) → slice_get new def.key ≡ slice_get old def.key → key_of def new ≡ key_of def old
same_key def old new same = ap (λ (v : Option Value). option_map_or number_of v (pos 0)) same

keyed : (def : TableDef) → Keeps def (HasKey def)
keyed def old new same had =
    let key = same_key def old new same in
    record {
      stands = same ∙ had.stands ∙ ap (λ k. Some (value.Number k)) (sym key);
      fits = subst (λ k. FitsSigned w64 k) (sym key) had.fits;
    }

placed : (def : TableDef) (rule : Rule) → Keeps def (λ row. IsSome (part rule (key_of def row)))
placed def rule old new same had = subst (λ k. IsSome (part rule k)) (sym (same_key def old new same)) had

pub updates_are_rows : UpdatesAreRows
updates_are_rows def rule sets number olds news free is rows = record {
  keyed = changed_keep (HasKey def) def sets number olds news (keyed def) free is rows.keyed;
  placed = changed_keep (λ row. IsSome (part rule (key_of def row))) def sets number olds news (placed def rule) free is rows.placed;
}
