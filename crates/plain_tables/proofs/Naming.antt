-- The column of a table that a name means.
use Rattle.std.proofs.Common.{◌≡◌, ℕ, ◌<◌, Bool, true, false, ◌&&◌, not, cond, List, [], ◌∷◌, filter, find, map, length, refl, ap, sym, ◌∙◌, arith, Option, Some, None, inl, inr, nat_eq}
use Rattle.std.specs.Prelude.{◌==◌, nat_lt, slice_get, unwrap_or}
use Rattle.std.specs.Cmp.Lexicographic.{pointwise}
use Rattle.std.specs.List.{list_all, position, position_or_len}
use Rattle.std.specs.Option.{is_none, option_map}
use Rattle.std.proofs.lemmas.Bool.{and_parts, cases_Bool, false≢true}
use Rattle.std.proofs.lemmas.Bool.Decides.{nat_tests}
use Rattle.std.proofs.lemmas.List.{append-nil, length-map}
use Rattle.std.proofs.lemmas.List.Folds.{find_at}
use Rattle.std.proofs.lemmas.Option.{slice_get_within}
use Rattle.sql_values.specs.declared.table.ColumnDef.{ColumnDef}
use Rattle.sql_values.specs.declared.table.TableDef.{TableDef}
use Rattle.sql_values.specs.declared.tree.ColumnName.{ColumnName}
use Rattle.sql_values.specs.Checks.{is_unknown}
use Rattle.sql_values.specs.Columns.{column_kind, columns_meant, may_mean, may_qualify}
use Rattle.sql_text.specs.declared.link.AggregateCall.{AggregateCall}
use Rattle.sql_text.specs.declared.link.AggregateCall.TheVariants as call
use Rattle.front_rows.specs.declared.aggregate.AggFun.{AggFun}
use Rattle.front_rows.specs.declared.aggregate.AggFun.TheVariants as fun
use Rattle.front_rows.specs.declared.aggregate.Aggregate.{Aggregate}
use Rattle.stmt_plan.specs.Selects.{aggregate_of, bare_call, bare_name, call_columns, called, kind_at, of_column, place_of}
use Rattle.stmt_plan.proofs.Meant.{found_mapped}

abbrev pub means : TableDef → ColumnName → ColumnDef → Bool
means def name column = may_mean name (def.name, column)

by_first : {X : Type 0} (b : Bool) (x : X) (kept : List X) (found : Option X) → (length kept == 0) ≡ is_none found → (length (cond b (x ∷ kept) kept) == 0) ≡ is_none (cond b (Some x) found)
by_first true x kept found rest = grind arith
by_first false x kept found rest = rest

none_kept : {X : Type 0} (p : X → Bool) (xs : List X) → (length (filter p xs) == 0) ≡ is_none (find p xs)
none_kept p [] = refl
none_kept p (x ∷ xs) = by_first (p x) x (filter p xs) (find p xs) (none_kept p xs)

-- it is unknown where there is none
pub unknown_is : (def : TableDef) (name : ColumnName) → is_unknown (def ∷ []) name ≡ is_none (find (means def name) def.columns)
unfolding columns_meant
unknown_is def name = rw (append-nil, found_mapped, length-map) (none_kept (means def name) def.columns)

is_there : (column : Option ColumnDef) → is_none column ≡ false → (c : ColumnDef) × (column ≡ Some c)
is_there None some = absurd (false≢true (sym some))
is_there (Some c) some = (c, refl)

-- a name that is known means a column
pub known_column : (def : TableDef) (name : ColumnName) → is_unknown (def ∷ []) name ≡ false → (c : ColumnDef) × (find (means def name) def.columns ≡ Some c)
known_column def name known = is_there (find (means def name) def.columns) (sym (unknown_is def name) ∙ known)

kind_mapped : (name : ColumnName) (n : List ℕ) (columns : List ColumnDef)
    → option_map (λ (found : List ℕ × ColumnDef). found.1.kind) (find (may_mean name) (map (λ (c : ColumnDef). (n, c)) columns)) ≡ option_map (λ (c : ColumnDef). c.kind) (find (λ (c : ColumnDef). may_mean name (n, c)) columns)
kind_mapped name n [] = refl
kind_mapped name n (c ∷ columns) = step (may_mean name (n, c)) (find (may_mean name) (map (λ (d : ColumnDef). (n, d)) columns)) (find (λ (d : ColumnDef). may_mean name (n, d)) columns) (kind_mapped name n columns)
  where
    step : (b : Bool) (here : Option (List ℕ × ColumnDef)) (there : Option ColumnDef) → option_map (λ (found : List ℕ × ColumnDef). found.1.kind) here ≡ option_map (λ (d : ColumnDef). d.kind) there
        → option_map (λ (found : List ℕ × ColumnDef). found.1.kind) (cond b (Some (n, c)) here) ≡ option_map (λ (d : ColumnDef). d.kind) (cond b (Some c) there)
    step true here there rest = refl
    step false here there rest = rest

-- its kind is that of the column
pub kind_is : (def : TableDef) (name : ColumnName) → column_kind (def ∷ []) name ≡ option_map (λ (c : ColumnDef). c.kind) (find (means def name) def.columns)
unfolding column_kind
kind_is def name = rw append-nil (kind_mapped name def.name def.columns)

-- ITS PLACE

placed_by : {X : Type 0} (xs : List X) (n : ℕ) (x : X) (b : Bool) → b ≡ true → slice_get xs n ≡ Some x → slice_get xs (unwrap_or (cond b (Some n) None) 0) ≡ Some x
placed_by xs n x true is at = at
placed_by xs n x false is at = absurd (false≢true is)

within : (n m : ℕ) → n < m → nat_lt n m ≡ true
within n m less = grind (arith, nat_tests)

-- the first element that passes stands at its place
placed : {X : Type 0} (p : X → Bool) (xs : List X) (x : X) → find p xs ≡ Some x → slice_get xs (unwrap_or (position p xs) 0) ≡ Some x
placed p xs x found =
    let n = position_or_len p xs in
    let at : slice_get xs n ≡ Some x = sym (find_at p xs) ∙ found in
    placed_by xs n x (nat_lt n (length xs)) (within n (length xs) (slice_get_within xs n x at)) at

pub column_at : (def : TableDef) (name : ColumnName) (column : ColumnDef) → find (means def name) def.columns ≡ Some column → slice_get def.columns (place_of def name) ≡ Some column
column_at def name column found = placed (means def name) def.columns column found

-- WITHOUT THE NAME OF THE TABLE

found_passes : {X : Type 0} (p : X → Bool) (xs : List X) (x : X) → find p xs ≡ Some x → p x ≡ true
found_passes p [] x found = let no : None ≡ Some x = found in cc
found_passes p (y ∷ ys) x found = elim (cases_Bool (p y)) [
  | inl here ↦ let first : Some y ≡ Some x = rw here at found in let same : y ≡ x = cc in sym (ap p same) ∙ here
  | inr other ↦ found_passes p ys x (rw other at found)
]

-- a qualifier of a name that is known is the table's name
qualified : (def : TableDef) (n : List ℕ) (name : ColumnName) → is_unknown (called def n ∷ []) name ≡ false → may_qualify name.table n ≡ true
qualified def n name known =
    let column = known_column (called def n) name known in
    (and_parts (may_qualify name.table n) (pointwise nat_eq column.0.name name.column) (found_passes (means (called def n) name) def.columns column.0 column.1)).0

-- so it means the same column without it, whatever the table is called
pub bare_place : (def : TableDef) (n : List ℕ) (name : ColumnName) → is_unknown (called def n ∷ []) name ≡ false → place_of def (bare_name name) ≡ place_of (called def n) name
bare_place def n name known =
    ap (λ b. unwrap_or (position (λ (column : ColumnDef). b && pointwise nat_eq column.name name.column) def.columns) 0) (sym (qualified def n name known))

bare_column : (def : TableDef) (n : List ℕ) (f : AggFun) (name : ColumnName) → is_unknown (called def n ∷ []) name ≡ false → of_column def f (bare_name name) ≡ of_column (called def n) f name
bare_column def n f name known = ap {B = Aggregate} (λ place. record { fun = f; column = place; kind = kind_at def place }) (bare_place def n name known)

alone : (b : Bool) → (not b && true) ≡ true → b ≡ false
alone true is = absurd (false≢true is)
alone false is = refl

-- what is asked for under one name of the table is the same without it
pub bare_aggregate : (def : TableDef) (n : List ℕ) (c : AggregateCall) → list_all (λ name. not (is_unknown (called def n ∷ []) name)) (call_columns c) ≡ true → aggregate_of def (bare_call c) ≡ aggregate_of (called def n) c
bare_aggregate def n call.Count known = refl
bare_aggregate def n (call.Sum name) known = bare_column def n fun.Sum name (alone (is_unknown (called def n ∷ []) name) known)
bare_aggregate def n (call.Min name) known = bare_column def n fun.Min name (alone (is_unknown (called def n ∷ []) name) known)
bare_aggregate def n (call.Max name) known = bare_column def n fun.Max name (alone (is_unknown (called def n ∷ []) name) known)
