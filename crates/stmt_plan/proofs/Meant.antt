-- What names of columns mean in one table.
use Rattle.std.proofs.Common.{◌≡◌, ℕ, suc, ◌+◌, Bool, true, false, not, cond, List, [], ◌∷◌, map, length, refl, ap, sym, ◌∙◌, arith, Option, Some, None, filter}
use Rattle.std.specs.Prelude.{nat_lt, ◌==◌}
use Rattle.std.specs.List.{position, position_or_len}
use Rattle.std.specs.Option.{is_none}
use Rattle.std.proofs.lemmas.List.{append-nil, length-map}
use Rattle.sql_values.specs.declared.table.ColumnDef.{ColumnDef}
use Rattle.sql_values.specs.declared.table.TableDef.{TableDef}
use Rattle.sql_values.specs.declared.tree.ColumnName.{ColumnName}
use Rattle.sql_values.specs.Checks.{is_unknown}
use Rattle.sql_values.specs.Columns.{may_mean, columns_meant}

none_if : {X : Type 0} (n m : ℕ) (v : X) → is_none (cond (nat_lt n m) (Some v) None) ≡ not (nat_lt n m)
none_if n m v = grind arith

found_none : {X : Type 0} (p : X → Bool) (xs : List X) → (length (filter p xs) == 0) ≡ not (nat_lt (position_or_len p xs) (length xs))
found_none p [] = refl
found_none p (x ∷ xs) =
    let rest : (length (filter p xs) == 0) ≡ not (nat_lt (position_or_len p xs) (length xs)) = found_none p xs in
    step (p x) (filter p xs) (position_or_len p xs) (length xs) x rest
  where
    step : {X : Type 0} (b : Bool) (kept : List X) (n m : ℕ) (x : X) → (length kept == 0) ≡ not (nat_lt n m) →
        (length (cond b (x ∷ kept) kept) == 0) ≡ not (nat_lt (cond (not b) (1 + n) 0) (suc m))
    step true kept n m x rest = grind arith
    step false kept n m x rest = grind arith

pub found_mapped : {X Y : Type 0} (v : X → Y) (p : Y → Bool) (xs : List X) → filter p (map v xs) ≡ map v (filter (λ x. p (v x)) xs)
found_mapped v p [] = refl
found_mapped v p (x ∷ xs) = step (p (v x)) (found_mapped v p xs)
  where
    step : (b : Bool) → filter p (map v xs) ≡ map v (filter (λ x. p (v x)) xs) →
        cond b (v x ∷ filter p (map v xs)) (filter p (map v xs)) ≡ map v (cond b (x ∷ filter (λ x. p (v x)) xs) (filter (λ x. p (v x)) xs))
    step true rest = ap (λ ys. v x ∷ ys) rest
    step false rest = rest

-- a name is unknown where it means no column of the table
pub unknown_is : (table : TableDef) (name : ColumnName) →
    is_unknown (table ∷ []) name ≡ is_none (position (λ (column : ColumnDef). may_mean name (table.name, column)) table.columns)
unfolding columns_meant
unknown_is table name =
    rw (append-nil, found_mapped, length-map)
    (found_none (λ (column : ColumnDef). may_mean name (table.name, column)) table.columns
    ∙ sym (none_if (position_or_len (λ (column : ColumnDef). may_mean name (table.name, column)) table.columns) (length table.columns) (position_or_len (λ (column : ColumnDef). may_mean name (table.name, column)) table.columns)))

pub known_at : (table : TableDef) (name : ColumnName) (columns : List ColumnDef) (place : Option ℕ) → columns ≡ table.columns →
    place ≡ position (λ (column : ColumnDef). may_mean name (table.name, column)) columns → is_unknown (table ∷ []) name ≡ is_none place
known_at table name columns place same found =
    unknown_is table name ∙ ap is_none (ap (λ (cs : List ColumnDef). position (λ (column : ColumnDef). may_mean name (table.name, column)) cs) (sym same) ∙ sym found)
