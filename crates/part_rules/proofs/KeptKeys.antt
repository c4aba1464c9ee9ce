-- A row on which a condition holds has a key that the condition keeps.
use Rattle.std.proofs.Common.{◌≡◌, ℕ, suc, zero, ℤ, Bool, true, false, not, ◌||◌, ◌&&◌, cond, List, [], ◌∷◌, map, find, Option, Some, None, refl, arith, sym, ◌∙◌, inl, inr, subst, nat_eq}
use Rattle.std.specs.Prelude.{slice_get}
use Rattle.std.specs.List.{list_all, list_any, zip}
use Rattle.std.specs.Option.{option_map, option_map_or}
use Rattle.std.specs.Ordering.{int_cmp}
use Rattle.std.specs.Cmp.Lexicographic.{pointwise, bytes_decides}
use Rattle.std.proofs.lemmas.Bool.{and_parts, cases_Bool, both_ways, or_cases, or_left, or_right}
use Rattle.std.proofs.lemmas.Int.{ints}
use Rattle.std.proofs.lemmas.List.{append-nil}
use Rattle.sql_values.specs.declared.literal.Literal.{Literal}
use Rattle.sql_values.specs.declared.literal.Literal.TheVariants as literal
use Rattle.sql_values.specs.declared.table.ColumnDef.{ColumnDef}
use Rattle.sql_values.specs.declared.table.TableDef.{TableDef}
use Rattle.sql_values.specs.declared.tree.ColumnName.{ColumnName}
use Rattle.sql_values.specs.declared.tree.Comparison.{Comparison}
use Rattle.sql_values.specs.declared.tree.Comparison.TheVariants.{Equal, NotEqual, Less, AtMost, Greater, AtLeast}
use Rattle.sql_values.specs.declared.tree.Operand.{Operand}
use Rattle.sql_values.specs.declared.tree.Operand.TheVariants as operand
use Rattle.sql_values.specs.declared.tree.Cond.{Cond, Cond-F, map-Cond, roll-Cond}
use Rattle.sql_values.specs.declared.tree.Cond.TheFolds.{ind-Cond, fold-roll-Cond}
use Rattle.sql_values.specs.declared.tree.Cond.TheOpen.{All, Any, Not, Compare, In, Between}
use Rattle.sql_values.specs.declared.value.Value.{Value}
use Rattle.sql_values.specs.declared.value.Value.TheVariants as value
use Rattle.sql_values.specs.Columns.{may_mean, may_qualify, column_value}
use Rattle.sql_values.specs.Conditions.{cond_holds, layer_holds, compares, is_met_by, column_literal, operand_literal, unless_negated}
use Rattle.part_rules.specs.Keeps.{keeps, layer_keeps, names_key, mirrored, key_compares, comparison_keeps, is_listed, is_between}
use Rattle.part_rules.specs.KeyRows.{HasOwnKeyName, ConditionsKeepKeys, NoRowIsMissed}

-- the value beside the only column that a name may mean
find_cell : (n : List ℕ) (name : ColumnName) (cs : List ColumnDef) (row : List Value) (k : ℕ) (column : ColumnDef) (v : Value) → slice_get cs k ≡ Some column → may_mean name (n, column) ≡ true → ((j : ℕ) (c : ColumnDef) → slice_get cs j ≡ Some c → may_mean name (n, c) ≡ true → j ≡ k) → slice_get row k ≡ Some v
    → option_map (λ (found : (List ℕ × ColumnDef) × Value). found.1) (find (λ (cell : (List ℕ × ColumnDef) × Value). may_mean name cell.0) (zip (map (λ (c : ColumnDef). (n, c)) cs) row)) ≡ Some v
find_cell n name [] row k column v at means alone value = cc
find_cell n name (c ∷ cs) [] k column v at means alone value = cc
find_cell n name (c ∷ cs) (w ∷ row) zero column v at means alone value =
    let same : c ≡ column = cc in
    let means_here : may_mean name (n, c) ≡ true = rw same means in
    rw means_here value
find_cell n name (c ∷ cs) (w ∷ row) (suc k) column v at means alone value =
    elim (cases_Bool (may_mean name (n, c))) [
      | inl first ↦ let place : 0 ≡ suc k = alone 0 c refl first in absurd (omega arith)
      | inr other ↦ rw other (find_cell n name cs row k column v at means (λ j d found m. let place : suc j ≡ suc k = alone (suc j) d found m in omega arith) value)
    ]

-- by cases on the key column
with_column : (table : TableDef) (name : ColumnName) (o : Option ColumnDef) → slice_get table.columns table.key ≡ o → option_map_or (λ (column : ColumnDef). may_mean name (table.name, column)) o false ≡ true → (column : ColumnDef) × (slice_get table.columns table.key ≡ Some column) × (may_mean name (table.name, column) ≡ true)
with_column table name None at named = absurd (both_ways false refl named)
with_column table name (Some column) at named = (column, at, named)

same_names : (name : ColumnName) (n : List ℕ) (c d : ColumnDef) → may_mean name (n, c) ≡ true → may_mean name (n, d) ≡ true → c.name ≡ d.name
same_names name n c d first second =
    let c_named : pointwise nat_eq c.name name.column ≡ true = (and_parts (may_qualify name.table n) (pointwise nat_eq c.name name.column) first).1 in
    let d_named : pointwise nat_eq d.name name.column ≡ true = (and_parts (may_qualify name.table n) (pointwise nat_eq d.name name.column) second).1 in
    (bytes_decides c.name name.column).0 c_named ∙ sym ((bytes_decides d.name name.column).0 d_named)

pub key_value : (table : TableDef) (row : List Value) (key : ℤ) (name : ColumnName) → HasOwnKeyName table → slice_get row table.key ≡ Some (value.Number key) → names_key table name ≡ true → column_value (table ∷ []) row name ≡ Some (value.Number key)
unfolding column_value
key_value table row key name own at named =
    let found = with_column table name (slice_get table.columns table.key) refl named in
    rw append-nil
    (find_cell table.name name table.columns row table.key found.0 (value.Number key) found.1 found.2
    (λ j c there means. own j c found.0 there found.1 (same_names name table.name c found.0 means found.2)) at)

key_literal : (table : TableDef) (row : List Value) (key : ℤ) (name : ColumnName) → HasOwnKeyName table → slice_get row table.key ≡ Some (value.Number key) → names_key table name ≡ true → column_literal (table ∷ []) row name ≡ literal.Number key
key_literal table row key name own at named = rw (key_value table row key name own at named) refl

-- the two numbers compare so from either side
turned : (c : Comparison) (n key : ℤ) → is_met_by c (int_cmp n key) ≡ is_met_by (mirrored c) (int_cmp key n)
turned Equal n key = grind (arith, ints)
turned NotEqual n key = grind (arith, ints)
turned Less n key = grind (arith, ints)
turned AtMost n key = grind (arith, ints)
turned Greater n key = grind (arith, ints)
turned AtLeast n key = grind (arith, ints)

or_named : (named kept : Bool) → (named ≡ true → kept ≡ true) → (not named || kept) ≡ true
or_named true kept so = so refl
or_named false kept so = refl

comparison_kept : (table : TableDef) (row : List Value) (key : ℤ) → HasOwnKeyName table → slice_get row table.key ≡ Some (value.Number key) → (left : Operand) (c : Comparison) (right : Operand) → compares c (operand_literal (table ∷ []) row left) (operand_literal (table ∷ []) row right) ≡ true → comparison_keeps table key left c right ≡ true
comparison_kept table row key own at (operand.Column name) c (operand.Column other) holds = refl
comparison_kept table row key own at (operand.Column name) c (operand.Literal (literal.Number n)) holds =
    or_named (names_key table name) (key_compares key c n) (λ named. rw (key_literal table row key name own at named) at holds)
comparison_kept table row key own at (operand.Column name) c (operand.Literal (literal.Text t)) holds = refl
comparison_kept table row key own at (operand.Column name) c (operand.Literal literal.Null) holds = refl
comparison_kept table row key own at (operand.Literal (literal.Number n)) c (operand.Column name) holds =
    or_named (names_key table name) (key_compares key (mirrored c) n) (λ named. sym (turned c n key) ∙ rw (key_literal table row key name own at named) at holds)
comparison_kept table row key own at (operand.Literal (literal.Number n)) c (operand.Literal l) holds = refl
comparison_kept table row key own at (operand.Literal (literal.Text t)) c right holds = refl
comparison_kept table row key own at (operand.Literal literal.Null) c right holds = refl

in_kept : (table : TableDef) (row : List Value) (key : ℤ) → HasOwnKeyName table → slice_get row table.key ≡ Some (value.Number key) → (name : ColumnName) (negated : Bool) (list : List Literal) → unless_negated negated (list_any (compares Equal (column_literal (table ∷ []) row name)) list) ≡ true → (negated || (not (names_key table name) || is_listed key list)) ≡ true
in_kept table row key own at name true list holds = refl
in_kept table row key own at name false list holds =
    or_named (names_key table name) (is_listed key list) (λ named. rw (key_literal table row key name own at named) at holds)

between_kept : (table : TableDef) (row : List Value) (key : ℤ) → HasOwnKeyName table → slice_get row table.key ≡ Some (value.Number key) → (name : ColumnName) (negated : Bool) (low high : Literal) → unless_negated negated (compares AtMost low (column_literal (table ∷ []) row name) && compares AtMost (column_literal (table ∷ []) row name) high) ≡ true → (negated || (not (names_key table name) || is_between key low high)) ≡ true
between_kept table row key own at name true low high holds = refl
between_kept table row key own at name false low high holds =
    or_named (names_key table name) (is_between key low high) (λ named. rw (key_literal table row key name own at named) at holds)

-- that a condition keeps the key of the row on which it holds
abbrev Kept : TableDef → List Value → ℤ → Cond → Type 0
Kept table row key c = cond_holds (table ∷ []) row c ≡ true → keeps table key c ≡ true

all_kept : (table : TableDef) (row : List Value) (key : ℤ) (parts : List ((c : Cond) × Kept table row key c)) → list_all (λ b. b) (map (cond_holds (table ∷ []) row) (map (λ e. e.0) parts)) ≡ true → list_all (λ b. b) (map (keeps table key) (map (λ e. e.0) parts)) ≡ true
all_kept table row key [] hold = refl
all_kept table row key (e ∷ parts) hold =
    let both = and_parts (cond_holds (table ∷ []) row e.0) (list_all (λ b. b) (map (cond_holds (table ∷ []) row) (map (λ e. e.0) parts))) hold in
    rw (e.1 both.0) (all_kept table row key parts both.1)

any_kept : (table : TableDef) (row : List Value) (key : ℤ) (parts : List ((c : Cond) × Kept table row key c)) → list_any (λ b. b) (map (cond_holds (table ∷ []) row) (map (λ e. e.0) parts)) ≡ true → list_any (λ b. b) (map (keeps table key) (map (λ e. e.0) parts)) ≡ true
any_kept table row key [] hold = hold
any_kept table row key (e ∷ parts) hold =
    elim (or_cases (cond_holds (table ∷ []) row e.0) (list_any (λ b. b) (map (cond_holds (table ∷ []) row) (map (λ e. e.0) parts))) hold) [
      | inl first ↦ or_left (keeps table key e.0) (list_any (λ b. b) (map (keeps table key) (map (λ e. e.0) parts))) (e.1 first)
      | inr later ↦ or_right (keeps table key e.0) (list_any (λ b. b) (map (keeps table key) (map (λ e. e.0) parts))) (any_kept table row key parts later)
    ]

-- a condition whose parts are known to keep it
abbrev Parts : TableDef → List Value → ℤ → Type 0
Parts table row key = Cond-F ((c : Cond) × Kept table row key c)

abbrev bare : (table : TableDef) (row : List Value) (key : ℤ) → Parts table row key → Cond-F Cond
bare table row key y = map-Cond ((c : Cond) × Kept table row key c) Cond (λ e. e.0) y

layer_kept : (table : TableDef) (row : List Value) (key : ℤ) → HasOwnKeyName table → slice_get row table.key ≡ Some (value.Number key) → (y : Parts table row key)
    → layer_holds (table ∷ []) row (map-Cond Cond Bool (cond_holds (table ∷ []) row) (bare table row key y)) ≡ true → layer_keeps table key (map-Cond Cond Bool (keeps table key) (bare table row key y)) ≡ true
layer_kept table row key own at (All parts) holds = all_kept table row key parts holds
layer_kept table row key own at (Any parts) holds = any_kept table row key parts holds
layer_kept table row key own at (Not part) holds = refl
layer_kept table row key own at (Compare left c right) holds = comparison_kept table row key own at left c right holds
layer_kept table row key own at (In name negated list) holds = in_kept table row key own at name negated list holds
layer_kept table row key own at (Between name negated low high) holds = between_kept table row key own at name negated low high holds

kept_by_parts : (table : TableDef) (row : List Value) (key : ℤ) → HasOwnKeyName table → slice_get row table.key ≡ Some (value.Number key) → (y : Parts table row key) → Kept table row key (roll-Cond (bare table row key y))
kept_by_parts table row key own at y holds =
    fold-roll-Cond Bool (layer_keeps table key) (bare table row key y)
    ∙ layer_kept table row key own at y (sym (fold-roll-Cond Bool (layer_holds (table ∷ []) row) (bare table row key y)) ∙ holds)

pub conditions_keep_keys : ConditionsKeepKeys
conditions_keep_keys table row key cond own at =
    ind-Cond (Kept table row key) (λ x y is. subst (λ (z : Cond-F Cond). Kept table row key (roll-Cond z)) is (kept_by_parts table row key own at y)) cond

pub no_row_is_missed : NoRowIsMissed
no_row_is_missed table row key cond rule keys parts p own at fits holds are pruned place =
    pruned.all p (key, are key fits ∙ conditions_keep_keys table row key cond own at holds, place)
