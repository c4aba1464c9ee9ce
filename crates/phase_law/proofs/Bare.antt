-- A condition without the names of tables fits each table with the same columns.
use Rattle.std.proofs.Common.{◌≡◌, ℕ, suc, ◌≤◌, ◌==◌, nat_lt, nat_eq, Bool, true, false, ◌&&◌, List, [], ◌∷◌, ◌++◌, map, length, filter, find, Option, Some, None, refl, arith, sym, ◌∙◌, ap, subst, inl, inr, cond, flat_map}
use Rattle.std.specs.Prelude.{slice_get}
use Rattle.std.specs.List.{list_all}
use Rattle.std.specs.Option.{option_map, option_or}
use Rattle.std.specs.Cmp.Lexicographic.{pointwise, bytes_decides}
use Rattle.std.proofs.lemmas.Bool.{cases_Bool, both_ways, and_parts}
use Rattle.std.proofs.lemmas.List.{append-nil, length-map}
use Rattle.std.proofs.lemmas.List.Folds.{find-append}
use Rattle.sql_values.specs.declared.table.ColumnDef.{ColumnDef}
use Rattle.sql_values.specs.declared.table.Kind.{Kind}
use Rattle.sql_values.specs.declared.table.TableDef.{TableDef}
use Rattle.sql_values.specs.declared.tree.ColumnName.{ColumnName}
use Rattle.sql_values.specs.declared.tree.Operand.{Operand}
use Rattle.sql_values.specs.declared.tree.Operand.TheVariants as operand
use Rattle.sql_values.specs.declared.tree.Cond.{Cond, Cond-F, map-Cond, roll-Cond}
use Rattle.sql_values.specs.declared.tree.Cond.TheFolds.{ind-Cond, fold-roll-Cond}
use Rattle.sql_values.specs.declared.tree.Cond.TheOpen.{All, Any, Not, Compare, In, Between}
use Rattle.sql_values.specs.declared.tree.Cond.TheVariants.{rolls-All, rolls-Any, rolls-Not, rolls-Compare, rolls-In, rolls-Between}
use Rattle.sql_values.specs.Checks.{is_unknown, is_ambiguous, first_column, cond_columns, cond_fits, layer_columns, layer_fits, operand_columns, operand_kind}
use Rattle.sql_values.specs.Columns.{may_mean, may_qualify, columns_meant, column_kind}
use Rattle.sql_values.specs.Kinds.{literal_kind, are_comparable}
use Rattle.stmt_plan.specs.Plans.{IsTable}
use Rattle.stmt_plan.specs.Selects.{called, bare_name, bare_operand, bare_layer, unqualified}
use Rattle.stmt_plan.proofs.Meant.{found_mapped}
use Rattle.plain_tables.proofs.Scanned.{both_none}

-- NAMES

-- a list's elements that pass are as many, and the first of them has the same kind
counted_alike : (b : Bool) (c : ColumnDef) (n m : List ℕ) (xs ys : List (List ℕ × ColumnDef)) → length xs ≡ length ys → length (cond b ((m, c) ∷ xs) xs) ≡ length (cond b ((n, c) ∷ ys) ys)
counted_alike true c n m xs ys same = ap (λ (k : ℕ). suc k) same
counted_alike false c n m xs ys same = same

meant_alike : (name : ColumnName) (n m : List ℕ) (columns : List ColumnDef) → may_qualify name.table n ≡ true
    → length (filter (may_mean (bare_name name)) (map (λ (c : ColumnDef). (m, c)) columns)) ≡ length (filter (may_mean name) (map (λ (c : ColumnDef). (n, c)) columns))
meant_alike name n m [] fits = refl
meant_alike name n m (c ∷ columns) fits = rw fits (counted_alike (pointwise nat_eq c.name name.column) c n m _ _ (meant_alike name n m columns fits))

found_alike : (b : Bool) (c : ColumnDef) (n m : List ℕ) (xs ys : Option (List ℕ × ColumnDef)) → option_map (λ (found : List ℕ × ColumnDef). found.1.kind) xs ≡ option_map (λ (found : List ℕ × ColumnDef). found.1.kind) ys
    → option_map (λ (found : List ℕ × ColumnDef). found.1.kind) (cond b (Some (m, c)) xs) ≡ option_map (λ (found : List ℕ × ColumnDef). found.1.kind) (cond b (Some (n, c)) ys)
found_alike true c n m xs ys same = refl
found_alike false c n m xs ys same = same

kind_alike : (name : ColumnName) (n m : List ℕ) (columns : List ColumnDef) → may_qualify name.table n ≡ true
    → option_map (λ (found : List ℕ × ColumnDef). found.1.kind) (find (may_mean (bare_name name)) (map (λ (c : ColumnDef). (m, c)) columns))
    ≡ option_map (λ (found : List ℕ × ColumnDef). found.1.kind) (find (may_mean name) (map (λ (c : ColumnDef). (n, c)) columns))
kind_alike name n m [] fits = refl
kind_alike name n m (c ∷ columns) fits = rw fits (found_alike (pointwise nat_eq c.name name.column) c n m _ _ (kind_alike name n m columns fits))

none_meant : (name : ColumnName) (n : List ℕ) (columns : List ColumnDef) → may_qualify name.table n ≡ false → filter (may_mean name) (map (λ (c : ColumnDef). (n, c)) columns) ≡ []
none_meant name n [] other = refl
none_meant name n (c ∷ columns) other = rw other (none_meant name n columns other)

qualifies : (def : TableDef) (n : List ℕ) (name : ColumnName) → is_unknown (called def n ∷ []) name ≡ false → may_qualify name.table n ≡ true
unfolding columns_meant
qualifies def n name known = elim (cases_Bool (may_qualify name.table n)) [
  | inl fits ↦ fits
  | inr other ↦
      let none : (length (filter (may_mean name) (map (λ (c : ColumnDef). (n, c)) def.columns ++ [])) == 0) ≡ true = rw (append-nil, none_meant name n def.columns other) refl in
      absurd (both_ways _ known none)
]

-- a name that is known is known without its table, under any name of that, and means a column of the same kind
pub bare_is_known : (def : TableDef) (n m : List ℕ) (name : ColumnName) → is_unknown (called def n ∷ []) name ≡ false → is_unknown (called def m ∷ []) (bare_name name) ≡ false
unfolding columns_meant
bare_is_known def n m name known =
    let same : length (columns_meant (bare_name name) (called def m ∷ [])) ≡ length (columns_meant name (called def n ∷ [])) =
    ap length (ap (filter (may_mean (bare_name name))) (append-nil {A = List ℕ × ColumnDef} (map (λ (c : ColumnDef). (m, c)) def.columns)))
    ∙ (meant_alike name n m def.columns (qualifies def n name known)
    ∙ sym (ap length (ap (filter (may_mean name)) (append-nil {A = List ℕ × ColumnDef} (map (λ (c : ColumnDef). (n, c)) def.columns))))) in
    ap (λ k. k == 0) same ∙ known

pub bare_kind : (def : TableDef) (n m : List ℕ) (name : ColumnName) → is_unknown (called def n ∷ []) name ≡ false → column_kind (called def m ∷ []) (bare_name name) ≡ column_kind (called def n ∷ []) name
unfolding column_kind
bare_kind def n m name known =
    rw (append-nil {A = List ℕ × ColumnDef} (map (λ (c : ColumnDef). (m, c)) def.columns), append-nil {A = List ℕ × ColumnDef} (map (λ (c : ColumnDef). (n, c)) def.columns))
    (kind_alike name n m def.columns (qualifies def n name known))

-- CONDITIONS

abbrev pub AreKnown : TableDef → List ℕ → List ColumnName → Type 0
AreKnown def n names = find (is_unknown (called def n ∷ [])) names ≡ None

pub known_parts : (def : TableDef) (n : List ℕ) (xs ys : List ColumnName) → AreKnown def n (xs ++ ys) → AreKnown def n xs × AreKnown def n ys
known_parts def n xs ys known = both_none (find (is_unknown (called def n ∷ [])) xs) (find (is_unknown (called def n ∷ [])) ys) (sym (find-append (is_unknown (called def n ∷ [])) xs ys) ∙ known)

known_both : (def : TableDef) (n : List ℕ) (xs ys : List ColumnName) → AreKnown def n xs → AreKnown def n ys → AreKnown def n (xs ++ ys)
known_both def n xs ys left right =
    find-append (is_unknown (called def n ∷ [])) xs ys ∙ (ap (λ o. option_or o (find (is_unknown (called def n ∷ [])) ys)) left ∙ right)

pub known_alone : (def : TableDef) (n : List ℕ) (name : ColumnName) → AreKnown def n (name ∷ []) → is_unknown (called def n ∷ []) name ≡ false
known_alone def n name known = not_found (is_unknown (called def n ∷ []) name) known
  where
    not_found : (b : Bool) → cond {A = Option ColumnName} b (Some name) None ≡ None → b ≡ false
    not_found false none = refl
    not_found true none = absurd (let no : Some name ≡ None = none in cc)

pub alone_known : (def : TableDef) (n : List ℕ) (name : ColumnName) → is_unknown (called def n ∷ []) name ≡ false → AreKnown def n (name ∷ [])
alone_known def n name known = ap (λ b. cond {A = Option ColumnName} b (Some name) None) known

module _ (def : TableDef) (n m : List ℕ) where
  -- each column of a condition without its table is known, and its kinds go together where they did
  abbrev FitsAlike : Cond → Type 0
  FitsAlike c = AreKnown def n (cond_columns c) → AreKnown def m (cond_columns (unqualified c)) × (cond_fits (called def m ∷ []) (unqualified c) ≡ cond_fits (called def n ∷ []) c)

  abbrev Parts : Type 0
  Parts = Cond-F ((c : Cond) × FitsAlike c)

  abbrev bare : Parts → Cond-F Cond
  bare y = map-Cond ((c : Cond) × FitsAlike c) Cond (λ e. e.0) y

  columns_layer : (c : Cond) (layer : Cond-F Cond) → roll-Cond layer ≡ c → cond_columns c ≡ layer_columns (map-Cond Cond (List ColumnName) cond_columns layer)
  columns_layer c layer rolls = ap cond_columns (sym rolls) ∙ fold-roll-Cond (List ColumnName) layer_columns layer

  fits_layer : (tables : List TableDef) (c : Cond) (layer : Cond-F Cond) → roll-Cond layer ≡ c → cond_fits tables c ≡ layer_fits tables (map-Cond Cond Bool (cond_fits tables) layer)
  fits_layer tables c layer rolls = ap (cond_fits tables) (sym rolls) ∙ fold-roll-Cond Bool (layer_fits tables) layer

  parts_alike : (parts : List ((c : Cond) × FitsAlike c)) → AreKnown def n (flat_map (λ names. names) (map cond_columns (map (λ e. e.0) parts)))
      → AreKnown def m (flat_map (λ names. names) (map cond_columns (map unqualified (map (λ e. e.0) parts))))
      × (list_all (λ b. b) (map (cond_fits (called def m ∷ [])) (map unqualified (map (λ e. e.0) parts))) ≡ list_all (λ b. b) (map (cond_fits (called def n ∷ [])) (map (λ e. e.0) parts)))
  parts_alike [] known = (refl, refl)
  parts_alike (e ∷ parts) known =
      let both = known_parts def n (cond_columns e.0) (flat_map (λ names. names) (map cond_columns (map (λ e. e.0) parts))) known in
      let here = e.1 both.0 in
      let rest = parts_alike parts both.1 in
      (known_both def m (cond_columns (unqualified e.0)) (flat_map (λ names. names) (map cond_columns (map unqualified (map (λ e. e.0) parts)))) here.0 rest.0, rw (here.1, rest.1) refl)

  operand_alike : (side : Operand) → AreKnown def n (operand_columns side)
      → AreKnown def m (operand_columns (bare_operand side)) × (operand_kind (called def m ∷ []) (bare_operand side) ≡ operand_kind (called def n ∷ []) side)
  operand_alike (operand.Column name) known = let is = known_alone def n name known in (alone_known def m (bare_name name) (bare_is_known def n m name is), bare_kind def n m name is)
  operand_alike (operand.Literal l) known = (refl, refl)

  abbrev Layer : Cond → Parts → Type 0
  Layer c y = AreKnown def m (cond_columns c) × (cond_fits (called def m ∷ []) c ≡ layer_fits (called def n ∷ []) (map-Cond Cond Bool (cond_fits (called def n ∷ [])) (bare y)))

  layer_alike : (y : Parts) → AreKnown def n (layer_columns (map-Cond Cond (List ColumnName) cond_columns (bare y))) → Layer (bare_layer (map-Cond Cond Cond unqualified (bare y))) y
  layer_alike (All parts) known =
      let both = parts_alike parts known in
      let layer : Cond-F Cond = All (map unqualified (map (λ e. e.0) parts)) in
      (ap (find (is_unknown (called def m ∷ []))) (columns_layer _ layer (rolls-All _)) ∙ both.0, fits_layer (called def m ∷ []) _ layer (rolls-All _) ∙ both.1)
  layer_alike (Any parts) known =
      let both = parts_alike parts known in
      let layer : Cond-F Cond = Any (map unqualified (map (λ e. e.0) parts)) in
      (ap (find (is_unknown (called def m ∷ []))) (columns_layer _ layer (rolls-Any _)) ∙ both.0, fits_layer (called def m ∷ []) _ layer (rolls-Any _) ∙ both.1)
  layer_alike (Not part) known =
      let both = part.1 known in
      let layer : Cond-F Cond = Not (unqualified part.0) in
      (ap (find (is_unknown (called def m ∷ []))) (columns_layer _ layer (rolls-Not _)) ∙ both.0, fits_layer (called def m ∷ []) _ layer (rolls-Not _) ∙ both.1)
  layer_alike (Compare left c right) known =
      let sides = known_parts def n (operand_columns left) (operand_columns right) known in
      let first = operand_alike left sides.0 in
      let second = operand_alike right sides.1 in
      let layer : Cond-F Cond = Compare (bare_operand left) c (bare_operand right) in (
        ap (find (is_unknown (called def m ∷ []))) (columns_layer _ layer (rolls-Compare _ _ _)) ∙ known_both def m (operand_columns (bare_operand left)) (operand_columns (bare_operand right)) first.0 second.0,
        fits_layer (called def m ∷ []) _ layer (rolls-Compare _ _ _) ∙ rw (first.1, second.1) refl,
      )
  layer_alike (In name negated list) known =
      let is = known_alone def n name known in
      let layer : Cond-F Cond = In (bare_name name) negated list in (
        ap (find (is_unknown (called def m ∷ []))) (columns_layer _ layer (rolls-In _ _ _)) ∙ alone_known def m (bare_name name) (bare_is_known def n m name is),
        fits_layer (called def m ∷ []) _ layer (rolls-In _ _ _) ∙ ap (λ (k : Option Kind). list_all (λ l. are_comparable k (literal_kind l)) list) (bare_kind def n m name is),
      )
  layer_alike (Between name negated low high) known =
      let is = known_alone def n name known in
      let layer : Cond-F Cond = Between (bare_name name) negated low high in (
        ap (find (is_unknown (called def m ∷ []))) (columns_layer _ layer (rolls-Between _ _ _ _)) ∙ alone_known def m (bare_name name) (bare_is_known def n m name is),
        fits_layer (called def m ∷ []) _ layer (rolls-Between _ _ _ _) ∙ ap (λ (k : Option Kind). are_comparable k (literal_kind low) && are_comparable k (literal_kind high)) (bare_kind def n m name is),
      )

  alike_by_parts : (y : Parts) → FitsAlike (roll-Cond (bare y))
  alike_by_parts y known =
      let made : unqualified (roll-Cond (bare y)) ≡ bare_layer (map-Cond Cond Cond unqualified (bare y)) = fold-roll-Cond Cond bare_layer (bare y) in
      let layer = layer_alike y (ap (find (is_unknown (called def n ∷ []))) (sym (fold-roll-Cond (List ColumnName) layer_columns (bare y))) ∙ known) in
      (ap (λ c. find (is_unknown (called def m ∷ [])) (cond_columns c)) made ∙ layer.0, ap (cond_fits (called def m ∷ [])) made ∙ (layer.1 ∙ sym (fold-roll-Cond Bool (layer_fits (called def n ∷ [])) (bare y))))

  pub conditions_fit_alike : (c : Cond) → FitsAlike c
  conditions_fit_alike = ind-Cond FitsAlike (λ x y is. subst (λ (z : Cond-F Cond). FitsAlike (roll-Cond z)) is (alike_by_parts y))

-- NO NAME IS AMBIGUOUS

none_pass : {X : Type 0} (p : X → Bool) (xs : List X) → ((j : ℕ) (y : X) → slice_get xs j ≡ Some y → p y ≡ true → ⊥) → length (filter p xs) ≡ 0
none_pass p [] none = refl
none_pass p (x ∷ xs) none = elim (cases_Bool (p x)) [
  | inl here ↦ absurd (none 0 x refl here)
  | inr other ↦ rw other (none_pass p xs (λ j y at pass. none (suc j) y at pass))
]

one_passes : {X : Type 0} (p : X → Bool) (xs : List X) → ((i j : ℕ) (x y : X) → slice_get xs i ≡ Some x → slice_get xs j ≡ Some y → p x ≡ true → p y ≡ true → i ≡ j) → length (filter p xs) ≤ 1
one_passes p [] one = omega arith
one_passes p (x ∷ xs) one = elim (cases_Bool (p x)) [
  | inl here ↦
      let none : length (filter p xs) ≡ 0 = none_pass p xs (λ j y at pass. let same : 0 ≡ suc j = one 0 (suc j) x y refl at here pass in omega arith) in
      rw here (omega (arith, none))
  | inr other ↦ rw other (one_passes p xs (λ i j y z at there pass passes. let same : suc i ≡ suc j = one (suc i) (suc j) y z at there pass passes in omega arith))
]

same_names : (name : ColumnName) (n : List ℕ) (c d : ColumnDef) → may_mean name (n, c) ≡ true → may_mean name (n, d) ≡ true → c.name ≡ d.name
same_names name n c d first second =
    let one : pointwise nat_eq c.name name.column ≡ true = (and_parts (may_qualify name.table n) (pointwise nat_eq c.name name.column) first).1 in
    let other : pointwise nat_eq d.name name.column ≡ true = (and_parts (may_qualify name.table n) (pointwise nat_eq d.name name.column) second).1 in
    (bytes_decides c.name name.column).0 one ∙ sym ((bytes_decides d.name name.column).0 other)

not_ambiguous : (def : TableDef) (n : List ℕ) (name : ColumnName) → IsTable def → is_ambiguous (called def n ∷ []) name ≡ false
unfolding columns_meant
not_ambiguous def n name is =
    let few : length (filter (λ (column : ColumnDef). may_mean name (n, column)) def.columns) ≤ 1 =
    one_passes (λ (column : ColumnDef). may_mean name (n, column)) def.columns (λ i j c d at there first second. is.apart i j c d at there (same_names name n c d first second)) in
    let small : nat_lt 1 (length (filter (λ (column : ColumnDef). may_mean name (n, column)) def.columns)) ≡ false = grind arith in
    rw (append-nil, found_mapped, length-map) small

none_found : (test : ColumnName → Bool) (names : List ColumnName) → ((name : ColumnName) → test name ≡ false) → find test names ≡ None
none_found test [] never = refl
none_found test (name ∷ names) never = rw (never name) (none_found test names never)

-- where columns' names differ
pub none_ambiguous : (def : TableDef) (n : List ℕ) (names : List ColumnName) → IsTable def → first_column (is_ambiguous (called def n ∷ [])) names ≡ None
unfolding first_column
none_ambiguous def n names is = rw (none_found (is_ambiguous (called def n ∷ [])) names (λ name. not_ambiguous def n name is)) refl
