-- A condition without the names of tables holds on the same rows.
use Rattle.std.proofs.Common.{◌≡◌, ℕ, Bool, true, false, not, ◌&&◌, cond, List, [], ◌∷◌, ◌++◌, map, length, filter, find, nat_eq, Option, Some, None, refl, sym, ◌∙◌, ap, inl, inr, subst}
use Rattle.std.specs.Prelude.{◌==◌}
use Rattle.std.proofs.lemmas.List.Folds.{find-append}
use Rattle.std.specs.List.{list_all, list_any, flat_map, zip}
use Rattle.std.specs.Option.{option_map, option_map_or, option_or}
use Rattle.std.specs.Cmp.Lexicographic.{pointwise}
use Rattle.std.proofs.lemmas.Bool.{cases_Bool, both_ways}
use Rattle.std.proofs.lemmas.List.{append-nil}
use Rattle.sql_values.specs.declared.literal.Literal.{Literal}
use Rattle.sql_values.specs.declared.literal.Literal.TheVariants as literal
use Rattle.sql_values.specs.declared.table.ColumnDef.{ColumnDef}
use Rattle.sql_values.specs.declared.table.TableDef.{TableDef}
use Rattle.sql_values.specs.declared.tree.ColumnName.{ColumnName}
use Rattle.sql_values.specs.declared.tree.Comparison.TheVariants.{Equal, AtMost}
use Rattle.sql_values.specs.declared.tree.Operand.{Operand}
use Rattle.sql_values.specs.declared.tree.Operand.TheVariants as operand
use Rattle.sql_values.specs.declared.tree.Cond.{Cond, Cond-F, map-Cond, roll-Cond}
use Rattle.sql_values.specs.declared.tree.Cond.TheFolds.{ind-Cond, fold-roll-Cond}
use Rattle.sql_values.specs.declared.tree.Cond.TheOpen.{All, Any, Not, Compare, In, Between}
use Rattle.sql_values.specs.declared.tree.Cond.TheVariants.{rolls-All, rolls-Any, rolls-Not, rolls-Compare, rolls-In, rolls-Between}
use Rattle.sql_values.specs.declared.value.Value.{Value}
use Rattle.sql_values.specs.Checks.{is_unknown, first_column, cond_columns, layer_columns, operand_columns}
use Rattle.sql_values.specs.Columns.{may_mean, may_qualify, column_value, columns_meant}
use Rattle.sql_values.specs.Conditions.{literal_of, cond_holds, layer_holds, compares, column_literal, operand_literal, unless_negated}
use Rattle.stmt_plan.specs.Laws.{UnqualifiedMeansTheSame}
use Rattle.stmt_plan.specs.Selects.{called, known_as, known_name, bare_name, bare_operand, bare_layer, unqualified}

-- the first column of one of these names is found alike where the qualifier fits
value_step : (b : Bool) (first second : (List ℕ × ColumnDef) × Value) (here there : Option ((List ℕ × ColumnDef) × Value)) → first.1 ≡ second.1 →
    option_map (λ (found : (List ℕ × ColumnDef) × Value). found.1) here ≡ option_map (λ (found : (List ℕ × ColumnDef) × Value). found.1) there →
    option_map (λ (found : (List ℕ × ColumnDef) × Value). found.1) (cond b (Some first) here) ≡ option_map (λ (found : (List ℕ × ColumnDef) × Value). found.1) (cond b (Some second) there)
value_step true first second here there same later = ap (λ (v : Value). Some v) same
value_step false first second here there same later = later

value_alike : (name : ColumnName) (n m : List ℕ) (columns : List ColumnDef) (row : List Value) → may_qualify name.table n ≡ true →
    option_map (λ (found : (List ℕ × ColumnDef) × Value). found.1)
    (find (λ (cell : (List ℕ × ColumnDef) × Value). may_mean (bare_name name) cell.0) (zip (map (λ (c : ColumnDef). (m, c)) columns) row))
    ≡ option_map (λ (found : (List ℕ × ColumnDef) × Value). found.1)
    (find (λ (cell : (List ℕ × ColumnDef) × Value). may_mean name cell.0) (zip (map (λ (c : ColumnDef). (n, c)) columns) row))
value_alike name n m [] row fits = refl
value_alike name n m (c ∷ columns) [] fits = refl
value_alike name n m (c ∷ columns) (v ∷ row) fits =
    rw fits (value_step (pointwise nat_eq c.name name.column) ((m, c), v) ((n, c), v) _ _ refl (value_alike name n m columns row fits))

none_meant : (name : ColumnName) (n : List ℕ) (columns : List ColumnDef) → may_qualify name.table n ≡ false →
    filter (may_mean name) (map (λ (c : ColumnDef). (n, c)) columns) ≡ []
none_meant name n [] other = refl
none_meant name n (c ∷ columns) other = rw other (none_meant name n columns other)

qualifies : (table : TableDef) (n : List ℕ) (name : ColumnName) → is_unknown (called table n ∷ []) name ≡ false → may_qualify name.table n ≡ true
unfolding columns_meant
qualifies table n name known =
    elim (cases_Bool (may_qualify name.table n)) [
      | inl fits ↦ fits
      | inr other ↦
          let none : (length (filter (may_mean name) (map (λ (c : ColumnDef). (n, c)) table.columns ++ [])) == 0) ≡ true = rw (append-nil, none_meant name n table.columns other) refl in
          absurd (both_ways _ known none)
    ]

literal_same : (table : TableDef) (n : List ℕ) (row : List Value) (name : ColumnName) → is_unknown (called table n ∷ []) name ≡ false →
    column_literal (table ∷ []) row (bare_name name) ≡ column_literal (called table n ∷ []) row name
unfolding column_value
literal_same table n row name known =
    rw (append-nil {A = List ℕ × ColumnDef} (map (λ (c : ColumnDef). (table.name, c)) table.columns), append-nil {A = List ℕ × ColumnDef} (map (λ (c : ColumnDef). (n, c)) table.columns))
    (ap (λ (v : Option Value). option_map_or literal_of v literal.Null) (value_alike name n table.name table.columns row (qualifies table n name known)))

-- each of these names means a column
abbrev AreKnown : TableDef → List ℕ → List ColumnName → Type 0
AreKnown table n names = find (is_unknown (called table n ∷ [])) names ≡ None

or_parts : {X : Type 0} (first second : Option X) → option_or first second ≡ None → (first ≡ None) × (second ≡ None)
or_parts None second none = (refl, none)
or_parts (Some x) second none = absurd (let no : Some x ≡ None = none in cc)

known_parts : (table : TableDef) (n : List ℕ) (xs ys : List ColumnName) → AreKnown table n (xs ++ ys) → AreKnown table n xs × AreKnown table n ys
known_parts table n xs ys known =
    or_parts (find (is_unknown (called table n ∷ [])) xs) (find (is_unknown (called table n ∷ [])) ys) (sym (find-append (is_unknown (called table n ∷ [])) xs ys) ∙ known)

known_alone : (table : TableDef) (n : List ℕ) (name : ColumnName) → AreKnown table n (name ∷ []) → is_unknown (called table n ∷ []) name ≡ false
known_alone table n name known = not_found (is_unknown (called table n ∷ []) name) known
  where
    not_found : (b : Bool) → cond {A = Option ColumnName} b (Some name) None ≡ None → b ≡ false
    not_found false none = refl
    not_found true none = absurd (let no : Some name ≡ None = none in cc)

operand_same : (table : TableDef) (n : List ℕ) (row : List Value) (side : Operand) → AreKnown table n (operand_columns side) →
    operand_literal (table ∷ []) row (bare_operand side) ≡ operand_literal (called table n ∷ []) row side
operand_same table n row (operand.Column name) known = literal_same table n row name (known_alone table n name known)
operand_same table n row (operand.Literal l) known = refl

-- that a condition holds alike
abbrev Same : TableDef → List ℕ → List Value → Cond → Type 0
Same table n row c = AreKnown table n (cond_columns c) → cond_holds (table ∷ []) row (unqualified c) ≡ cond_holds (called table n ∷ []) row c

all_same : (table : TableDef) (n : List ℕ) (row : List Value) (parts : List ((c : Cond) × Same table n row c)) →
    AreKnown table n (flat_map (λ names. names) (map cond_columns (map (λ e. e.0) parts))) →
    list_all (λ b. b) (map (cond_holds (table ∷ []) row) (map unqualified (map (λ e. e.0) parts))) ≡ list_all (λ b. b) (map (cond_holds (called table n ∷ []) row) (map (λ e. e.0) parts))
all_same table n row [] known = refl
all_same table n row (e ∷ parts) known =
    let both = known_parts table n (cond_columns e.0) (flat_map (λ names. names) (map cond_columns (map (λ e. e.0) parts))) known in
    rw (e.1 both.0, all_same table n row parts both.1) refl

any_same : (table : TableDef) (n : List ℕ) (row : List Value) (parts : List ((c : Cond) × Same table n row c)) →
    AreKnown table n (flat_map (λ names. names) (map cond_columns (map (λ e. e.0) parts))) →
    list_any (λ b. b) (map (cond_holds (table ∷ []) row) (map unqualified (map (λ e. e.0) parts))) ≡ list_any (λ b. b) (map (cond_holds (called table n ∷ []) row) (map (λ e. e.0) parts))
any_same table n row [] known = refl
any_same table n row (e ∷ parts) known =
    let both = known_parts table n (cond_columns e.0) (flat_map (λ names. names) (map cond_columns (map (λ e. e.0) parts))) known in
    rw (e.1 both.0, any_same table n row parts both.1) refl

-- a condition whose parts hold alike
abbrev Parts : TableDef → List ℕ → List Value → Type 0
Parts table n row = Cond-F ((c : Cond) × Same table n row c)

abbrev bare : (table : TableDef) (n : List ℕ) (row : List Value) → Parts table n row → Cond-F Cond
bare table n row y = map-Cond ((c : Cond) × Same table n row c) Cond (λ e. e.0) y

holds_layer : (tables : List TableDef) (row : List Value) (c : Cond) (layer : Cond-F Cond) → roll-Cond layer ≡ c →
    cond_holds tables row c ≡ layer_holds tables row (map-Cond Cond Bool (cond_holds tables row) layer)
holds_layer tables row c layer rolls = ap (cond_holds tables row) (sym rolls) ∙ fold-roll-Cond Bool (layer_holds tables row) layer

layer_same : (table : TableDef) (n : List ℕ) (row : List Value) (y : Parts table n row) →
    AreKnown table n (layer_columns (map-Cond Cond (List ColumnName) cond_columns (bare table n row y))) →
    cond_holds (table ∷ []) row (bare_layer (map-Cond Cond Cond unqualified (bare table n row y))) ≡ layer_holds (called table n ∷ []) row (map-Cond Cond Bool (cond_holds (called table n ∷ []) row) (bare table n row y))
layer_same table n row (All parts) known = holds_layer (table ∷ []) row _ (All (map unqualified (map (λ e. e.0) parts))) (rolls-All _) ∙ all_same table n row parts known
layer_same table n row (Any parts) known = holds_layer (table ∷ []) row _ (Any (map unqualified (map (λ e. e.0) parts))) (rolls-Any _) ∙ any_same table n row parts known
layer_same table n row (Not part) known = holds_layer (table ∷ []) row _ (Not (unqualified part.0)) (rolls-Not _) ∙ ap not (part.1 known)
layer_same table n row (Compare left c right) known =
    let both = known_parts table n (operand_columns left) (operand_columns right) known in
    holds_layer (table ∷ []) row _ (Compare (bare_operand left) c (bare_operand right)) (rolls-Compare _ _ _)
    ∙ rw (operand_same table n row left both.0, operand_same table n row right both.1) refl
layer_same table n row (In name negated list) known =
    holds_layer (table ∷ []) row _ (In (bare_name name) negated list) (rolls-In _ _ _)
    ∙ ap (λ (l : Literal). unless_negated negated (list_any (compares Equal l) list)) (literal_same table n row name (known_alone table n name known))
layer_same table n row (Between name negated low high) known =
    holds_layer (table ∷ []) row _ (Between (bare_name name) negated low high) (rolls-Between _ _ _ _)
    ∙ ap (λ (l : Literal). unless_negated negated (compares AtMost low l && compares AtMost l high)) (literal_same table n row name (known_alone table n name known))

same_by_parts : (table : TableDef) (n : List ℕ) (row : List Value) (y : Parts table n row) → Same table n row (roll-Cond (bare table n row y))
same_by_parts table n row y known =
    ap (cond_holds (table ∷ []) row) (fold-roll-Cond Cond bare_layer (bare table n row y))
    ∙ layer_same table n row y (ap (find (is_unknown (called table n ∷ []))) (sym (fold-roll-Cond (List ColumnName) layer_columns (bare table n row y))) ∙ known)
    ∙ sym (fold-roll-Cond Bool (layer_holds (called table n ∷ []) row) (bare table n row y))

conditions_same : (table : TableDef) (n : List ℕ) (row : List Value) (c : Cond) → Same table n row c
conditions_same table n row =
    ind-Cond (Same table n row) (λ x y is. subst (λ (z : Cond-F Cond). Same table n row (roll-Cond z)) is (same_by_parts table n row y))

none_from_first : (found : Option ColumnName) → option_map (λ (name : ColumnName). name.column) found ≡ None → found ≡ None
none_from_first None none = refl
none_from_first (Some name) none = absurd (let no : Some name.column ≡ None = none in cc)

pub unqualified_means_the_same : UnqualifiedMeansTheSame
unfolding first_column
unqualified_means_the_same table tab row c known =
    conditions_same table (known_name tab) row c (none_from_first (find (is_unknown (known_as table tab ∷ [])) (cond_columns c)) known)
