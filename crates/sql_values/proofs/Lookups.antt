-- Columns are looked up table by table.
use Rattle.std.proofs.Common.{◌≡◌, ℕ, ◌+◌, Bool, true, false, cond, List, [], ◌∷◌, ◌++◌, map, length, drop, find, filter, count_by, nat_eq, refl, sym, ap, ◌∙◌, arith, Option, Some, None}
use Rattle.std.specs.List.{zip}
use Rattle.std.specs.Option.{option_map, option_or}
use Rattle.std.specs.Cmp.Lexicographic.{pointwise}
use Rattle.std.proofs.lemmas.Grind.{common_steps}
use Rattle.std.proofs.lemmas.List.{length-append, length-map, append-nil}
use Rattle.std.proofs.lemmas.List.Elements.{filter-append}
use Rattle.std.proofs.lemmas.List.Folds.{find-append}
use Rattle.std.proofs.lemmas.List.Sums.{sum_by-cons}
use Rattle.sql_values.specs.declared.table.Kind.{Kind}
use Rattle.sql_values.specs.declared.table.ColumnDef.{ColumnDef}
use Rattle.sql_values.specs.declared.table.TableDef.{TableDef}
use Rattle.sql_values.specs.declared.tree.ColumnName.{ColumnName}
use Rattle.sql_values.specs.declared.value.Value.{Value}
use Rattle.sql_values.specs.Columns.{may_qualify, may_mean, columns_meant, column_kind, column_value}

-- the column has the name, whatever its table
abbrev pub named : List ℕ → ColumnDef → Bool
named name = λ column. pointwise nat_eq column.name name

-- a table's columns, beside its name
abbrev pub own : TableDef → List (List ℕ × ColumnDef)
own table = map (λ (column : ColumnDef). (table.name, column)) table.columns

count_step : {X : Type 0} (t : Bool) (x : X) (xs : List X) (n : ℕ) → length xs ≡ n → length (cond t (x ∷ xs) xs) ≡ cond t 1 0 + n
count_step true x xs n e = grind arith
count_step false x xs n e = grind arith

count_named : (name : ColumnName) (n : List ℕ) (b : Bool) (cs : List ColumnDef) → may_qualify name.table n ≡ b →
    length (filter (may_mean name) (map (λ (c : ColumnDef). (n, c)) cs)) ≡ cond b (count_by (named name.column) cs) 0
count_named name n true [] e = refl
count_named name n false [] e = refl
count_named name n true (c ∷ cs) e =
    rw e (count_step (named name.column c) (n, c) (filter (may_mean name) (map (λ (c : ColumnDef). (n, c)) cs)) _ (count_named name n true cs e) ∙ sym (sum_by-cons (λ c. cond (named name.column c) 1 0) c cs))
count_named name n false (c ∷ cs) e = rw e (count_named name n false cs e)

-- of a table's columns, so many may be meant
pub count_one : (name : ColumnName) (table : TableDef) →
    length (columns_meant name (table ∷ [])) ≡ cond (may_qualify name.table table.name) (count_by (named name.column) table.columns) 0
unfolding columns_meant
count_one name table = rw (filter-append, append-nil) (count_named name table.name _ table.columns refl)

pub count_first : (name : ColumnName) (table : TableDef) (tables : List TableDef) →
    length (columns_meant name (table ∷ tables)) ≡ length (columns_meant name (table ∷ [])) + length (columns_meant name tables)
unfolding columns_meant
count_first name table tables =
    rw (append-nil, filter-append, length-append) refl

find_named : (name : ColumnName) (n : List ℕ) (b : Bool) (cs : List ColumnDef) → may_qualify name.table n ≡ b →
    option_map (λ (found : List ℕ × ColumnDef). found.1.kind) (find (may_mean name) (map (λ (c : ColumnDef). (n, c)) cs))
    ≡ cond b (option_map (λ (c : ColumnDef). c.kind) (find (named name.column) cs)) None
find_named name n true [] e = refl
find_named name n false [] e = refl
find_named name n true (c ∷ cs) e = rw e (found (named name.column c) _ _ _ (find_named name n true cs e))
  where
    found : (t : Bool) (p : List ℕ × ColumnDef) (here : Option (List ℕ × ColumnDef)) (there : Option ColumnDef) →
        option_map (λ (found : List ℕ × ColumnDef). found.1.kind) here ≡ option_map (λ (c : ColumnDef). c.kind) there →
        option_map (λ (found : List ℕ × ColumnDef). found.1.kind) (cond t (Some p) here) ≡ option_map (λ (c : ColumnDef). c.kind) (cond t (Some p.1) there)
    found true p here there e = refl
    found false p here there e = e
find_named name n false (c ∷ cs) e = rw e (find_named name n false cs e)

pub map_or : {X Y : Type 0} (f : X → Y) (first second : Option X) → option_map f (option_or first second) ≡ option_or (option_map f first) (option_map f second)
map_or f None second = refl
map_or f (Some x) second = refl

pub kind_one : (name : ColumnName) (table : TableDef) →
    column_kind (table ∷ []) name ≡ cond (may_qualify name.table table.name) (option_map (λ (c : ColumnDef). c.kind) (find (named name.column) table.columns)) None
unfolding column_kind
kind_one name table = rw append-nil (find_named name table.name _ table.columns refl)

-- the kind is that of the first table where the column may be meant
pub kind_first : (name : ColumnName) (table : TableDef) (tables : List TableDef) →
    column_kind (table ∷ tables) name ≡ option_or (column_kind (table ∷ []) name) (column_kind tables name)
unfolding column_kind
kind_first name table tables = rw (append-nil, find-append) (map_or (λ (found : List ℕ × ColumnDef). found.1.kind) _ _)

zip-append : {X Y : Type 0} (xs ys : List X) (values : List Y) → zip (xs ++ ys) values ≡ zip xs values ++ zip ys (drop (length xs) values)
zip-append [] ys values = refl
zip-append (x ∷ xs) [] [] = refl
zip-append (x ∷ xs) (y ∷ ys) [] = refl
zip-append (x ∷ xs) ys (v ∷ values) = ap (λ cells. (x, v) ∷ cells) (zip-append xs ys values)

value_named : (name : ColumnName) (n : List ℕ) (b : Bool) (cs : List ColumnDef) (values : List Value) → may_qualify name.table n ≡ b →
    option_map (λ (found : (List ℕ × ColumnDef) × Value). found.1)
    (find (λ (cell : (List ℕ × ColumnDef) × Value). may_mean name cell.0) (zip (map (λ (c : ColumnDef). (n, c)) cs) values))
    ≡ cond b (option_map (λ (found : ColumnDef × Value). found.1) (find (λ (cell : ColumnDef × Value). named name.column cell.0) (zip cs values))) None
value_named name n true [] values e = refl
value_named name n false [] values e = refl
value_named name n true (c ∷ cs) [] e = refl
value_named name n false (c ∷ cs) [] e = refl
value_named name n true (c ∷ cs) (v ∷ values) e = rw e (found (named name.column c) _ _ _ _ (value_named name n true cs values e) refl)
  where
    found : (t : Bool) (p : (List ℕ × ColumnDef) × Value) (q : ColumnDef × Value) (here : Option ((List ℕ × ColumnDef) × Value)) (there : Option (ColumnDef × Value)) →
        option_map (λ (found : (List ℕ × ColumnDef) × Value). found.1) here ≡ option_map (λ (found : ColumnDef × Value). found.1) there →
        p.1 ≡ q.1 →
        option_map (λ (found : (List ℕ × ColumnDef) × Value). found.1) (cond t (Some p) here) ≡ option_map (λ (found : ColumnDef × Value). found.1) (cond t (Some q) there)
    found true p q here there e same = ap Some same
    found false p q here there e same = e
value_named name n false (c ∷ cs) (v ∷ values) e = rw e (value_named name n false cs values e)

pub value_one : (name : ColumnName) (table : TableDef) (row : List Value) →
    column_value (table ∷ []) row name
    ≡ cond (may_qualify name.table table.name) (option_map (λ (found : ColumnDef × Value). found.1) (find (λ (cell : ColumnDef × Value). named name.column cell.0) (zip table.columns row))) None
unfolding column_value
value_one name table row = rw append-nil (value_named name table.name _ table.columns row refl)

-- the value is that of the first table where the column may be meant; the values of the tables behind it stand behind its own
pub value_first : (name : ColumnName) (table : TableDef) (tables : List TableDef) (row : List Value) →
    column_value (table ∷ tables) row name ≡ option_or (column_value (table ∷ []) row name) (column_value tables (drop (length table.columns) row) name)
unfolding column_value
value_first name table tables row =
    rw (append-nil, zip-append, find-append, length-map) (map_or (λ (found : (List ℕ × ColumnDef) × Value). found.1) _ _)

-- the two calls in one table, where its name fits
pub kind_found : (name : ColumnName) (table : TableDef) (columns : List ColumnDef) (b : Bool) (k : Option Kind) →
    b ≡ may_qualify name.table table.name → b ≡ true → columns ≡ table.columns →
    k ≡ option_map (λ (c : ColumnDef). c.kind) (find (named name.column) columns) → k ≡ column_kind (table ∷ []) name
kind_found name table columns b k e so same found =
    found ∙ ap (λ cs. option_map (λ (c : ColumnDef). c.kind) (find (named name.column) cs)) same ∙ sym (kind_one name table ∙ rw (sym e ∙ so) refl)

pub value_found : (name : ColumnName) (table : TableDef) (columns : List ColumnDef) (row : List Value) (b : Bool) (v : Option Value) →
    b ≡ may_qualify name.table table.name → b ≡ true → columns ≡ table.columns →
    v ≡ option_map (λ (found : ColumnDef × Value). found.1) (find (λ (cell : ColumnDef × Value). named name.column cell.0) (zip columns row)) →
    v ≡ column_value (table ∷ []) row name
value_found name table columns row b v e so same found =
    found
    ∙ ap (λ cs. option_map (λ (found : ColumnDef × Value). found.1) (find (λ (cell : ColumnDef × Value). named name.column cell.0) (zip cs row))) same
    ∙ sym (value_one name table row ∙ rw (sym e ∙ so) refl)

pub kind_none : (name : ColumnName) → column_kind [] name ≡ None
unfolding column_kind
kind_none name = refl

pub count_none : (name : ColumnName) → length (columns_meant name []) ≡ 0
unfolding columns_meant
count_none name = refl

pub value_none : (name : ColumnName) (row : List Value) → column_value [] row name ≡ None
unfolding column_value
value_none name row = refl

pub ruleset lookups = (common_steps, kind_one, kind_first, kind_none, count_one, count_first, count_none, value_one, value_first, value_none)
