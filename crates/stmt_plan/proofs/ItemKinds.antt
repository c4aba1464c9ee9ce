-- Whether a SELECT's items go with their columns' kinds, told by the names or by the places of the columns.
use Rattle.std.proofs.Common.{◌≡◌, ℕ, ◌+◌, suc, Bool, true, false, not, cond, ◌&&◌, List, [], ◌∷◌, ◌++◌, map, length, refl, ap, sym, ◌∙◌, arith, Option, Some, None, filter, find}
use Rattle.std.specs.Prelude.{nat_lt, slice_get, unwrap_or, ◌==◌}
use Rattle.std.specs.List.{flat_map, list_all, position, position_or_len}
use Rattle.std.specs.Option.{is_none, option_map, option_map_or, option_or}
use Rattle.std.proofs.lemmas.List.{append-nil}
use Rattle.sql_values.specs.declared.table.ColumnDef.{ColumnDef}
use Rattle.sql_values.specs.declared.table.Kind.{Kind}
use Rattle.sql_values.specs.declared.table.Kind.TheVariants.{BigInt, VarChar}
use Rattle.sql_values.specs.declared.table.TableDef.{TableDef}
use Rattle.sql_values.specs.declared.tree.ColumnName.{ColumnName}
use Rattle.sql_values.specs.Checks.{first_column, is_unknown}
use Rattle.sql_values.specs.Columns.{may_mean, columns_of, columns_meant, column_kind}
use Rattle.sql_values.specs.Kinds.{are_comparable, is_alike}
use Rattle.sql_text.specs.declared.link.AggregateCall.{AggregateCall}
use Rattle.sql_text.specs.declared.link.AggregateCall.TheVariants as call
use Rattle.sql_text.specs.declared.statement.AggregateItem.{AggregateItem}
use Rattle.sql_text.specs.declared.statement.Select.{Select}
use Rattle.sql_text.specs.declared.statement.SelectItems.{SelectItems}
use Rattle.sql_text.specs.declared.statement.SelectItems.TheVariants as items
use Rattle.front_rows.specs.declared.aggregate.AggFun.TheVariants as fun
use Rattle.stmt_plan.specs.declared.fault.StmtFault.{StmtFault}
use Rattle.stmt_plan.specs.declared.fault.StmtFault.TheVariants.{NoColumn}
use Rattle.stmt_plan.specs.declared.planned.CellColumn.{CellColumn}
use Rattle.stmt_plan.specs.Choices.{asks_rows}
use Rattle.stmt_plan.specs.Chosen.{unknown_fault, items_fault, rest_fault, chosen_by, chosen_fault, sums_number, columns_fit}
use Rattle.stmt_plan.specs.Selects.{called, known_name, place_of, kind_at, call_columns, call_fits, calls_fit, aggregate_of, cell_column}
use Rattle.stmt_plan.proofs.Meant.{unknown_is}
use Rattle.stmt_plan.proofs.Seeks.{first-append, first-cons, first-nil, past_known}

-- what is found stands at its place
find_placed : {X Y : Type 0} (v : X → Y) (p : Y → Bool) (xs : List X) → find p (map v xs) ≡ option_map v (slice_get xs (position_or_len (λ x. p (v x)) xs))
find_placed v p [] = refl
find_placed v p (x ∷ xs) = go (p (v x)) (find_placed v p xs)
  where
    go : (b : Bool) → find p (map v xs) ≡ option_map v (slice_get xs (position_or_len (λ x. p (v x)) xs)) →
        cond b (Some (v x)) (find p (map v xs)) ≡ option_map v (slice_get (x ∷ xs) (cond (not b) (1 + position_or_len (λ x. p (v x)) xs) 0))
    go true rest = refl
    go false rest = let one_on : 1 + position_or_len (λ x. p (v x)) xs ≡ suc (position_or_len (λ x. p (v x)) xs) = omega arith in rw one_on rest

none_found : {X : Type 0} (p : X → Bool) (xs : List X) → is_none (find p xs) ≡ (length (filter p xs) == 0)
none_found p [] = refl
none_found p (x ∷ xs) = go (p x) (none_found p xs)
  where
    go : (b : Bool) → is_none (find p xs) ≡ (length (filter p xs) == 0) → is_none (cond b (Some x) (find p xs)) ≡ (length (cond b (x ∷ filter p xs) (filter p xs)) == 0)
    go true rest = grind arith
    go false rest = rest

none_mapped : {X Y : Type 0} (f : X → Y) (o : Option X) → is_none (option_map f o) ≡ is_none o
none_mapped f None = refl
none_mapped f (Some x) = refl

option_map-twice : {X Y Z : Type 0} (f : X → Y) (g : Y → Z) (o : Option X) → option_map g (option_map f o) ≡ option_map (λ x. g (f x)) o
option_map-twice f g None = refl
option_map-twice f g (Some x) = refl

-- a place that is there is where the search ended
place_there : (b : Bool) (n : ℕ) → is_none (cond b (Some n) None) ≡ false → unwrap_or (cond b (Some n) None) 0 ≡ n
place_there true n there = refl
place_there false n there = let no : true ≡ false = there in cc

-- the kind of a column that is known is that of the column at its place
kind_placed : (table : TableDef) (name : ColumnName) → is_unknown (table ∷ []) name ≡ false →
    column_kind (table ∷ []) name ≡ option_map (λ (column : ColumnDef). column.kind) (slice_get table.columns (place_of table name))
unfolding column_kind
kind_placed table name known =
    let test = λ (column : ColumnDef). may_mean name (table.name, column) in
    let there : is_none (position test table.columns) ≡ false = sym (unknown_is table name) ∙ known in
    let place : place_of table name ≡ position_or_len test table.columns =
    place_there (nat_lt (position_or_len test table.columns) (length table.columns)) (position_or_len test table.columns) there in
    rw (append-nil, find_placed, place)
    (option_map-twice (λ (column : ColumnDef). (table.name, column)) (λ (found : List ℕ × ColumnDef). found.1.kind) (slice_get table.columns (position_or_len test table.columns)))

-- and there is one
kind_known : (table : TableDef) (name : ColumnName) → is_unknown (table ∷ []) name ≡ false → is_none (column_kind (table ∷ []) name) ≡ false
unfolding column_kind columns_meant
kind_known table name known =
    none_mapped (λ (found : List ℕ × ColumnDef). found.1.kind) (find (may_mean name) (columns_of (table ∷ [])))
    ∙ none_found (may_mean name) (columns_of (table ∷ [])) ∙ known

-- SUMS

sum_of_kind : (kind : Kind) → sums_number fun.Sum kind ≡ is_alike kind BigInt
sum_of_kind BigInt = refl
sum_of_kind (VarChar most) = refl

sum_of_column : (column : Option ColumnDef) → is_none (option_map (λ (c : ColumnDef). c.kind) column) ≡ false →
    sums_number fun.Sum (option_map_or (λ (c : ColumnDef). c.kind) column BigInt) ≡ are_comparable (option_map (λ (c : ColumnDef). c.kind) column) (Some BigInt)
sum_of_column None there = let no : true ≡ false = there in cc
sum_of_column (Some column) there = sum_of_kind column.kind

sum_fits : (table : TableDef) (name : ColumnName) → is_unknown (table ∷ []) name ≡ false →
    sums_number fun.Sum (kind_at table (place_of table name)) ≡ are_comparable (column_kind (table ∷ []) name) (Some BigInt)
sum_fits table name known =
    let placed = kind_placed table name known in
    sum_of_column (slice_get table.columns (place_of table name)) (ap is_none (sym placed) ∙ kind_known table name known)
    ∙ ap (λ (kind : Option Kind). are_comparable kind (Some BigInt)) (sym placed)

-- AGGREGATES

name_known : (b : Bool) (name : List ℕ) → option_map NoColumn (cond b (Some name) None) ≡ None → b ≡ false
name_known false name none = refl
name_known true name none = let no : Some (NoColumn name) ≡ None = none in cc

-- a name that no fault tells of is known
one_known : (table : TableDef) (name : ColumnName) → unknown_fault table (name ∷ []) ≡ None → is_unknown (table ∷ []) name ≡ false
one_known table name none =
    let unknown = is_unknown (table ∷ []) in
    name_known (unknown name) name.column (ap (option_map NoColumn) (sym (first-cons unknown name [] ∙ ap (cond (unknown name) (Some name.column)) (first-nil unknown))) ∙ none)

call_placed : (table : TableDef) (c : AggregateCall) → unknown_fault table (call_columns c) ≡ None →
    sums_number (aggregate_of table c).fun (aggregate_of table c).kind ≡ call_fits table c
call_placed table call.Count known = refl
call_placed table (call.Sum name) known = sum_fits table name (one_known table name known)
call_placed table (call.Min name) known = refl
call_placed table (call.Max name) known = refl

first_none : (first rest : Option (List ℕ)) → option_map NoColumn (option_or first rest) ≡ None → option_map NoColumn first ≡ None
first_none None rest none = refl
first_none (Some name) rest none = none

-- of names that are all known the first ones are
first_known : (table : TableDef) (names rest : List ColumnName) → unknown_fault table (names ++ rest) ≡ None → unknown_fault table names ≡ None
first_known table names rest none =
    let unknown = is_unknown (table ∷ []) in
    first_none (first_column unknown names) (first_column unknown rest) (ap (option_map NoColumn) (sym (first-append unknown names rest)) ∙ none)

calls_placed : (table : TableDef) (list : List AggregateItem) → unknown_fault table (flat_map (λ (item : AggregateItem). call_columns item.call) list) ≡ None →
    columns_fit (map (cell_column table) list) ≡ list_all (λ (item : AggregateItem). call_fits table item.call) list
calls_placed table [] known = refl
calls_placed table (item ∷ list) known =
    let here = first_known table (call_columns item.call) (flat_map (λ (i : AggregateItem). call_columns i.call) list) known in
    both (call_placed table item.call here)
    (calls_placed table list (sym (past_known table (call_columns item.call) (flat_map (λ (i : AggregateItem). call_columns i.call) list) here) ∙ known))
  where
    both : {a b c d : Bool} → a ≡ b → c ≡ d → (a && c) ≡ (b && d)
    both {a} {b} {c} {d} first second = ap (λ (x : Bool). x && c) first ∙ ap (λ (x : Bool). b && x) second

-- WHAT IS LEFT TO FIND

rows_fit : (table : TableDef) (its : SelectItems) → asks_rows its ≡ true → calls_fit table its ≡ true
rows_fit table items.All rows = refl
rows_fit table (items.Columns list) rows = refl
rows_fit table (items.Aggregates list) rows = let no : false ≡ true = rows in cc

after_items : (found rest : Option StmtFault) → found ≡ None → option_or found rest ≡ rest
after_items found rest none = rw none refl

-- where all names of the items are known, and they fit so
left : (table : TableDef) (select : Select) (fit : Bool) → items_fault table select.items ≡ None → calls_fit table select.items ≡ fit →
    chosen_by table select ≡ rest_fault table select fit
left table select fit known fits =
    after_items (items_fault table select.items) (rest_fault table select (calls_fit table select.items)) known
    ∙ ap (rest_fault table select) fits

under_name : (table : TableDef) (select : Select) (known : List ℕ) → known ≡ known_name select.tab → chosen_fault table select ≡ chosen_by (called table known) select
under_name table select known same = ap (λ (name : List ℕ). chosen_by (called table name) select) (sym same)

pub chosen_rows : (table : TableDef) (select : Select) (known : List ℕ) → known ≡ known_name select.tab → asks_rows select.items ≡ true →
    items_fault (called table known) select.items ≡ None → chosen_fault table select ≡ rest_fault (called table known) select true
chosen_rows table select known same rows none =
    under_name table select known same ∙ left (called table known) select true none (rows_fit (called table known) select.items rows)

pub chosen_calls : (table : TableDef) (select : Select) (known : List ℕ) (list : List AggregateItem) (columns : List CellColumn) (fit : Bool) → known ≡ known_name select.tab →
    select.items ≡ items.Aggregates list → items_fault (called table known) (items.Aggregates list) ≡ None → columns ≡ map (cell_column (called table known)) list →
    fit ≡ columns_fit columns → chosen_fault table select ≡ rest_fault (called table known) select fit
chosen_calls table select known list columns fit same calls none are fits =
    under_name table select known same
    ∙ left (called table known) select fit (ap (items_fault (called table known)) calls ∙ none)
    (ap (calls_fit (called table known)) calls ∙ sym (calls_placed (called table known) list none) ∙ ap columns_fit (sym are) ∙ sym fits)
