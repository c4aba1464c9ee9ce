-- A statement is what its scan finds.
use Rattle.std.proofs.Common.{◌≡◌, ℕ, ℤ, Bool, ◌||◌, true, false, List, [], ◌∷◌, ◌++◌, map, length, Option, Some, None, IsSomeAnd, Result, Ok, Err, refl, sym, ◌∙◌, ap}
use Rattle.std.specs.Prelude.{◌↔◌, slice_get}
use Rattle.std.specs.List.{AllByRecursion, Contains, list_any}
use Rattle.std.specs.Option.{option_map, option_map_or, option_or}
use Rattle.std.specs.Ordering.{int_eq}
use Rattle.std.specs.Cmp.Lexicographic.{bytes_decides}
use Rattle.std.specs.Cmp.{both_ways}
use Rattle.std.proofs.lemmas.Bool.Decides.{Decides-int_eq}
use Rattle.std.proofs.lemmas.Cmp.{int_eq_equiv}
use Rattle.std.proofs.lemmas.List.Elements.{filter_agree}
use Rattle.std.proofs.lemmas.Map.Views.{list_any-from_Contains, Contains-from_any}
use Rattle.sql_values.specs.declared.literal.Literal.TheVariants as literal
use Rattle.sql_values.specs.declared.table.ColumnDef.{ColumnDef}
use Rattle.sql_values.specs.declared.table.Kind.TheVariants.{BigInt}
use Rattle.sql_values.specs.declared.table.TableDef.{TableDef}
use Rattle.sql_values.specs.declared.tree.Comparison.TheVariants.{Equal}
use Rattle.sql_values.specs.declared.tree.ColumnName.{ColumnName}
use Rattle.sql_values.specs.declared.tree.Cond.{Cond, Cond-F}
use Rattle.sql_values.specs.declared.tree.Cond.TheFolds.{fold-roll-Cond}
use Rattle.sql_values.specs.declared.tree.Cond.TheVariants.{rolls-In}
use Rattle.sql_values.specs.declared.value.Value.{Value}
use Rattle.sql_values.specs.Checks.{first_column, is_unknown}
use Rattle.sql_values.specs.Conditions.{cond_holds, layer_holds, compares, literal_of}
use Rattle.part_rules.specs.declared.rule.Rule.{Rule}
use Rattle.part_rules.specs.Keeps.{names_key}
use Rattle.part_rules.specs.KeyRows.{HasOwnKeyName}
use Rattle.part_rules.proofs.KeptKeys.{key_value}
use Rattle.sql_text.specs.declared.statement.AggregateItem.{AggregateItem}
use Rattle.sql_text.specs.declared.statement.Select.{Select}
use Rattle.sql_text.specs.declared.statement.SelectItems.{SelectItems}
use Rattle.sql_text.specs.declared.statement.SelectItems.TheVariants as items
use Rattle.sql_text.specs.declared.statement.TableStatement.{TableStatement}
use Rattle.sql_text.specs.declared.statement.TableStatement.TheVariants as statement
use Rattle.sql_text.specs.declared.statement.Tab.{Tab}
use Rattle.front_rows.specs.Aggregates.{over}
use Rattle.front_rows.specs.Merging.{arranged}
use Rattle.stmt_plan.specs.declared.fault.RowFault.{RowFault}
use Rattle.stmt_plan.specs.declared.fault.StmtFault.TheVariants.{NoColumn}
use Rattle.stmt_plan.specs.declared.planned.CellColumn.{CellColumn}
use Rattle.stmt_plan.specs.declared.planned.Plan.{Plan}
use Rattle.stmt_plan.specs.declared.planned.Work.{Work}
use Rattle.stmt_plan.specs.declared.planned.Work.TheVariants as work
use Rattle.stmt_plan.specs.Inserts.{rows_of, row_key, AreRising, in_keys, key_name}
use Rattle.stmt_plan.specs.Plans.{IsPlan}
use Rattle.stmt_plan.specs.Plans.{IsTable as IsDefinition}
use Rattle.stmt_plan.specs.Refusals.{no_column}
use Rattle.stmt_plan.specs.Selects.{aggregate_of, cell_column, known_as, item_columns, most_of, order_columns, order_of, where_columns, named_columns, picks_of, skip_of, unqualified, work_by}
use Rattle.stmt_plan.specs.Settings.{assigned_columns, update_columns, settings}
use Rattle.stmt_plan.proofs.BareNames.{unqualified_means_the_same}
use Rattle.stmt_plan.proofs.Seeks.{first-append}
use Rattle.plain_tables.specs.Rows.{Row, key_of, HasKey, holds_on, kept}
use Rattle.plain_tables.specs.Inserts.{has_row, first_taken, put_all, without, FindsKeys}
use Rattle.plain_tables.specs.Partitions.{IsTable}
use Rattle.plain_tables.specs.Statements.{Answer, Found, Done, cells_of, inserted_by, selected_by, updated_by, executed_by, done_by, finished, arranged_by, added_by, changed_by, applied, StatementsAreScans}
use Rattle.plain_tables.specs.Updates.{set_rows}
use Rattle.plain_tables.proofs.Deleted.{rows_with_keys_go}
use Rattle.plain_tables.proofs.Inserted.{found_keys_tell}

pub own_key : (def : TableDef) → IsDefinition def → HasOwnKeyName def
own_key def is j other column there here same = is.apart j def.key other column there here same

-- WHERE UNDER THE STATEMENT'S NAME OF THE TABLE

-- neither is there, where the first that is there isn't
pub both_none : {X : Type 0} (a b : Option X) → option_or a b ≡ None → (a ≡ None) × (b ≡ None)
both_none None b is = (refl, is)
both_none (Some x) b is = let no : Some x ≡ None = is in cc

pub unmapped : {X Y : Type 0} (f : X → Y) (a : Option X) → option_map f a ≡ None → a ≡ None
unmapped f None is = refl
unmapped f (Some x) is = let no : Some (f x) ≡ None = is in cc

-- where no name is found in a text, none is in its second part
pub last_none : (test : ColumnName → Bool) (xs ys : List ColumnName) → first_column test (xs ++ ys) ≡ None → first_column test ys ≡ None
last_none test xs ys none = (both_none (first_column test xs) (first_column test ys) (sym (first-append test xs ys) ∙ none)).1

-- and none in its first part
pub first_none : (test : ColumnName → Bool) (xs ys : List ColumnName) → first_column test (xs ++ ys) ≡ None → first_column test xs ≡ None
first_none test xs ys none = (both_none (first_column test xs) (first_column test ys) (sym (first-append test xs ys) ∙ none)).0

pushed_means : (def : TableDef) (tab : Tab) (c : Option Cond) (row : Row) → first_column (is_unknown (known_as def tab ∷ [])) (where_columns c) ≡ None
    → holds_on def (option_map unqualified c) row ≡ holds_on (known_as def tab) c row
pushed_means def tab None row known = refl
pushed_means def tab (Some c) row known = unqualified_means_the_same def tab row c known

-- the pushed condition keeps what WHERE does
pushed_keeps : (def : TableDef) (tab : Tab) (c : Option Cond) (rows : List Row) → first_column (is_unknown (known_as def tab ∷ [])) (where_columns c) ≡ None
    → kept def (option_map unqualified c) rows ≡ kept (known_as def tab) c rows
pushed_keeps def tab c rows known =
    filter_agree (holds_on def (option_map unqualified c)) (holds_on (known_as def tab) c) (λ row. pushed_means def tab c row known) rows

-- where the table is known by its own name
own_keeps : (def : TableDef) (c : Option Cond) (rows : List Row) → first_column (is_unknown (def ∷ [])) (where_columns c) ≡ None
    → kept def (option_map unqualified c) rows ≡ kept def c rows
own_keeps def c rows known = pushed_keeps def (record { table = def.name; alias = None }) c rows known

-- KEYS OF AN INSERT

-- a test of a key is the same of two lists with the same keys
any_alike : (key : ℤ) (xs ys : List ℤ) → ((k : ℤ) → Contains xs k ↔ Contains ys k) → list_any (int_eq key) xs ≡ list_any (int_eq key) ys
any_alike key xs ys same =
    both_ways (list_any (int_eq key) xs) (list_any (int_eq key) ys)
    (λ found. list_any-from_Contains int_eq_equiv key ys ((same key).0 (Contains-from_any (λ x y is. (Decides-int_eq x y).0 is) key xs found)))
    (λ found. list_any-from_Contains int_eq_equiv key xs ((same key).1 (Contains-from_any (λ x y is. (Decides-int_eq x y).0 is) key ys found)))

any_number : (key : ℤ) (list : List ℤ) → list_any (compares Equal (literal.Number key)) (map literal.Number list) ≡ list_any (int_eq key) list
any_number key [] = refl
any_number key (k ∷ ks) = ap (λ b. int_eq key k || b) (any_number key ks)

-- the key column's own name means it
own_name : (def : TableDef) (o : Option ColumnDef) → slice_get def.columns def.key ≡ o → IsSomeAnd o (λ (c : ColumnDef). c.kind ≡ BigInt) → names_key def (record { table = None; column = key_name def }) ≡ true
own_name def None at is = absurd is
own_name def (Some c) at is = rw at ((bytes_decides c.name c.name).1 refl)

-- the pushed condition holds exactly on the rows with one of the keys
finds : (def : TableDef) (rising keys : List ℤ) (row : Row) → IsDefinition def → AreRising rising keys → HasKey def row → holds_on def (Some (in_keys def rising)) row ≡ list_any (int_eq (key_of def row)) keys
finds def rising keys row is same keyed =
    let name : ColumnName = record { table = None; column = key_name def } in
    let column = key_value def row (key_of def row) name (own_key def is) keyed.stands (own_name def (slice_get def.columns def.key) refl is.key) in
    ap (cond_holds (def ∷ []) row) (sym (rolls-In name false (map literal.Number rising)))
    ∙ fold-roll-Cond Bool (layer_holds (def ∷ []) row) (Cond-F.In name false (map literal.Number rising))
    ∙ ap (λ (o : Option Value). list_any (compares Equal (option_map_or literal_of o literal.Null)) (map literal.Number rising)) column
    ∙ any_number (key_of def row) rising
    ∙ any_alike (key_of def row) rising keys same.same

all_found : (def : TableDef) (rising keys : List ℤ) (rows : List Row) → IsDefinition def → AreRising rising keys → AllByRecursion (HasKey def) rows → FindsKeys def (Some (in_keys def rising)) keys rows
all_found def rising keys [] is same keyed = tt
all_found def rising keys (row ∷ rows) is same keyed = (finds def rising keys row is same keyed.0, all_found def rising keys rows is same keyed.1)

-- STATEMENTS

added : (def : TableDef) (rows news : List Row) (o : Option ℤ) → inserted_by def rows news o ≡ applied def rows (added_by news o)
unfolding put_all
added def rows news (Some key) = refl
added def rows news None = refl

set : (def : TableDef) (rows hits : List Row) (r : Result (List Row) RowFault) → updated_by def rows hits r ≡ applied def rows (changed_by hits r)
unfolding put_all
set def rows hits (Err fault) = refl
set def rows hits (Ok news) = refl

-- the answer's columns have the aggregates
fused : (known : TableDef) (found : List Row) (list : List AggregateItem) → map (λ (item : AggregateItem). over found (aggregate_of known item.call)) list ≡ map (λ (column : CellColumn). over found column.aggregate) (map (cell_column known) list)
fused known found [] = refl
fused known found (item ∷ list) = ap (λ cells. over found (aggregate_of known item.call) ∷ cells) (fused known found list)

-- what a SELECT makes of the rows of its condition
chosen : (def known : TableDef) (select : Select) (found rows : List Row) (l : SelectItems) → kept known select.cond rows ≡ found
    → (selected_by known select rows l, rows) ≡ applied def rows (finished def (work_by known select l) (arranged_by (work_by known select l) found))
unfolding put_all
chosen def known select found rows items.All is =
    ap (λ f. (Found (map (cells_of (picks_of known items.All)) (arranged (order_of known select.order) (skip_of select.limit) (most_of select.limit) f)), rows)) is
chosen def known select found rows (items.Columns l) is =
    ap (λ f. (Found (map (cells_of (picks_of known (items.Columns l))) (arranged (order_of known select.order) (skip_of select.limit) (most_of select.limit) f)), rows)) is
chosen def known select found rows (items.Aggregates l) is =
    ap (λ f. (Found (map (λ (item : AggregateItem). over f (aggregate_of known item.call)) l ∷ []), rows)) is ∙ ap (λ cells. (Found (cells ∷ []), rows)) (fused known found l)

-- what a work makes of the rows of a condition
abbrev made_of : TableDef → List Row → Work → Option Cond → Answer × List Row
made_of def rows w c = applied def rows (finished def w (arranged_by w (kept def c rows)))

-- of a plan's work and condition, where the plan is the statement's
planned_work : (def : TableDef) (rows : List Row) (w v : Work) (c d : Option Cond) → v ≡ w → d ≡ c → made_of def rows w c ≡ made_of def rows v d
planned_work def rows w v c d works conds = ap (made_of def rows w) (sym conds) ∙ ap (λ (x : Work). made_of def rows x d) (sym works)

scanned : (number : ℕ) (def : TableDef) (rule : Rule) (s : TableStatement) (plan : Plan) (rows : List Row) → IsDefinition def → IsTable def rule rows → no_column def s ≡ None → IsPlan number def rule s plan
    → done_by def s rows ≡ made_of def rows plan.work plan.cond
unfolding put_all
scanned number def rule (statement.Insert insert) plan rows is table known planned =
    let news = rows_of def insert.columns insert.rows in
    let keys = map (row_key def.key) news in
    let found = found_keys_tell def rows (Some (in_keys def planned.cond.list)) keys (all_found def planned.cond.list keys rows is planned.cond.rising table.keyed) in
    added def rows news (first_taken (has_row def rows) keys)
    ∙ ap (λ o. applied def rows (added_by news o)) (sym found)
    ∙ planned_work def rows (work.Insert news) plan.work (Some (in_keys def planned.cond.list)) plan.cond planned.work_is planned.cond.in_list
scanned number def rule (statement.Select select) plan rows is table known planned =
    let unknown = is_unknown (known_as def select.tab ∷ []) in
    let named = unmapped NoColumn (first_column unknown (named_columns select)) known in
    let behind_items = last_none unknown (item_columns select.items) (where_columns select.cond ++ order_columns select.order) named in
    let same = pushed_keeps def select.tab select.cond rows (first_none unknown (where_columns select.cond) (order_columns select.order) behind_items) in
    chosen def (known_as def select.tab) select (kept def (option_map unqualified select.cond) rows) rows select.items (sym same)
    ∙ planned_work def rows (work_by (known_as def select.tab) select select.items) plan.work (option_map unqualified select.cond) plan.cond planned.work_is planned.cond
scanned number def rule (statement.Update update) plan rows is table known planned =
    let named = unmapped NoColumn (first_column (is_unknown (def ∷ [])) (update_columns update)) known in
    let same = own_keeps def update.cond rows (last_none (is_unknown (def ∷ [])) (assigned_columns update.sets) (where_columns update.cond) named) in
    let sets = settings def update.sets in
    set def rows (kept def update.cond rows) (set_rows def sets 1 (kept def update.cond rows))
    ∙ ap (λ found. applied def rows (changed_by found (set_rows def sets 1 found))) (sym same)
    ∙ planned_work def rows (work.Update sets) plan.work (option_map unqualified update.cond) plan.cond planned.work_is planned.cond
scanned number def rule (statement.Delete delete) plan rows is table known planned =
    let named = unmapped NoColumn (first_column (is_unknown (def ∷ [])) (where_columns delete.cond)) known in
    let same = own_keeps def delete.cond rows named in
    ap (λ l. (Done (length (kept def delete.cond rows)), l)) (rows_with_keys_go def delete.cond rows table.rises)
    ∙ ap (λ found. (Done (length found), without def (map (key_of def) found) rows)) (sym same)
    ∙ planned_work def rows work.Delete plan.work (option_map unqualified delete.cond) plan.cond planned.work_is planned.cond

pub statements_are_scans : StatementsAreScans
statements_are_scans number def rule s plan rows is table passes planned =
    ap (executed_by def s rows) passes ∙ scanned number def rule s plan rows is table (both_none (no_column def s) _ passes).0 planned
