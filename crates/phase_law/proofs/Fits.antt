-- What a statement that breaks no rule sends fits the tables of its links.
use Rattle.std.proofs.Common.{◌≡◌, ℕ, suc, ℤ, ◌==◌, nat_eq, Bool, true, false, List, [], ◌∷◌, ◌++◌, map, Option, Some, None, refl, arith, sym, ◌∙◌, ap, inl, inr, cond, find, filter, length}
use Rattle.std.specs.Prelude.{slice_get, IsSomeAnd}
use Rattle.std.specs.List.{Contains, list_all}
use Rattle.std.specs.Option.{option_map, option_map_or, option_or}
use Rattle.std.specs.Cmp.Lexicographic.{pointwise, bytes_decides, nat_list_eq_equiv}
use Rattle.std.proofs.lemmas.Bool.{cases_Bool, false≢true}
use Rattle.std.proofs.lemmas.List.Elements.{filter_agree}
use Rattle.sql_values.specs.declared.literal.Literal.TheVariants as literal
use Rattle.sql_values.specs.declared.table.ColumnDef.{ColumnDef}
use Rattle.sql_values.specs.declared.table.Kind.{Kind}
use Rattle.sql_values.specs.declared.table.Kind.TheVariants.{BigInt}
use Rattle.sql_values.specs.declared.table.TableDef.{TableDef}
use Rattle.sql_values.specs.declared.tree.ColumnName.{ColumnName}
use Rattle.sql_values.specs.declared.tree.Cond.{Cond, Cond-F}
use Rattle.sql_values.specs.declared.tree.Cond.TheFolds.{fold-roll-Cond}
use Rattle.sql_values.specs.declared.tree.Cond.TheVariants.{rolls-In}
use Rattle.sql_values.specs.Checks.{is_unknown, is_ambiguous, first_column, cond_columns, cond_fits, layer_columns, layer_fits, after_columns, named_fault}
use Rattle.sql_values.specs.Columns.{may_mean, columns_meant, column_kind}
use Rattle.sql_values.specs.Kinds.{literal_kind, are_comparable}
use Rattle.part_rules.specs.declared.rule.Rule.{Rule}
use Rattle.sql_text.specs.declared.link.LinkAnswer.TheVariants.{Cells}
use Rattle.sql_text.specs.declared.link.ScanItems.{ScanItems}
use Rattle.sql_text.specs.declared.link.ScanItems.TheVariants as scan
use Rattle.sql_text.specs.declared.statement.Delete.{Delete}
use Rattle.sql_text.specs.declared.statement.Select.{Select}
use Rattle.sql_text.specs.declared.statement.SelectItems.{SelectItems}
use Rattle.sql_text.specs.declared.statement.SelectItems.TheVariants as items
use Rattle.sql_text.specs.declared.statement.TableStatement.{TableStatement}
use Rattle.sql_text.specs.declared.statement.TableStatement.TheVariants as statement
use Rattle.sql_text.specs.declared.statement.Tab.{Tab}
use Rattle.sql_text.specs.declared.statement.Update.{Update}
use Rattle.catalog.specs.declared.tables.Table.{Table}
use Rattle.stmt_plan.specs.declared.fault.StmtFault.{StmtFault}
use Rattle.stmt_plan.specs.declared.fault.StmtFault.TheVariants.{KeyChanged, NoColumn, TypeMismatch}
use Rattle.stmt_plan.specs.Inserts.{rows_of, row_key, key_name, in_keys}
use Rattle.stmt_plan.specs.Plans.{IsTable, items_of, limit_of}
use Rattle.stmt_plan.specs.Refusals.{refusal, no_column, ambiguous, key_changed, column_count, value_fault, no_partition, mismatch, mismatch_in}
use Rattle.stmt_plan.specs.Selects.{called, calls_fit, known_as, known_name, item_columns, items_by, order_columns, where_columns, bare_layer, unqualified}
use Rattle.stmt_plan.specs.Settings.{assigned_columns, settings, sets_fit, sets_key}
use Rattle.stmt_plan.proofs.BareNames.{unqualified_means_the_same}
use Rattle.plain_tables.specs.Rows.{Row, holds_on, kept}
use Rattle.plain_tables.specs.Scans.{answer_of, first_rows}
use Rattle.plain_tables.proofs.Scanned.{both_none, first_none, last_none, unmapped}
use Rattle.plain_tables.proofs.Members.{at_front, behind, either, nothing}
use Rattle.branch_store.specs.declared.fault.BranchFault.{BranchFault}
use Rattle.branch_store.specs.declared.fault.BranchFault.TheVariants as fault
use Rattle.branch_store.specs.Faults.{cond_fault, fault_of_check, items_fault, key_fault}
use Rattle.txn_phases.specs.declared.phase.Target.{Target}
use Rattle.front_core.specs.Asked.{pushed, rising}
use Rattle.front_core.specs.Jobs.{scan_for}
use Rattle.front_rows.specs.Aggregates.{cells_over}
use Rattle.txn_phases.specs.Phases.{order_of}
use Rattle.phase_law.proofs.Bare.{AreKnown, alone_known, conditions_fit_alike, none_ambiguous}
use Rattle.phase_law.proofs.BareCalls.{calls_alike, items_known}
use Rattle.phase_law.proofs.Lists.{is_other, at_place, place_of}
use Rattle.phase_law.proofs.Scans.{FindsAlike, FitsScan}

-- RULES THAT ARE KEPT

-- no rule is broken
pub record Passes (def : TableDef) (rule : Rule) (s : TableStatement) : Type 0 where
  pub known : no_column def s ≡ None
  pub key_stays : key_changed def s ≡ None
  pub counted : column_count def s ≡ None
  pub stored : value_fault def s ≡ None
  pub placed : no_partition def rule s ≡ None
  pub comparable : mismatch def s ≡ None

pub passes : (def : TableDef) (rule : Rule) (s : TableStatement) → refusal def rule s ≡ None → Passes def rule s
passes def rule s none =
    let one = both_none (no_column def s) _ none in
    let two = both_none (ambiguous def s) _ one.1 in
    let three = both_none (key_changed def s) _ two.1 in
    let four = both_none (column_count def s) _ three.1 in
    let five = both_none (value_fault def s) _ four.1 in
    let six = both_none (no_partition def rule s) _ five.1 in
    let seven = both_none (mismatch def s) None six.1 in
    record { known = one.0; key_stays = three.0; counted = four.0; stored = five.0; placed = six.0; comparable = seven.0 }

-- an UPDATE doesn't set the key column
unset : (b : Bool) → cond {A = Option StmtFault} b (Some KeyChanged) None ≡ None → b ≡ false
unset true none = absurd (let no : Some KeyChanged ≡ None = none in cc)
unset false none = refl

pub keys_stay : (def : TableDef) (rule : Rule) (update : Update) → refusal def rule (statement.Update update) ≡ None → sets_key def (settings def update.sets) ≡ false
keys_stay def rule update none = unset (sets_key def (settings def update.sets)) (passes def rule (statement.Update update) none).key_stays

-- CONDITIONS

none_first : (found : Option ColumnName) → option_map (λ (name : ColumnName). name.column) found ≡ None → found ≡ None
none_first None none = refl
none_first (Some name) none = absurd (let no : Some name.column ≡ None = none in cc)

pub known_first : (tables : List TableDef) (names : List ColumnName) → find (is_unknown tables) names ≡ None → first_column (is_unknown tables) names ≡ None
unfolding first_column
known_first tables names none = ap (option_map (λ (name : ColumnName). name.column)) none

first_known : (tables : List TableDef) (names : List ColumnName) → first_column (is_unknown tables) names ≡ None → find (is_unknown tables) names ≡ None
unfolding first_column
first_known tables names none = none_first (find (is_unknown tables) names) none

-- a condition of known columns whose kinds go together has no fault
no_fault : (def : TableDef) (m : List ℕ) (c : Cond) → IsTable def → AreKnown def m (cond_columns c) → cond_fits (called def m ∷ []) c ≡ true → cond_fault (called def m) (Some c) ≡ None
no_fault def m c is known fits =
    let told : Option (List ℕ) → Option (List ℕ) → Bool → Option BranchFault = λ unknown several so. fault_of_check (after_columns (named_fault unknown several) (cond so (Some tt) None)) in
    ap (λ u. told u (first_column (is_ambiguous (called def m ∷ [])) (cond_columns c)) (cond_fits (called def m ∷ []) c)) (known_first (called def m ∷ []) (cond_columns c) known)
    ∙ (ap (λ a. told None a (cond_fits (called def m ∷ []) c)) (none_ambiguous def m (cond_columns c) is)
    ∙ ap (told None None) fits)

-- WHERE

comparable_by : (b : Bool) (rest : Option StmtFault) → cond {A = Option StmtFault} b rest (Some TypeMismatch) ≡ None → (b ≡ true) × (rest ≡ None)
comparable_by true rest none = (refl, none)
comparable_by false rest none = absurd (let no : Some TypeMismatch ≡ None = none in cc)

-- each of these columns is one of the table, under this name of it
abbrev pub NoneUnknown : TableDef → List ℕ → List ColumnName → Type 0
NoneUnknown def k names = first_column (is_unknown (called def k ∷ [])) names ≡ None

-- where all columns of a text are, those of its second part are
last_known : (def : TableDef) (k : List ℕ) (before names : List ColumnName) → NoneUnknown def k (before ++ names) → NoneUnknown def k names
last_known def k before names none = last_none (is_unknown (called def k ∷ [])) before names none

-- and so are those of its first part
first_part_known : (def : TableDef) (k : List ℕ) (names behind : List ColumnName) → NoneUnknown def k (names ++ behind) → NoneUnknown def k names
first_part_known def k names behind none = first_none (is_unknown (called def k ∷ [])) names behind none

-- those of WHERE: a SELECT knows its table by the name that it gives it, each other statement by the table's own
pub select_known : (def : TableDef) (select : Select) → no_column def (statement.Select select) ≡ None → NoneUnknown def (known_name select.tab) (where_columns select.cond)
select_known def select none =
    first_part_known def (known_name select.tab) (where_columns select.cond) (order_columns select.order)
    (last_known def (known_name select.tab) (item_columns select.items) (where_columns select.cond ++ order_columns select.order) (unmapped NoColumn _ none))

-- those of its items
pub items_are_known : (def : TableDef) (select : Select) → no_column def (statement.Select select) ≡ None → NoneUnknown def (known_name select.tab) (item_columns select.items)
items_are_known def select none =
    first_part_known def (known_name select.tab) (item_columns select.items) (where_columns select.cond ++ order_columns select.order) (unmapped NoColumn _ none)

pub update_known : (def : TableDef) (update : Update) → no_column def (statement.Update update) ≡ None → NoneUnknown def def.name (where_columns update.cond)
update_known def update none = last_known def def.name (assigned_columns update.sets) (where_columns update.cond) (unmapped NoColumn _ none)

pub delete_known : (def : TableDef) (delete : Delete) → no_column def (statement.Delete delete) ≡ None → NoneUnknown def def.name (where_columns delete.cond)
delete_known def delete none = unmapped NoColumn _ none

-- its condition fits the table under each other name
where_fits : (def : TableDef) (k m : List ℕ) (c : Option Cond) → IsTable def → NoneUnknown def k (where_columns c) → mismatch_in (called def k) c ≡ None → cond_fault (called def m) (option_map unqualified c) ≡ None
where_fits def k m None is known comparable = refl
where_fits def k m (Some c) is known comparable =
    let alike = conditions_fit_alike def k m c (first_known (called def k ∷ []) (cond_columns c) known) in
    no_fault def m (unqualified c) is alike.0 (alike.1 ∙ (comparable_by (cond_fits (called def k ∷ []) c) None comparable).0)

-- KEYS

-- the key column's own name
abbrev key_column : TableDef → ColumnName
key_column def = record { table = None; column = key_name def }

-- the first column of a name is one that has the name
found_kind : (name : List ℕ) (m : List ℕ) (columns : List ColumnDef) (column : ColumnDef) → Contains columns column → column.name ≡ name
    → ((other : ColumnDef) → Contains columns other → other.name ≡ name → other.kind ≡ BigInt)
    → option_map (λ (found : List ℕ × ColumnDef). found.1.kind) (find (may_mean (record { table = None; column = name })) (map (λ (c : ColumnDef). (m, c)) columns ++ [])) ≡ Some BigInt
found_kind name m [] column c is all = nothing column c
found_kind name m (first ∷ columns) column c is all = elim (cases_Bool (pointwise nat_eq first.name name)) [
  | inl here ↦
      let kind : first.kind ≡ BigInt = all first (at_front first columns) ((bytes_decides first.name name).0 here) in
      rw here (ap (λ (k : Kind). Some k) kind)
  | inr other ↦ elim (either first column columns c) [
    | inl same ↦
        let named : pointwise nat_eq first.name name ≡ true = (bytes_decides first.name name).1 (ap (λ (d : ColumnDef). d.name) same ∙ is) in
        absurd (false≢true (sym other ∙ named))
    | inr later ↦ rw other (found_kind name m columns column later is (λ d at. all d (behind first d columns at)))
  ]
]

key_place : (o : Option ColumnDef) (columns : List ColumnDef) (key : ℕ) → slice_get columns key ≡ o → IsSomeAnd o (λ (c : ColumnDef). c.kind ≡ BigInt)
    → (column : ColumnDef) × (slice_get columns key ≡ Some column) × (column.kind ≡ BigInt) × (option_map_or (λ (c : ColumnDef). c.name) (slice_get columns key) [] ≡ column.name)
key_place None columns key at is = absurd is
key_place (Some column) columns key at is = (column, at, is, ap (λ (o : Option ColumnDef). option_map_or (λ (c : ColumnDef). c.name) o []) at)

key_kind : (def : TableDef) (m : List ℕ) → IsTable def → column_kind (called def m ∷ []) (key_column def) ≡ Some BigInt
unfolding column_kind
key_kind def m is =
    let key = key_place (slice_get def.columns def.key) def.columns def.key refl is.key in
    found_kind (key_name def) m def.columns key.0 (at_place def.columns def.key key.0 key.1) (sym key.3)
    (λ other c same.
    let at = place_of def.columns other c in
    let place : at.0 ≡ def.key = is.apart at.0 def.key other key.0 at.1 key.1 (same ∙ key.3) in
    let twice : Some other ≡ Some key.0 = sym at.1 ∙ (ap (slice_get def.columns) place ∙ key.1) in
    let one : other ≡ key.0 = cc in
    ap (λ (d : ColumnDef). d.kind) one ∙ key.2)

kind_is_known : (name : ColumnName) (list : List (List ℕ × ColumnDef)) → option_map (λ (found : List ℕ × ColumnDef). found.1.kind) (find (may_mean name) list) ≡ Some BigInt → (length (filter (may_mean name) list) == 0) ≡ false
kind_is_known name [] found = let no : None ≡ Some BigInt = found in absurd (cc)
kind_is_known name (x ∷ list) found = elim (cases_Bool (may_mean name x)) [
  | inl here ↦ rw here (is_other (suc (length (filter (may_mean name) list))) 0 (λ same. omega arith))
  | inr other ↦ rw other (kind_is_known name list (rw other at found))
]

key_known : (def : TableDef) (m : List ℕ) → IsTable def → is_unknown (called def m ∷ []) (key_column def) ≡ false
unfolding column_kind columns_meant
key_known def m is = kind_is_known (key_column def) _ (key_kind def m is)

numbers_fit : (keys : List ℤ) → list_all (λ l. are_comparable (Some BigInt) (literal_kind l)) (map literal.Number keys) ≡ true
numbers_fit [] = refl
numbers_fit (key ∷ keys) = numbers_fit keys

keys_fit : (def : TableDef) (m : List ℕ) (keys : List ℤ) → IsTable def → cond_fault (called def m) (Some (in_keys def keys)) ≡ None
keys_fit def m keys is =
    let layer : Cond-F Cond = Cond-F.In (key_column def) false (map literal.Number keys) in
    let columns : cond_columns (in_keys def keys) ≡ key_column def ∷ [] =
    ap cond_columns (sym (rolls-In (key_column def) false (map literal.Number keys))) ∙ fold-roll-Cond (List ColumnName) layer_columns layer in
    let fits : cond_fits (called def m ∷ []) (in_keys def keys) ≡ true =
    ap (cond_fits (called def m ∷ [])) (sym (rolls-In (key_column def) false (map literal.Number keys)))
    ∙ (fold-roll-Cond Bool (layer_fits (called def m ∷ [])) layer
    ∙ (ap (λ (k : Option Kind). list_all (λ l. are_comparable k (literal_kind l)) (map literal.Number keys)) (key_kind def m is) ∙ numbers_fit keys)) in
    no_fault def m (in_keys def keys) is (ap (find (is_unknown (called def m ∷ []))) columns ∙ alone_known def m (key_column def) (key_known def m is)) fits

-- THE SCAN

pushed_fits : (def : TableDef) (rule : Rule) (m : List ℕ) (s : TableStatement) → IsTable def → Passes def rule s → cond_fault (called def m) (pushed def s) ≡ None
pushed_fits def rule m (statement.Insert insert) is pass = keys_fit def m (rising (map (row_key def.key) (rows_of def insert.columns insert.rows))) is
pushed_fits def rule m (statement.Select select) is pass =
    where_fits def (known_name select.tab) m select.cond is (select_known def select pass.known)
    (comparable_by (calls_fit (known_as def select.tab) select.items) (mismatch_in (known_as def select.tab) select.cond) pass.comparable).1
pushed_fits def rule m (statement.Update update) is pass =
    where_fits def def.name m update.cond is (update_known def update pass.known) (comparable_by (sets_fit def (settings def update.sets)) (mismatch_in def update.cond) pass.comparable).1
pushed_fits def rule m (statement.Delete delete) is pass = where_fits def def.name m delete.cond is (delete_known def delete pass.known) pass.comparable

-- so do the aggregates that are asked for
asked_fit : (def : TableDef) (rule : Rule) (m : List ℕ) (s : TableStatement) → Passes def rule s → items_fault (called def m) (items_of s) ≡ None
asked_fit def rule m (statement.Insert insert) pass = refl
asked_fit def rule m (statement.Select select) pass =
    items_known def (known_name select.tab) m select.items (first_known (called def (known_name select.tab) ∷ []) (item_columns select.items) (items_are_known def select pass.known))
    (comparable_by (calls_fit (known_as def select.tab) select.items) (mismatch_in (known_as def select.tab) select.cond) pass.comparable).0
asked_fit def rule m (statement.Update update) pass = refl
asked_fit def rule m (statement.Delete delete) pass = refl

-- rows come in the order of the key's own name
order_fits : (def : TableDef) (m : List ℕ) (items : ScanItems) → key_fault (called def m) (order_of items (key_name def)) ≡ None
order_fits def m scan.All =
    let named : pointwise nat_eq (key_name def) (key_name def) ≡ true = nat_list_eq_equiv.refl (key_name def) in
    ap (λ b. cond b None (Some (fault.NoColumn (key_name def)))) named
order_fits def m (scan.Aggregates calls) = refl

-- the scan fits the table of each link
pub scan_fits : (table : Table) (s : TableStatement) (t : Target) → IsTable table.def → refusal table.def table.rule s ≡ None → FitsScan table (scan_for table.def s) t
scan_fits table s t is none =
    let pass = passes table.def table.rule s none in
    let last : Option BranchFault = cond_fault (called table.def t.remote) (pushed table.def s) in
    ap (λ o. option_or o (option_or (key_fault (called table.def t.remote) (order_of (items_of s) (key_name table.def))) last)) (asked_fit table.def table.rule t.remote s pass)
    ∙ (ap (λ o. option_or o last) (order_fits table.def t.remote (items_of s)) ∙ pushed_fits table.def table.rule t.remote s is pass)

-- WHAT IS KEPT

-- what holds under one name of the table holds under another
bare_keys : (def : TableDef) (keys : List ℤ) → unqualified (in_keys def keys) ≡ in_keys def keys
bare_keys def keys =
    ap unqualified (sym (rolls-In (key_column def) false (map literal.Number keys))) ∙ fold-roll-Cond Cond bare_layer (Cond-F.In (key_column def) false (map literal.Number keys))

keys_alike : (def : TableDef) (m : List ℕ) (keys : List ℤ) (row : Row) → IsTable def → holds_on (called def m) (Some (in_keys def keys)) row ≡ holds_on def (Some (in_keys def keys)) row
keys_alike def m keys row is =
    let tab : Tab = record { table = m; alias = None } in
    let columns : cond_columns (in_keys def keys) ≡ key_column def ∷ [] =
    ap cond_columns (sym (rolls-In (key_column def) false (map literal.Number keys))) ∙ fold-roll-Cond (List ColumnName) layer_columns (Cond-F.In (key_column def) false (map literal.Number keys)) in
    let known : first_column (is_unknown (called def m ∷ [])) (cond_columns (in_keys def keys)) ≡ None =
    known_first (called def m ∷ []) (cond_columns (in_keys def keys)) (ap (find (is_unknown (called def m ∷ []))) columns ∙ alone_known def m (key_column def) (key_known def m is)) in
    sym (unqualified_means_the_same def tab row (in_keys def keys) known) ∙ ap (λ c. holds_on def (Some c) row) (bare_keys def keys)

-- what WHERE keeps is what the condition without the names of tables keeps
where_means : (def : TableDef) (k : List ℕ) (row : Row) (c : Option Cond) → NoneUnknown def k (where_columns c) → holds_on def (option_map unqualified c) row ≡ holds_on (called def k) c row
where_means def k row None known = refl
where_means def k row (Some c) known = unqualified_means_the_same def (record { table = k; alias = None }) row c known

pub where_keeps : (def : TableDef) (k : List ℕ) (c : Option Cond) (rows : List Row) → NoneUnknown def k (where_columns c) → kept (called def k) c rows ≡ kept def (option_map unqualified c) rows
where_keeps def k c rows known = filter_agree (holds_on (called def k) c) (holds_on def (option_map unqualified c)) (λ row. sym (where_means def k row c known)) rows

-- under each name of the table
where_alike : (def : TableDef) (k m : List ℕ) (row : Row) (c : Option Cond) → NoneUnknown def k (where_columns c) → holds_on (called def m) (option_map unqualified c) row ≡ holds_on def (option_map unqualified c) row
where_alike def k m row c known = where_means (called def m) k row c known ∙ sym (where_means def k row c known)

pushed_alike : (def : TableDef) (rule : Rule) (m : List ℕ) (s : TableStatement) (row : Row) → IsTable def → Passes def rule s → holds_on (called def m) (pushed def s) row ≡ holds_on def (pushed def s) row
pushed_alike def rule m (statement.Insert insert) row is pass = keys_alike def m (rising (map (row_key def.key) (rows_of def insert.columns insert.rows))) row is
pushed_alike def rule m (statement.Select select) row is pass = where_alike def (known_name select.tab) m row select.cond (select_known def select pass.known)
pushed_alike def rule m (statement.Update update) row is pass = where_alike def def.name m row update.cond (update_known def update pass.known)
pushed_alike def rule m (statement.Delete delete) row is pass = where_alike def def.name m row delete.cond (delete_known def delete pass.known)

-- a link keeps the rows that the table does
pushed_keeps : (table : Table) (s : TableStatement) (t : Target) (rows : List Row) → IsTable table.def → refusal table.def table.rule s ≡ None → kept (called table.def t.remote) (pushed table.def s) rows ≡ kept table.def (pushed table.def s) rows
pushed_keeps table s t rows is none =
    filter_agree (holds_on (called table.def t.remote) (pushed table.def s)) (holds_on table.def (pushed table.def s)) (λ row. pushed_alike table.def table.rule t.remote s row is (passes table.def table.rule s none)) rows

-- WHAT IS ANSWERED

-- what is asked of the same rows is the same under each name of the table
items_alike : (def : TableDef) (m : List ℕ) (items : SelectItems) (limit : Option ℕ) (rows : List Row) → answer_of (called def m) (items_by items) limit rows ≡ answer_of def (items_by items) limit rows
items_alike def m items.All limit rows = refl
items_alike def m (items.Columns list) limit rows = refl
items_alike def m (items.Aggregates list) limit rows = ap (λ l. Cells (first_rows limit (cells_over l rows ∷ []))) (calls_alike def m list)

answers_alike : (def : TableDef) (m : List ℕ) (s : TableStatement) (limit : Option ℕ) (rows : List Row) → answer_of (called def m) (items_of s) limit rows ≡ answer_of def (items_of s) limit rows
answers_alike def m (statement.Insert insert) limit rows = refl
answers_alike def m (statement.Select select) limit rows = items_alike def m select.items limit rows
answers_alike def m (statement.Update update) limit rows = refl
answers_alike def m (statement.Delete delete) limit rows = refl

-- a link answers what the table does
pub scan_finds : (table : Table) (s : TableStatement) (t : Target) → IsTable table.def → refusal table.def table.rule s ≡ None → FindsAlike table (scan_for table.def s) t
scan_finds table s t is none rows =
    ap (answer_of (called table.def t.remote) (items_of s) (limit_of table.def s)) (pushed_keeps table s t rows is none)
    ∙ answers_alike table.def t.remote s (limit_of table.def s) (kept table.def (pushed table.def s) rows)
