-- The aggregates that partitions answer fit, can be merged, and merge to those of the plain table.
use Rattle.std.proofs.Common.{◌≡◌, ℕ, ◌^◌, ◌≤◌, Bool, true, false, not, cond, List, [], ◌∷◌, ◌++◌, length, map, find, Option, Some, None, refl, sym, ◌∙◌, ap, subst, arith, inl, inr}
use Rattle.std.specs.List.{AllByRecursion, flat_map, list_all}
use Rattle.std.specs.List.Sorted.{IsPermutation}
use Rattle.std.proofs.lemmas.Bool.{and_parts, and_from, cases_Bool}
use Rattle.std.proofs.lemmas.List.Folds.{flat_map-map, list_all-append}
use Rattle.std.proofs.lemmas.List.Sorted.{length_permutation}
use Rattle.sql_values.specs.declared.table.TableDef.{TableDef}
use Rattle.sql_values.specs.declared.tree.ColumnName.{ColumnName}
use Rattle.sql_values.specs.Checks.{first_column, is_unknown}
use Rattle.part_rules.specs.declared.rule.Rule.{Rule}
use Rattle.sql_text.specs.declared.link.AggregateCall.{AggregateCall}
use Rattle.sql_text.specs.declared.link.LinkAnswer.{LinkAnswer}
use Rattle.sql_text.specs.declared.link.ScanItems.{ScanItems}
use Rattle.sql_text.specs.declared.link.ScanItems.TheVariants.{All, Aggregates}
use Rattle.sql_text.specs.declared.statement.AggregateItem.{AggregateItem}
use Rattle.sql_text.specs.declared.statement.Select.{Select}
use Rattle.sql_text.specs.declared.statement.SelectItems.{SelectItems}
use Rattle.sql_text.specs.declared.statement.SelectItems.TheVariants as items
use Rattle.sql_text.specs.declared.statement.TableStatement.{TableStatement}
use Rattle.sql_text.specs.declared.statement.TableStatement.TheVariants as statement
use Rattle.front_rows.specs.declared.aggregate.Aggregate.{Aggregate}
use Rattle.front_rows.specs.Aggregates.{can_merge, is_part, merged_results, over}
use Rattle.front_rows.specs.Laws.{AreSuited, CanStand, cells_answers}
use Rattle.front_rows.proofs.Aggregated.{map-map}
use Rattle.front_rows.proofs.Parts.{aggregates_can_merge, aggregates_fit, aggregates_merge, first_few}
use Rattle.front_rows.proofs.Shuffled.{order_does_not_matter}
use Rattle.stmt_plan.specs.declared.fault.StmtFault.{StmtFault}
use Rattle.stmt_plan.specs.declared.fault.StmtFault.TheVariants.{NoColumn, TypeMismatch}
use Rattle.stmt_plan.specs.declared.planned.Plan.{Plan}
use Rattle.stmt_plan.specs.declared.planned.Work.TheVariants as work
use Rattle.stmt_plan.specs.Plans.{IsPlan, items_of, limit_of, work_of}
use Rattle.stmt_plan.specs.Plans.{IsTable as IsDefinition}
use Rattle.stmt_plan.specs.Refusals.{ambiguous, column_count, key_changed, mismatch, mismatch_in, no_column, no_partition, refusal, value_fault}
use Rattle.stmt_plan.specs.Selects.{aggregate_of, aggregates_of, bare_call, call_columns, call_fits, called, calls_fit, cell_column, item_columns, items_by, known_as, known_name, limit_by, named_columns, order_columns, where_columns, work_by}
use Rattle.plain_tables.specs.Partitions.{IsTable, rows_in, lies_in}
use Rattle.plain_tables.specs.Rows.{FitsColumns, Row, holds_on, kept}
use Rattle.plain_tables.specs.Scans.{answer_of}
use Rattle.plain_tables.proofs.Naming.{bare_aggregate}
use Rattle.plain_tables.proofs.Scanned.{both_none, first_none, own_key, unmapped}
use Rattle.plain_tables.proofs.Suited.{IsMeant, calls_suit, few_rows, rows_stand}
use Rattle.merge_law.specs.Merging.{AggregatesAreMerged, AggregatesCanMerge, AggregatesFit, part_answers}
use Rattle.merge_law.proofs.Found.{all_kept, found_permuted, kept_rises}

-- WHAT A SELECT OF AGGREGATES ASKS

calls_in : List AggregateItem → List AggregateCall
calls_in list = map (λ (item : AggregateItem). item.call) list

-- the statement asks for these calls, on columns that the table has under the name by which it knows that
pub record AsksCalls (def : TableDef) (s : TableStatement) (calls : List AggregateCall) : Type 0 where
  pub name : List ℕ
  pub list : List AggregateItem
  pub calls_are : map (λ (item : AggregateItem). bare_call item.call) list ≡ calls
  pub meant : AllByRecursion (λ (item : AggregateItem). IsMeant (called def name) item.call) list
  pub limit_is : limit_of def s ≡ None
  pub work_is : work_of def s ≡ work.Aggregate (map (cell_column (called def name)) list)

-- where none passes, each fails
none_passes : {X : Type 0} (test : X → Bool) (xs : List X) → find test xs ≡ None → list_all (λ x. not (test x)) xs ≡ true
none_passes test [] none = refl
none_passes test (x ∷ xs) none = elim (cases_Bool (test x)) [
  | inl passes ↦ let never : Some x ≡ None = rw passes at none in cc
  | inr fails ↦ rw fails (none_passes test xs (rw fails at none))
]

each_meant : (known : TableDef) (list : List AggregateItem)
    → list_all (λ name. not (is_unknown (known ∷ []) name)) (flat_map (λ (item : AggregateItem). call_columns item.call) list) ≡ true
    → list_all (λ (item : AggregateItem). call_fits known item.call) list ≡ true → AllByRecursion (λ (item : AggregateItem). IsMeant known item.call) list
each_meant known [] named fits = tt
each_meant known (item ∷ list) named fits =
    let test : ColumnName → Bool = λ name. not (is_unknown (known ∷ []) name) in
    let columns = and_parts (list_all test (call_columns item.call)) _ (sym (list_all-append test (call_columns item.call) (flat_map (λ (i : AggregateItem). call_columns i.call) list)) ∙ named) in
    let fit = and_parts (call_fits known item.call) (list_all (λ (i : AggregateItem). call_fits known i.call) list) fits in
    (and_from _ _ columns.0 fit.0, each_meant known list columns.1 fit.1)

-- by what the items are
items_ask : (def : TableDef) (select : Select) (l : SelectItems) (calls : List AggregateCall) → items_by l ≡ Aggregates calls → first_column (is_unknown (known_as def select.tab ∷ [])) (item_columns l) ≡ None
    → calls_fit (known_as def select.tab) l ≡ true
    → (list : List AggregateItem) × (map (λ (item : AggregateItem). bare_call item.call) list ≡ calls) × AllByRecursion (λ (item : AggregateItem). IsMeant (known_as def select.tab) item.call) list
    × (limit_by (known_as def select.tab) select l ≡ None) × (work_by (known_as def select.tab) select l ≡ work.Aggregate (map (cell_column (known_as def select.tab)) list))
unfolding first_column
items_ask def select items.All calls asks named fits = let never : All ≡ Aggregates calls = asks in cc
items_ask def select (items.Columns list) calls asks named fits = let never : All ≡ Aggregates calls = asks in cc
items_ask def select (items.Aggregates list) calls asks named fits =
    let same : map (λ (item : AggregateItem). bare_call item.call) list ≡ calls = let both : Aggregates (map (λ (item : AggregateItem). bare_call item.call) list) ≡ Aggregates calls = asks in cc in
    let found = unmapped (λ (name : ColumnName). name.column) (find (is_unknown (known_as def select.tab ∷ [])) (item_columns (items.Aggregates list))) named in
    (list, same, each_meant (known_as def select.tab) list (none_passes (is_unknown (known_as def select.tab ∷ [])) (item_columns (items.Aggregates list)) found) fits, refl, refl)

-- a statement whose types go together has sums of numbers alone
sums_fit : (fits : Bool) (rest : Option StmtFault) → cond {A = Option StmtFault} fits rest (Some TypeMismatch) ≡ None → fits ≡ true
sums_fit true rest none = refl
sums_fit false rest none = let never : Some TypeMismatch ≡ None = none in cc

pub asks_calls : (def : TableDef) (s : TableStatement) (calls : List AggregateCall) → items_of s ≡ Aggregates calls → no_column def s ≡ None → mismatch def s ≡ None → AsksCalls def s calls
asks_calls def (statement.Insert insert) calls asks known fits = let never : All ≡ Aggregates calls = asks in cc
asks_calls def (statement.Update update) calls asks known fits = let never : All ≡ Aggregates calls = asks in cc
asks_calls def (statement.Delete delete) calls asks known fits = let never : All ≡ Aggregates calls = asks in cc
asks_calls def (statement.Select select) calls asks known fits =
    let unknown = is_unknown (known_as def select.tab ∷ []) in
    let named = unmapped NoColumn (first_column unknown (named_columns select)) known in
    let found = items_ask def select select.items calls asks (first_none unknown (item_columns select.items) (where_columns select.cond ++ order_columns select.order) named)
    (sums_fit (calls_fit (known_as def select.tab) select.items) (mismatch_in (known_as def select.tab) select.cond) fits) in
    record {
      name = known_name select.tab;
      list = found.0;
      calls_are = found.1;
      meant = found.2;
      limit_is = found.3;
      work_is = found.4;
    }

-- a statement that isn't refused
pub not_refused : (def : TableDef) (rule : Rule) (s : TableStatement) → refusal def rule s ≡ None → (no_column def s ≡ None) × (mismatch def s ≡ None)
not_refused def rule s passes =
    let first = both_none (no_column def s) _ passes in
    let second = both_none (ambiguous def s) _ first.1 in
    let third = both_none (key_changed def s) _ second.1 in
    let fourth = both_none (column_count def s) _ third.1 in
    let fifth = both_none (value_fault def s) _ fourth.1 in
    let sixth = both_none (no_partition def rule s) _ fifth.1 in
    (first.0, (both_none (mismatch def s) None sixth.1).0)

-- THE SAME AGGREGATES

module _ (def : TableDef) (name : List ℕ) where
  bare_alike : (list : List AggregateItem) → AllByRecursion (λ (item : AggregateItem). IsMeant (called def name) item.call) list
      → map (aggregate_of def) (map (λ (item : AggregateItem). bare_call item.call) list) ≡ map (λ (item : AggregateItem). aggregate_of (called def name) item.call) list
  bare_alike [] meant = refl
  bare_alike (item ∷ list) meant =
      let columns = and_parts (list_all (λ n. not (is_unknown (called def name ∷ []) n)) (call_columns item.call)) (call_fits (called def name) item.call) meant.0 in
      rw (bare_aggregate def name item.call columns.0, bare_alike list meant.1) refl

  columns_alike : (list : List AggregateItem) → aggregates_of (map (cell_column (called def name)) list) ≡ map (λ (item : AggregateItem). aggregate_of (called def name) item.call) list
  columns_alike [] = refl
  columns_alike (item ∷ list) = ap (λ l. aggregate_of (called def name) item.call ∷ l) (columns_alike list)

  all_meant : (list : List AggregateItem) → AllByRecursion (λ (item : AggregateItem). IsMeant (called def name) item.call) list → AllByRecursion (IsMeant (called def name)) (map (λ (item : AggregateItem). item.call) list)
  all_meant [] meant = tt
  all_meant (item ∷ list) meant = (meant.0, all_meant list meant.1)

-- the answer's aggregates are those that are asked for
pub asked_alike : (def : TableDef) (s : TableStatement) (calls : List AggregateCall) (asks : AsksCalls def s calls) → aggregates_of (map (cell_column (called def asks.name)) asks.list) ≡ map (aggregate_of def) calls
asked_alike def s calls asks = columns_alike def asks.name asks.list ∙ sym (bare_alike def asks.name asks.list asks.meant) ∙ ap (map (aggregate_of def)) asks.calls_are

asked_suit : (def : TableDef) (s : TableStatement) (calls : List AggregateCall) (asks : AsksCalls def s calls) (rows : List Row) → AllByRecursion (FitsColumns def) rows → AreSuited (map (aggregate_of def) calls) rows
asked_suit def s calls asks rows fit =
    let known = called def asks.name in
    let same = map-map (λ (item : AggregateItem). item.call) (aggregate_of known) asks.list ∙ sym (bare_alike def asks.name asks.list asks.meant) ∙ ap (map (aggregate_of def)) asks.calls_are in
    subst (λ (l : List Aggregate). AreSuited l rows) same (calls_suit known (map (λ (item : AggregateItem). item.call) asks.list) rows (all_meant def asks.name asks.list asks.meant) fit)

-- WHAT THE PARTITIONS HAVE

-- rows of the parts for these aggregates
pub record AreCounted (aggregates : List Aggregate) (parts : List (List Row)) : Type 0 where
  pub suited : AllByRecursion (AreSuited aggregates) parts
  pub stand : AllByRecursion (AllByRecursion CanStand) parts
  pub few : length (flat_map (λ rows. rows) parts) ≤ 2 ^ 64

-- what the partition has of the plan's condition
abbrev pub found_in : TableDef → Rule → Plan → List Row → ℕ → List Row
found_in def rule plan rows p = kept def plan.cond (rows_in def rule p rows)

abbrev pub all_found : TableDef → Rule → Plan → List Row → List (List Row)
all_found def rule plan rows = map (found_in def rule plan rows) plan.parts

module _ (def : TableDef) (rule : Rule) (plan : Plan) (rows : List Row) (fit : AllByRecursion (FitsColumns def) rows) where
  found_fit : (p : ℕ) → AllByRecursion (FitsColumns def) (found_in def rule plan rows p)
  found_fit p = all_kept (FitsColumns def) (holds_on def plan.cond) (rows_in def rule p rows) (all_kept (FitsColumns def) (lies_in def rule p) rows fit)

  all_suit : (aggregates : List Aggregate) → ((found : List Row) → AllByRecursion (FitsColumns def) found → AreSuited aggregates found) → (parts : List ℕ) → AllByRecursion (AreSuited aggregates) (map (found_in def rule plan rows) parts)
  all_suit aggregates suits [] = tt
  all_suit aggregates suits (p ∷ parts) = (suits (found_in def rule plan rows p) (found_fit p), all_suit aggregates suits parts)

  all_stand : (parts : List ℕ) → AllByRecursion (AllByRecursion CanStand) (map (found_in def rule plan rows) parts)
  all_stand [] = tt
  all_stand (p ∷ parts) = (rows_stand def (found_in def rule plan rows p) (found_fit p), all_stand parts)

-- all of them are those of the table in another order
pub all_permuted : (number : ℕ) (def : TableDef) (rule : Rule) (s : TableStatement) (plan : Plan) (rows : List Row) → IsDefinition def → IsTable def rule rows → IsPlan number def rule s plan
    → IsPermutation (flat_map (λ found. found) (all_found def rule plan rows)) (kept def plan.cond rows)
all_permuted number def rule s plan rows is table planned =
    subst (λ l. IsPermutation l (kept def plan.cond rows)) (sym (flat_map-map (λ (found : List Row). found) (found_in def rule plan rows) plan.parts))
    (found_permuted def rule rows plan.cond plan.keys plan.parts (own_key def is) table planned.keys planned.parts)

are_counted : (number : ℕ) (def : TableDef) (rule : Rule) (s : TableStatement) (plan : Plan) (calls : List AggregateCall) (rows : List Row) → IsDefinition def → IsTable def rule rows
    → AllByRecursion (FitsColumns def) rows → AsksCalls def s calls → IsPlan number def rule s plan → AreCounted (map (aggregate_of def) calls) (all_found def rule plan rows)
are_counted number def rule s plan calls rows is table fit asks planned =
    let permuted = all_permuted number def rule s plan rows is table planned in
    let found = kept def plan.cond rows in
    let few = few_rows def found (kept_rises def plan.cond rows table.rises) (all_kept _ (holds_on def plan.cond) rows table.keyed) in
    let as_many = length_permutation _ found permuted in
    record {
      suited = all_suit def rule plan rows fit (map (aggregate_of def) calls) (asked_suit def s calls asks) plan.parts;
      stand = all_stand def rule plan rows fit plan.parts;
      few = omega (arith, few, as_many);
    }

-- THE LAWS

-- what the partitions answer, where they are asked for aggregates of all rows
cells_of_parts : (def : TableDef) (rule : Rule) (plan : Plan) (calls : List AggregateCall) (rows : List Row) → plan.pushed ≡ Aggregates calls → plan.limit ≡ None
    → part_answers def rule plan rows ≡ cells_answers (map (aggregate_of def) calls) (all_found def rule plan rows)
cells_of_parts def rule plan calls rows pushed all =
    ap (λ (asked : ScanItems). map (λ p. answer_of def asked plan.limit (found_in def rule plan rows p)) plan.parts) pushed
    ∙ ap (λ limit. map (λ p. answer_of def (Aggregates calls) limit (found_in def rule plan rows p)) plan.parts) all
    ∙ sym (map-map (found_in def rule plan rows) (answer_of def (Aggregates calls) None) plan.parts)

pub asks_by_plan : (number : ℕ) (def : TableDef) (rule : Rule) (s : TableStatement) (plan : Plan) (calls : List AggregateCall) → refusal def rule s ≡ None → IsPlan number def rule s plan → plan.pushed ≡ Aggregates calls → AsksCalls def s calls
asks_by_plan number def rule s plan calls passes planned pushed =
    let rules = not_refused def rule s passes in
    asks_calls def s calls (sym planned.items ∙ pushed) rules.0 rules.1

pub aggregates_are_merged : AggregatesAreMerged
aggregates_are_merged number def rule s plan calls rows is table fit passes planned pushed =
    let asks = asks_by_plan number def rule s plan calls passes planned pushed in
    let counted = are_counted number def rule s plan calls rows is table fit asks planned in
    let aggregates = map (aggregate_of def) calls in
    ap (merged_results aggregates) (cells_of_parts def rule plan calls rows pushed (planned.limit_is ∙ asks.limit_is))
    ∙ aggregates_merge aggregates (all_found def rule plan rows) counted.suited counted.stand counted.few
    ∙ map-map (aggregate_of def) (over (flat_map (λ found. found) (all_found def rule plan rows))) calls
    ∙ in_any_order calls
  where
    in_any_order : (list : List AggregateCall) → map (λ call. over (flat_map (λ found. found) (all_found def rule plan rows)) (aggregate_of def call)) list ≡ map (λ call. over (kept def plan.cond rows) (aggregate_of def call)) list
    in_any_order [] = refl
    in_any_order (call ∷ list) = rw (order_does_not_matter _ (kept def plan.cond rows) (aggregate_of def call) (all_permuted number def rule s plan rows is table planned), in_any_order list) refl

each_fits : (aggregates : List Aggregate) (parts : List (List Row)) → AllByRecursion (AreSuited aggregates) parts → AllByRecursion (AllByRecursion CanStand) parts → length (flat_map (λ rows. rows) parts) ≤ 2 ^ 64
    → AllByRecursion (λ answer. is_part aggregates answer ≡ true) (cells_answers aggregates parts)
each_fits aggregates [] suited stand few = tt
each_fits aggregates (rows ∷ parts) suited stand few =
    let both = first_few rows parts few in
    (aggregates_fit aggregates rows suited.0 stand.0 both.0, each_fits aggregates parts suited.1 stand.1 both.1)

pub plan_aggregates_fit : AggregatesFit
plan_aggregates_fit number def rule s plan calls rows is table fit passes planned pushed =
    let asks = asks_by_plan number def rule s plan calls passes planned pushed in
    let counted = are_counted number def rule s plan calls rows is table fit asks planned in
    let aggregates = map (aggregate_of def) calls in
    subst (AllByRecursion (λ (answer : LinkAnswer). is_part aggregates answer ≡ true)) (sym (cells_of_parts def rule plan calls rows pushed (planned.limit_is ∙ asks.limit_is)))
    (each_fits aggregates (all_found def rule plan rows) counted.suited counted.stand counted.few)

pub plan_aggregates_can_merge : AggregatesCanMerge
plan_aggregates_can_merge number def rule s plan calls rows is table fit passes planned pushed =
    let asks = asks_by_plan number def rule s plan calls passes planned pushed in
    let counted = are_counted number def rule s plan calls rows is table fit asks planned in
    let aggregates = map (aggregate_of def) calls in
    ap (can_merge aggregates) (cells_of_parts def rule plan calls rows pushed (planned.limit_is ∙ asks.limit_is))
    ∙ aggregates_can_merge aggregates (all_found def rule plan rows) counted.suited counted.stand counted.few
