-- What a statement's scans are answered, and that its job may have it.
use Rattle.std.proofs.Common.{◌≡◌, ℕ, zero, suc, Bool, true, List, [], ◌∷◌, map, take, Option, Some, None, refl, sym, subst, ap, ◌∙◌}
use Rattle.std.specs.List.{AllByRecursion, Contains}
use Rattle.sql_values.specs.declared.places.Interval.{Interval}
use Rattle.sql_values.specs.declared.tree.Cond.{Cond}
use Rattle.sql_values.specs.declared.table.TableDef.{TableDef}
use Rattle.part_rules.specs.declared.rule.Rule.{Rule}
use Rattle.catalog.specs.declared.tables.Table.{Table}
use Rattle.sql_text.specs.declared.link.LinkAnswer.{LinkAnswer}
use Rattle.sql_text.specs.declared.link.LinkAnswer.TheVariants as answer
use Rattle.sql_text.specs.declared.link.AggregateCall.{AggregateCall}
use Rattle.sql_text.specs.declared.link.ScanItems.{ScanItems}
use Rattle.sql_text.specs.declared.link.ScanItems.TheVariants as scan
use Rattle.sql_text.specs.declared.statement.AggregateItem.{AggregateItem}
use Rattle.sql_text.specs.declared.statement.Select.{Select}
use Rattle.sql_text.specs.declared.statement.SelectItems.{SelectItems}
use Rattle.sql_text.specs.declared.statement.SelectItems.TheVariants as items
use Rattle.sql_text.specs.declared.statement.TableStatement.{TableStatement}
use Rattle.sql_text.specs.declared.statement.TableStatement.TheVariants as statement
use Rattle.front_rows.specs.declared.aggregate.Aggregate.{Aggregate}
use Rattle.front_rows.specs.Aggregates.{can_merge, is_part}
use Rattle.stmt_plan.specs.declared.planned.Plan.{Plan}
use Rattle.stmt_plan.specs.Plans.{IsPlan, items_of, limit_of, work_of}
use Rattle.stmt_plan.specs.Plans.{IsTable as IsDefinition}
use Rattle.stmt_plan.specs.Refusals.{refusal}
use Rattle.stmt_plan.specs.Selects.{aggregate_of, aggregates_of, bare_call, called, cell_column, items_by, known_as, limit_by, work_by}
use Rattle.plain_tables.specs.Partitions.{IsTable, lies_in, rows_in}
use Rattle.plain_tables.specs.Rows.{Row, FitsColumns, holds_on, kept}
use Rattle.plain_tables.specs.Scans.{answer_of, answered, first_rows}
use Rattle.plain_tables.proofs.Members.{all_of, all_by, kept_passes}
use Rattle.merge_law.specs.Merging.{part_answers, scanned}
use Rattle.txn_phases.specs.declared.deed.Deed.TheVariants as deed
use Rattle.txn_phases.specs.Phases.{fits_scan, is_cells, is_rows}
use Rattle.front_core.specs.Asked.{parts_asked, pushed}
use Rattle.front_core.specs.Jobs.{deed_by, kinds_of}
use Rattle.phase_law.proofs.Lists.{into_map}
use Rattle.phase_law.proofs.Noted.{is_finding}
use Rattle.phase_law.proofs.RowsFit.{rows_are_shaped}
use Rattle.phase_law.proofs.Whole.{plan_with}
use Rattle.merge_law.proofs.Counted.{AsksCalls, asked_alike, asks_calls, not_refused, plan_aggregates_can_merge, plan_aggregates_fit}

-- rows, or aggregates
pub answers_find : (def : TableDef) (asked : ScanItems) (limit : Option ℕ) (rows : List Row) → is_finding (answer_of def asked limit rows) ≡ true
answers_find def scan.All limit rows = refl
answers_find def (scan.Aggregates calls) limit rows = refl

-- ROWS

all_taken : {X : Type 0} (P : X → Type 0) (n : ℕ) (xs : List X) → AllByRecursion P xs → AllByRecursion P (take n xs)
all_taken P zero xs all = tt
all_taken P (suc n) [] all = tt
all_taken P (suc n) (x ∷ xs) all = (all.0, all_taken P n xs all.1)

all_first : {X : Type 0} (P : X → Type 0) (limit : Option ℕ) (xs : List X) → AllByRecursion P xs → AllByRecursion P (first_rows limit xs)
all_first P None xs all = all
all_first P (Some most) xs all = all_taken P most xs all

-- of rows of a table the first ones of a partition that the condition keeps have a value of each of its kinds
rows_fit : (table : Table) (limit : Option ℕ) (cond : Option Cond) (p : ℕ) (rows : List Row) → AllByRecursion (FitsColumns table.def) rows
    → is_rows (kinds_of table.def) (answered table.def scan.All cond limit (rows_in table.def table.rule p rows)) ≡ true
rows_fit table limit cond p rows fit =
    let here : List Row = kept table.def cond (rows_in table.def table.rule p rows) in
    let each : AllByRecursion (FitsColumns table.def) here =
    all_by (FitsColumns table.def) here
    (λ row c. all_of (FitsColumns table.def) rows row fit (kept_passes (lies_in table.def table.rule p) rows row (kept_passes (holds_on table.def cond) (rows_in table.def table.rule p rows) row c).0).0) in
    rows_are_shaped table.def (first_rows limit here) (all_first (FitsColumns table.def) limit here each)

-- AGGREGATES

part_is_cells : (aggregates : List Aggregate) (a : LinkAnswer) → is_part aggregates a ≡ true → is_cells aggregates a ≡ true
part_is_cells aggregates (answer.Cells rows) part = part
part_is_cells aggregates (answer.Rows rows) part = let no : ⊥ = cc in absurd no
part_is_cells aggregates (answer.Done count) part = let no : ⊥ = cc in absurd no
part_is_cells aggregates (answer.Xids xids) part = let no : ⊥ = cc in absurd no
part_is_cells aggregates (answer.Refused number message) part = let no : ⊥ = cc in absurd no

-- what a SELECT of aggregates that isn't refused asks
pub asks_of : (def : TableDef) (rule : Rule) (select : Select) (list : List AggregateItem) → select.items ≡ items.Aggregates list → refusal def rule (statement.Select select) ≡ None
    → AsksCalls def (statement.Select select) (map (λ (item : AggregateItem). bare_call item.call) list)
asks_of def rule select list are none =
    let passed = not_refused def rule (statement.Select select) none in
    asks_calls def (statement.Select select) (map (λ (item : AggregateItem). bare_call item.call) list) (ap items_by are) passed.0 passed.1

-- THE STATEMENT'S ANSWERS

-- the job of the statement may have what partition p answers
abbrev pub Answered : Table → List Row → TableStatement → ℕ → Type 0
Answered table rows s p =
    fits_scan (deed_by table.def table.rule (work_of table.def s)) (kinds_of table.def) (answered table.def (items_of s) (pushed table.def s) (limit_of table.def s) (rows_in table.def table.rule p rows)) ≡ true

module _ (number : ℕ) (table : Table) (rows : List Row) (is : IsDefinition table.def) (whole : IsTable table.def table.rule rows) (fit : AllByRecursion (FitsColumns table.def) rows) where
  module _ (select : Select) (keys : List Interval) (p : ℕ) (none : refusal table.def table.rule (statement.Select select) ≡ None)
      (planned : IsPlan number table.def table.rule (statement.Select select) (plan_with number table (statement.Select select) keys)) (c : Contains (parts_asked table.def table.rule (statement.Select select)) p) where
    abbrev plan : Plan
    plan = plan_with number table (statement.Select select) keys

    abbrev known : TableDef
    known = known_as table.def select.tab

    abbrev asked : Option Cond
    asked = pushed table.def (statement.Select select)

    -- with these items in place of the statement's
    abbrev fits_with : SelectItems → Bool
    fits_with i =
        fits_scan (deed_by table.def table.rule (work_by known select i)) (kinds_of table.def) (answered table.def (items_by i) asked (limit_by known select i) (rows_in table.def table.rule p rows))

    select_answered : (i : SelectItems) → select.items ≡ i → fits_with select.items ≡ true
    select_answered items.All are = ap fits_with are ∙ rows_fit table (limit_by known select items.All) asked p rows fit
    select_answered (items.Columns list) are = ap fits_with are ∙ rows_fit table (limit_by known select (items.Columns list)) asked p rows fit
    select_answered (items.Aggregates list) are =
        let calls : List AggregateCall = map (λ (item : AggregateItem). bare_call item.call) list in
        let here : LinkAnswer = scanned table.def plan (rows_in table.def table.rule p rows) in
        let parts = plan_aggregates_fit number table.def table.rule (statement.Select select) plan calls rows is whole fit none planned (ap items_by are) in
        let part : is_part (map (aggregate_of table.def) calls) here ≡ true =
        all_of (λ a. is_part (map (aggregate_of table.def) calls) a ≡ true) (part_answers table.def table.rule plan rows) here parts
        (into_map (λ q. scanned table.def plan (rows_in table.def table.rule q rows)) plan.parts p c) in
        let asks = asks_of table.def table.rule select list are none in
        ap (λ w. fits_scan (deed_by table.def table.rule w) (kinds_of table.def) here) asks.work_is
        ∙ (ap (λ l. is_cells l here) (asked_alike table.def (statement.Select select) calls asks) ∙ part_is_cells (map (aggregate_of table.def) calls) here part)

  pub answers_fit : (s : TableStatement) (keys : List Interval) → refusal table.def table.rule s ≡ None → IsPlan number table.def table.rule s (plan_with number table s keys) → (p : ℕ) → Contains (parts_asked table.def table.rule s) p → Answered table rows s p
  answers_fit (statement.Insert insert) keys none planned p c = rows_fit table None (pushed table.def (statement.Insert insert)) p rows fit
  answers_fit (statement.Select select) keys none planned p c = select_answered select keys p none planned c select.items refl
  answers_fit (statement.Update update) keys none planned p c = rows_fit table None (pushed table.def (statement.Update update)) p rows fit
  answers_fit (statement.Delete delete) keys none planned p c = rows_fit table None (pushed table.def (statement.Delete delete)) p rows fit

  -- and the sums of all partitions can be told
  pub sums_fit : (select : Select) (keys : List Interval) (list : List AggregateItem) (are : select.items ≡ items.Aggregates list) (none : refusal table.def table.rule (statement.Select select) ≡ None)
      → IsPlan number table.def table.rule (statement.Select select) (plan_with number table (statement.Select select) keys)
      → let asks = asks_of table.def table.rule select list are none in
      can_merge (aggregates_of (map (cell_column (called table.def asks.name)) asks.list)) (part_answers table.def table.rule (plan_with number table (statement.Select select) keys) rows) ≡ true
  sums_fit select keys list are none planned =
      let calls : List AggregateCall = map (λ (item : AggregateItem). bare_call item.call) list in
      let plan : Plan = plan_with number table (statement.Select select) keys in
      ap (λ l. can_merge l (part_answers table.def table.rule plan rows)) (asked_alike table.def (statement.Select select) calls (asks_of table.def table.rule select list are none))
      ∙ plan_aggregates_can_merge number table.def table.rule (statement.Select select) plan calls rows is whole fit none planned (ap items_by are)
