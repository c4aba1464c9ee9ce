-- The rows that partitions answer, in the order of the statement and cut, are those of the plain table.
use Rattle.std.proofs.Common.{◌≡◌, ℕ, ◌+◌, ◌^◌, ◌≤◌, ◌==◌, Bool, true, false, ◌&&◌, cond, List, [], ◌∷◌, ◌++◌, map, take, Option, Some, None, refl, sym, ◌∙◌, ap, subst, arith}
use Rattle.std.specs.Prelude.{nat_lt, option_and_then, unwrap_or}
use Rattle.std.specs.List.{AllByRecursion, flat_map, list_all}
use Rattle.std.specs.List.Sorted.{IsSortedBy}
use Rattle.std.proofs.lemmas.Bool.{and_parts}
use Rattle.std.proofs.lemmas.Bool.Decides.{nat_tests}
use Rattle.std.proofs.lemmas.List.Folds.{flat_map-map}
use Rattle.sql_values.specs.declared.places.LockMode.TheVariants.{Shared}
use Rattle.sql_values.specs.declared.table.TableDef.{TableDef}
use Rattle.part_rules.specs.declared.rule.Rule.{Rule}
use Rattle.sql_text.specs.declared.link.LinkAnswer.TheVariants.{Rows}
use Rattle.sql_text.specs.declared.link.ScanItems.{ScanItems}
use Rattle.sql_text.specs.declared.link.ScanItems.TheVariants.{All}
use Rattle.sql_text.specs.declared.statement.Limit.{Limit}
use Rattle.sql_text.specs.declared.statement.Select.{Select}
use Rattle.sql_text.specs.declared.statement.SelectItems.{SelectItems}
use Rattle.sql_text.specs.declared.statement.SelectItems.TheVariants as items
use Rattle.sql_text.specs.declared.statement.SortItem.{SortItem}
use Rattle.sql_text.specs.declared.statement.TableStatement.{TableStatement}
use Rattle.sql_text.specs.declared.statement.TableStatement.TheVariants as statement
use Rattle.front_rows.specs.declared.order.Sort.{Sort}
use Rattle.front_rows.specs.Comparing.{before}
use Rattle.front_rows.specs.Gathering.{all_rows, answer_rows}
use Rattle.front_rows.specs.Laws.{first_of_each, rows_answers}
use Rattle.front_rows.specs.Merging.{arranged, cut, key_order, merged_rows}
use Rattle.front_rows.specs.Sorting.{sorted_by}
use Rattle.front_rows.proofs.Aggregated.{map-map}
use Rattle.front_rows.proofs.FirstRows.{first_rows_merge}
use Rattle.front_rows.proofs.KeyLast.{IsKeySort, rising_sorted, rising_stays, sorted_alike}
use Rattle.stmt_plan.specs.declared.planned.Plan.{Plan}
use Rattle.stmt_plan.specs.declared.planned.Work.{Work}
use Rattle.stmt_plan.specs.Plans.{IsPlan, work_of}
use Rattle.stmt_plan.specs.Plans.{IsTable as IsDefinition}
use Rattle.stmt_plan.specs.Selects.{first_rows_do, is_key_sort, is_shared, known_as, limit_by, most_of, place_of, rows_needed, skip_of, sort_of, work_by}
use Rattle.plain_tables.specs.Partitions.{IsTable, lies_in, rows_in}
use Rattle.plain_tables.specs.Rows.{HasKey, Row, holds_on, kept}
use Rattle.plain_tables.specs.Scans.{answer_of, first_rows}
use Rattle.plain_tables.specs.Statements.{arranged_by}
use Rattle.merge_law.specs.Merging.{RowsAreMerged, gathered, part_answers}
use Rattle.merge_law.proofs.Counted.{all_found, all_permuted, found_in}
use Rattle.merge_law.proofs.Found.{all_kept, kept_rises, part_rises, rises}

-- LIMITS

-- so many rows are skipped and given, and the first of each partition do
pub record IsCut (known : TableDef) (select : Select) (count : ℕ) : Type 0 where
  pub limit : Limit
  pub there : select.limit ≡ Some limit
  pub count_is : limit.offset + limit.count ≡ count
  pub keys : list_all (is_key_sort known) select.order ≡ true

needed_is : (limit : Limit) (b : Bool) (count : ℕ) → cond {A = Option ℕ} b (Some (limit.offset + limit.count)) None ≡ Some count → limit.offset + limit.count ≡ count
needed_is limit true count is = cc
needed_is limit false count is = let never : None ≡ Some count = is in cc

cut_at : (known : TableDef) (select : Select) (limit : Option Limit) (count : ℕ) → select.limit ≡ limit → list_all (is_key_sort known) select.order ≡ true → option_and_then rows_needed limit ≡ Some count → IsCut known select count
cut_at known select None count there keys is = let never : None ≡ Some count = is in cc
cut_at known select (Some limit) count there keys is = record {
  limit = limit;
  there = there;
  count_is = needed_is limit (nat_lt (limit.offset + limit.count) (2 ^ 64)) count is;
  keys = keys;
}

cut_where : (known : TableDef) (select : Select) (shared keys : Bool) (count : ℕ) → list_all (is_key_sort known) select.order ≡ keys → cond {A = Option ℕ} (shared && keys) (option_and_then rows_needed select.limit) None ≡ Some count → IsCut known select count
cut_where known select true true count keys is = cut_at known select select.limit count refl keys is
cut_where known select true false count keys is = let never : None ≡ Some count = is in cc
cut_where known select false keys_do count keys is = let never : None ≡ Some count = is in cc

is_cut : (known : TableDef) (select : Select) (count : ℕ) → cond {A = Option ℕ} (first_rows_do known select) (option_and_then rows_needed select.limit) None ≡ Some count → IsCut known select count
is_cut known select count is = cut_where known select (is_shared (unwrap_or select.lock Shared)) (list_all (is_key_sort known) select.order) count refl is

same_place : (m n : ℕ) → (m == n) ≡ true → m ≡ n
same_place m n is = grind (arith, nat_tests)

-- each column of such an order is the key, and rises
key_sorts : (known : TableDef) (order : List SortItem) → list_all (is_key_sort known) order ≡ true → AllByRecursion (IsKeySort known.key) (map (sort_of known) order)
key_sorts known [] keys = tt
key_sorts known (item ∷ order) keys =
    let both = and_parts (is_key_sort known item) (list_all (is_key_sort known) order) keys in
    let one = and_parts item.rising (place_of known item.column == known.key) both.0 in
    (record { here = same_place (place_of known item.column) known.key one.1; up = one.0 }, key_sorts known order both.1)

-- WHAT PARTITIONS ANSWER

module _ (number : ℕ) (def : TableDef) (rule : Rule) (s : TableStatement) (plan : Plan) (rows : List Row) (is : IsDefinition def) (table : IsTable def rule rows) (planned : IsPlan number def rule s plan) where
  abbrev found : List Row
  found = kept def plan.cond rows

  abbrev parts : List (List Row)
  parts = all_found def rule plan rows

  gathered_rows : all_rows (rows_answers parts) ≡ flat_map (λ part. part) parts
  gathered_rows = flat_map-map answer_rows Rows parts

  -- all rows of the partitions, in an order that ends with the key
  whole : (front : List Sort) (skip : ℕ) (most : Option ℕ) → merged_rows (front ++ key_order def.key) skip most (rows_answers parts) ≡ arranged (front ++ key_order def.key) skip most found
  whole front skip most =
      ap (λ l. cut skip most (sorted_by (before (front ++ key_order def.key)) l)) gathered_rows
      ∙ ap (cut skip most) (sorted_alike def.key front (flat_map (λ part. part) parts) found (all_permuted number def rule s plan rows is table planned)
      (rises def found (kept_rises def plan.cond rows table.rises) (all_kept (HasKey def) (holds_on def plan.cond) rows table.keyed)))

  each_sorted : (front : List Sort) → AllByRecursion (IsKeySort def.key) front → (places : List ℕ) → AllByRecursion (IsSortedBy (before (front ++ key_order def.key))) (map (found_in def rule plan rows) places)
  each_sorted front keys [] = tt
  each_sorted front keys (p ∷ places) =
      let here = rows_in def rule p rows in
      let keyed = all_kept (HasKey def) (holds_on def plan.cond) here (all_kept (HasKey def) (lies_in def rule p) rows table.keyed) in
      (rising_sorted def.key front (kept def plan.cond here) keys (rises def (kept def plan.cond here) (kept_rises def plan.cond here (part_rises def rule p rows table.rises)) keyed), each_sorted front keys places)

  -- the first rows of the partitions, where the order is that of the key
  first : (front : List Sort) (count skip most : ℕ) → AllByRecursion (IsKeySort def.key) front → skip + most ≤ count
      → merged_rows (front ++ key_order def.key) skip (Some most) (rows_answers (first_of_each count parts)) ≡ arranged (front ++ key_order def.key) skip (Some most) found
  first front count skip most keys few =
      first_rows_merge (front ++ key_order def.key) count skip most parts few (each_sorted front keys plan.parts) ∙ whole front skip (Some most)

  -- of the partitions' answers, by the plan's limit
  answers_are : (limit : Option ℕ) → plan.pushed ≡ All → plan.limit ≡ limit → part_answers def rule plan rows ≡ map (λ p. Rows (first_rows limit (found_in def rule plan rows p))) plan.parts
  answers_are limit pushed is_limit =
      ap (λ (asked : ScanItems). map (λ p. answer_of def asked plan.limit (found_in def rule plan rows p)) plan.parts) pushed
      ∙ ap (λ (l : Option ℕ). map (λ p. Rows (first_rows l (found_in def rule plan rows p))) plan.parts) is_limit

  whole_answers : plan.pushed ≡ All → plan.limit ≡ None → part_answers def rule plan rows ≡ rows_answers parts
  whole_answers pushed is_limit = answers_are None pushed is_limit ∙ sym (map-map (found_in def rule plan rows) Rows plan.parts)

  first_answers : (count : ℕ) → plan.pushed ≡ All → plan.limit ≡ Some count → part_answers def rule plan rows ≡ rows_answers (first_of_each count parts)
  first_answers count pushed is_limit =
      answers_are (Some count) pushed is_limit
      ∙ sym (map-map (λ p. take count (found_in def rule plan rows p)) Rows plan.parts)
      ∙ ap rows_answers (sym (map-map (found_in def rule plan rows) (take count) plan.parts))

  -- by the keys alone
  by_keys : plan.pushed ≡ All → plan.limit ≡ None → merged_rows (key_order def.key) 0 None (part_answers def rule plan rows) ≡ found
  by_keys pushed is_limit =
      ap (merged_rows (key_order def.key) 0 None) (whole_answers pushed is_limit)
      ∙ whole [] 0 None
      ∙ rising_stays def.key found (rises def found (kept_rises def plan.cond rows table.rises) (all_kept (HasKey def) (holds_on def plan.cond) rows table.keyed))

  -- what a SELECT of columns takes
  by_order : (known : TableDef) (select : Select) (limit : Option ℕ) → known.key ≡ def.key → plan.pushed ≡ All → plan.limit ≡ limit → cond {A = Option ℕ} (first_rows_do known select) (option_and_then rows_needed select.limit) None ≡ limit
      → merged_rows (map (sort_of known) select.order ++ key_order def.key) (skip_of select.limit) (most_of select.limit) (part_answers def rule plan rows)
      ≡ arranged (map (sort_of known) select.order ++ key_order def.key) (skip_of select.limit) (most_of select.limit) found
  by_order known select None same pushed is_limit limited =
      ap (merged_rows (map (sort_of known) select.order ++ key_order def.key) (skip_of select.limit) (most_of select.limit)) (whole_answers pushed is_limit)
      ∙ whole (map (sort_of known) select.order) (skip_of select.limit) (most_of select.limit)
  by_order known select (Some count) same pushed is_limit limited =
      let cuts = is_cut known select count limited in
      let order = map (sort_of known) select.order ++ key_order def.key in
      let keys = subst (λ k. AllByRecursion (IsKeySort k) (map (sort_of known) select.order)) same (key_sorts known select.order cuts.keys) in
      let few : cuts.limit.offset + cuts.limit.count ≤ count = omega (arith, cuts.count_is) in
      ap (merged_rows order (skip_of select.limit) (most_of select.limit)) (first_answers count pushed is_limit)
      ∙ ap (λ (l : Option Limit). merged_rows order (skip_of l) (most_of l) (rows_answers (first_of_each count parts))) cuts.there
      ∙ first (map (sort_of known) select.order) count cuts.limit.offset cuts.limit.count keys few
      ∙ ap (λ (l : Option Limit). arranged order (skip_of l) (most_of l) found) (sym cuts.there)

-- BY THE STATEMENT

-- a work's rows are merged
abbrev pub Merges : TableDef → Rule → Plan → List Row → Work → Type 0
Merges def rule plan rows w = gathered def w (part_answers def rule plan rows) ≡ arranged_by w (kept def plan.cond rows)

pub select_merges : (number : ℕ) (def : TableDef) (rule : Rule) (select : Select) (plan : Plan) (rows : List Row) (l : SelectItems) → IsDefinition def → IsTable def rule rows → IsPlan number def rule (statement.Select select) plan
    → plan.pushed ≡ All → plan.limit ≡ limit_by (known_as def select.tab) select l → Merges def rule plan rows (work_by (known_as def select.tab) select l)
select_merges number def rule select plan rows items.All is table planned pushed limited =
    by_order number def rule (statement.Select select) plan rows is table planned (known_as def select.tab) select (limit_by (known_as def select.tab) select items.All) refl pushed limited refl
select_merges number def rule select plan rows (items.Columns list) is table planned pushed limited =
    by_order number def rule (statement.Select select) plan rows is table planned (known_as def select.tab) select (limit_by (known_as def select.tab) select (items.Columns list)) refl pushed limited refl
select_merges number def rule select plan rows (items.Aggregates list) is table planned pushed limited =
    by_keys number def rule (statement.Select select) plan rows is table planned pushed limited

pub merges : (number : ℕ) (def : TableDef) (rule : Rule) (s : TableStatement) (plan : Plan) (rows : List Row) → IsDefinition def → IsTable def rule rows → IsPlan number def rule s plan → plan.pushed ≡ All
    → Merges def rule plan rows (work_of def s)
merges number def rule (statement.Insert insert) plan rows is table planned pushed = by_keys number def rule (statement.Insert insert) plan rows is table planned pushed planned.limit_is
merges number def rule (statement.Select select) plan rows is table planned pushed = select_merges number def rule select plan rows select.items is table planned pushed planned.limit_is
merges number def rule (statement.Update update) plan rows is table planned pushed = by_keys number def rule (statement.Update update) plan rows is table planned pushed planned.limit_is
merges number def rule (statement.Delete delete) plan rows is table planned pushed = by_keys number def rule (statement.Delete delete) plan rows is table planned pushed planned.limit_is

pub rows_are_merged : RowsAreMerged
rows_are_merged number def rule s plan rows is table planned pushed = subst (Merges def rule plan rows) (sym planned.work_is) (merges number def rule s plan rows is table planned pushed)
