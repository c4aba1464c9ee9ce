-- A statement goes through its phases to its plain answer.
use Rattle.std.proofs.Common.{◌≡◌, ℕ, ℤ, Bool, true, false, not, cond, List, [], ◌∷◌, map, length, Option, Some, None, Result, Ok, Err, refl, sym, ap, ◌∙◌, subst, arith}
use Rattle.std.specs.Prelude.{◌==◌, ◌&&◌, ◌||◌, slice_get, codes}
use Rattle.std.specs.List.{AllByRecursion, list_any}
use Rattle.std.specs.Option.{option_map, option_or}
use Rattle.std.specs.Ordering.{int_eq}
use Rattle.std.proofs.lemmas.Bool.{false≢true}
use Rattle.std.proofs.lemmas.Bool.Decides.{nat_tests}
use Rattle.std.proofs.lemmas.List.{length-map}
use Rattle.sql_values.specs.declared.literal.Literal.{Literal}
use Rattle.sql_values.specs.declared.places.Interval.{Interval}
use Rattle.sql_values.specs.declared.table.TableDef.{TableDef}
use Rattle.sql_values.specs.declared.value.Value.{Value}
use Rattle.sql_values.specs.declared.value.Value.TheVariants as value
use Rattle.sql_values.specs.KeySets.{AreKeys}
use Rattle.part_rules.specs.declared.rule.Rule.{Rule}
use Rattle.part_rules.specs.Pruned.{IsPruned}
use Rattle.catalog.specs.declared.tables.Table.{Table}
use Rattle.catalog.specs.Views.{View}
use Rattle.sql_text.specs.declared.link.LinkAnswer.{LinkAnswer}
use Rattle.sql_text.specs.declared.link.ScanItems.TheVariants as scan
use Rattle.sql_text.specs.declared.statement.TableStatement.{TableStatement}
use Rattle.sql_text.specs.declared.statement.TableStatement.TheVariants as statement
use Rattle.stmt_plan.specs.declared.fault.RowFault.{RowFault}
use Rattle.stmt_plan.specs.declared.planned.AnswerColumns.{AnswerColumns}
use Rattle.stmt_plan.specs.declared.planned.AnswerColumns.TheVariants as columns
use Rattle.stmt_plan.specs.declared.planned.CellColumn.{CellColumn}
use Rattle.stmt_plan.specs.declared.planned.Pick.{Pick}
use Rattle.stmt_plan.specs.declared.planned.Picks.{Picks}
use Rattle.stmt_plan.specs.declared.planned.Selected.{Selected}
use Rattle.stmt_plan.specs.declared.planned.Plan.{Plan}
use Rattle.stmt_plan.specs.declared.planned.SetColumn.{SetColumn}
use Rattle.stmt_plan.specs.declared.planned.Work.{Work}
use Rattle.stmt_plan.specs.declared.planned.Work.TheVariants as work
use Rattle.stmt_plan.specs.Inserts.{key_name, rows_of, row_key}
use Rattle.stmt_plan.specs.Plans.{IsPlan, IsPushed, items_of, keeps_key, limit_of, mode_of, work_of}
use Rattle.stmt_plan.specs.Plans.{IsTable as IsDefinition}
use Rattle.stmt_plan.specs.Refusals.{refusal}
use Rattle.stmt_plan.specs.Selects.{aggregates_of}
use Rattle.plain_tables.specs.Inserts.{first_taken, has_row, put_all, without}
use Rattle.plain_tables.specs.Partitions.{IsTable}
use Rattle.plain_tables.specs.Rows.{Row, FitsColumns, kept, key_of}
use Rattle.plain_tables.specs.Statements.{Answer, Duplicate, RowRefused, Done, Found, Writes, Puts, Dels, executed, finished, applied, added_by, arranged_by, changed_by, written, cell_at, cells_of}
use Rattle.plain_tables.specs.Updates.{changed, map_ok, set_rows}
use Rattle.plain_tables.proofs.Inserted.{same_taken}
use Rattle.plain_tables.proofs.Scanned.{own_key, statements_are_scans}
use Rattle.front_rows.specs.Aggregates.{can_merge, merged_cells, merged_results}
use Rattle.front_rows.specs.Cells.{Cell, cell_text}
use Rattle.front_rows.specs.Gathering.{all_rows}
use Rattle.front_rows.specs.Merging.{arranged, is_too_large, key_order, merged_rows}
use Rattle.front_rows.specs.Sorting.{insert_by, sorted_by}
use Rattle.merge_law.specs.Merging.{gathered, part_answers}
use Rattle.merge_law.specs.Merging.{concluded as made_of}
use Rattle.branch_store.specs.Store.{Store}
use Rattle.my_messages.specs.declared.reply.Reply.{Reply}
use Rattle.my_messages.specs.declared.reply.Reply.TheVariants as reply
use Rattle.sql_replies.specs.Errors.{ok_reply, duplicate_reply, limit_reply}
use Rattle.sql_replies.specs.Outcomes.{outcome_reply, row_reply}
use Rattle.sql_replies.specs.Results.{cell_of, column_of}
use Rattle.sql_replies.specs.Results.{cells_of as cells_shown}
use Rattle.txn_phases.specs.declared.changing.Changing.{Changing}
use Rattle.txn_phases.specs.declared.deed.Outcome.{Outcome}
use Rattle.txn_phases.specs.declared.deed.Outcome.TheVariants as outcome
use Rattle.txn_phases.specs.declared.deed.PlacedRow.{PlacedRow}
use Rattle.txn_phases.specs.declared.job.Job.{Job}
use Rattle.txn_phases.specs.declared.job.TableScan.{TableScan}
use Rattle.txn_phases.specs.declared.partitions.PlacedKey.{PlacedKey}
use Rattle.txn_phases.specs.declared.phase.Ending.{Ending}
use Rattle.txn_phases.specs.declared.phase.Ending.TheVariants.{RolledBack}
use Rattle.txn_phases.specs.declared.phase.Progress.{Progress}
use Rattle.txn_phases.specs.declared.phase.Target.{Target}
use Rattle.txn_phases.specs.declared.requests.Ask.{Ask}
use Rattle.txn_phases.specs.Deeds.{cells_within, deletes_too_much, found_within, is_found, merged_within, placed, placed_key, placed_keys, taken_key, within, writes_too_much}
use Rattle.txn_phases.specs.Phases.{begins, concluded, concluded_by, deleting, deleting_keys, dels_of, ends, gives_up, inserting_by, puts_of, tells, updating, updating_by, writes, writes_by}
use Rattle.front_rows.specs.Comparing.{before}
use Rattle.front_core.specs.declared.event.TxNo.{TxNo}
use Rattle.front_core.specs.Asked.{pushed, parts_asked, rising}
use Rattle.front_core.specs.Core.{is_showable, outcome_told}
use Rattle.front_core.specs.Jobs.{columns_by, deed_by, job_of, scan_for, targets_for}
use Rattle.front_core.proofs.Rising.{rising_rises}
use Rattle.plain_sessions.specs.Exec.{Tables, answer_limit, exec_on, is_large, is_long, limit_passed, reply_to, rows_found, with_rows, within_limit, writes_of}
use Rattle.plain_sessions.specs.Held.{stores_of}
use Rattle.phase_law.specs.Laws.{GoesThrough}
use Rattle.phase_law.specs.Through.{Through}
use Rattle.merge_law.proofs.Merged.{statements_are_merged}
use Rattle.merge_law.proofs.Ordered.{rows_are_merged}

-- PLAIN TABLES

same_at : (tables : Tables) (number n : ℕ) (b : Bool) → (n == number) ≡ b → cond b (tables number) (tables n) ≡ tables n
same_at tables number n true h = ap tables (sym (equal_numbers n number h))
  where
    equal_numbers : (n m : ℕ) → (n == m) ≡ true → n ≡ m
    equal_numbers n m h = grind (arith, nat_tests)
same_at tables number n false h = refl

-- the rows that a table has already change nothing
pub same_rows : (tables : Tables) (number : ℕ) → with_rows tables number (tables number) ≡ tables
same_rows tables number = λ i n. same_at tables number n (n == number) refl i

-- CELLS

cell_same : (row : Row) (pick : Pick) (o : Option Value) → slice_get row pick.column ≡ o → cell_text (cell_at row pick) ≡ cell_of row pick
cell_same row pick None is = rw is refl
cell_same row pick (Some (value.Number k)) is = rw is refl
cell_same row pick (Some (value.Text t)) is = rw is refl

cells_same : (row : Row) (picks : List Pick) → map cell_text (cells_of picks row) ≡ cells_shown picks row
cells_same row [] = refl
cells_same row (pick ∷ picks) = ap (λ c. c ∷ map cell_text (cells_of picks row)) (cell_same row pick (slice_get row pick.column) refl) ∙ ap (λ cs. cell_of row pick ∷ cs) (cells_same row picks)

rows_same : (picks : List Pick) (rows : List Row) → map (λ row. map cell_text row) (map (cells_of picks) rows) ≡ map (cells_shown picks) rows
rows_same picks [] = refl
rows_same picks (row ∷ rows) = ap (λ c. c ∷ map (λ r. map cell_text r) (map (cells_of picks) rows)) (cells_same row picks) ∙ ap (λ cs. cells_shown picks row ∷ cs) (rows_same picks rows)

-- KEYS THAT ARE TAKEN

any_inserted : (p : Row → Bool) (lt : Row → Row → Bool) (x : Row) (xs : List Row) → list_any p (insert_by lt x xs) ≡ (p x || list_any p xs)
any_inserted p lt x [] = refl
any_inserted p lt x (y ∷ ys) = any_by (lt y x) (any_inserted p lt x ys)
  where
    swap : (a b c : Bool) → (a || (b || c)) ≡ (b || (a || c))
    swap true true c = refl
    swap true false c = refl
    swap false true c = refl
    swap false false c = refl

    any_by : (b : Bool) → list_any p (insert_by lt x ys) ≡ (p x || list_any p ys) → list_any p (cond b (y ∷ insert_by lt x ys) (x ∷ y ∷ ys)) ≡ (p x || (p y || list_any p ys))
    any_by true more = ap (λ q. p y || q) more ∙ swap (p y) (p x) (list_any p ys)
    any_by false more = refl

any_sorted : (p : Row → Bool) (lt : Row → Row → Bool) (xs : List Row) → list_any p (sorted_by lt xs) ≡ list_any p xs
unfolding sorted_by
any_sorted p lt [] = refl
any_sorted p lt (x ∷ xs) = any_inserted p lt x (sorted_by lt xs) ∙ ap (λ q. p x || q) (any_sorted p lt xs)

keys_of_placed : (def : TableDef) (rule : Rule) (rows : List Row) → map (λ (new : PlacedRow). new.key) (map (placed def rule) rows) ≡ map (key_of def) rows
keys_of_placed def rule [] = refl
keys_of_placed def rule (row ∷ rows) = ap (λ ks. key_of def row ∷ ks) (keys_of_placed def rule rows)

either_too : (a b c : Bool) → (b ≡ true → c ≡ true) → (a || b) ≡ true → (a || c) ≡ true
either_too true b c too any = refl
either_too false b c too any = too any

-- the first key isn't taken of more keys, so it isn't of fewer
none_by : (key : ℤ) (m f : Bool) (more fewer : Option ℤ) → (f ≡ true → m ≡ true) → (more ≡ None → fewer ≡ None) → cond m (Some key) more ≡ None → cond f (Some key) fewer ≡ None
none_by key true f more fewer too later none = absurd (let no : Some key ≡ None = none in cc)
none_by key false true more fewer too later none = absurd (false≢true (too refl))
none_by key false false more fewer too later none = later none

-- where none of the keys is taken, none is where fewer are
fewer_taken : (more fewer : ℤ → Bool) (keys : List ℤ) → ((key : ℤ) → fewer key ≡ true → more key ≡ true) → first_taken more keys ≡ None → first_taken fewer keys ≡ None
unfolding first_taken
fewer_taken more fewer [] too none = refl
fewer_taken more fewer (key ∷ keys) too none =
    none_by key (more key) (fewer key) (first_taken (λ k. int_eq key k || more k) keys) (first_taken (λ k. int_eq key k || fewer k) keys) (too key)
    (fewer_taken (λ k. int_eq key k || more k) (λ k. int_eq key k || fewer k) keys (λ k. either_too (int_eq key k) (fewer k) (more k) (too k))) none

-- the keys of rows, with their partitions
keys_placed : (def : TableDef) (rule : Rule) (rows : List Row) → placed_keys rule def.key rows ≡ map (placed_key rule) (map (key_of def) rows)
keys_placed def rule [] = refl
keys_placed def rule (row ∷ rows) = ap (λ ks. placed_key rule (key_of def row) ∷ ks) (keys_placed def rule rows)

-- PLANS

pushed_is : (def : TableDef) (s : TableStatement) → IsPushed def s (pushed def s)
pushed_is def (statement.Insert insert) =
    let keys = map (row_key def.key) (rows_of def insert.columns insert.rows) in record { list = rising keys; rising = rising_rises keys; in_list = refl }
pushed_is def (statement.Select select) = refl
pushed_is def (statement.Update update) = refl
pushed_is def (statement.Delete delete) = refl

-- the plan of these keys
abbrev pub plan_with : ℕ → Table → TableStatement → List Interval → Plan
plan_with number table s keys = record {
  table = number;
  parts = parts_asked table.def table.rule s;
  keys = keys;
  pushed = items_of s;
  cond = pushed table.def s;
  limit = limit_of table.def s;
  mode = mode_of s;
  work = work_of table.def s;
}

pub is_planned : (number : ℕ) (table : Table) (s : TableStatement) (keys : List Interval) → AreKeys keys (keeps_key table.def (pushed table.def s)) → IsPruned table.rule keys (parts_asked table.def table.rule s)
    → IsPlan number table.def table.rule s (plan_with number table s keys)
is_planned number table s keys are pruned = record {
  table_is = refl;
  parts = pruned;
  keys = are;
  items = refl;
  cond = pushed_is table.def s;
  limit_is = refl;
  mode = refl;
  work_is = refl;
}

-- WHAT IS WRITTEN, UNLESS IT IS TOO MUCH

abbrev ends_by_size : Bool → Job → ℕ → List Ask → Job × Progress
ends_by_size long j count asks = cond long (gives_up j outcome.WriteSetLimit) (writes_by j (outcome.Done count) asks)

puts_by_size : (j : Job) (ts : List Target) (news : List PlacedRow) (long : Bool) → writes_too_much ts news ≡ long → writes j (inserting_by ts news None) ≡ ends_by_size long j (length news) (puts_of ts news)
puts_by_size j ts news true is = rw is refl
puts_by_size j ts news false is = rw is refl

dels_by_size : (j : Job) (ts : List Target) (scan : TableScan) (count : ℕ) (keys : List PlacedKey) (long : Bool) → deletes_too_much ts keys ≡ long
    → writes j (deleting_keys ts scan count keys) ≡ ends_by_size long j count (dels_of scan.key ts keys)
dels_by_size j ts scan count keys true is = rw is refl
dels_by_size j ts scan count keys false is = rw is refl

-- STATEMENTS

pub nothing_put : (def : TableDef) (rows : List Row) → put_all def rows [] ≡ rows
unfolding put_all
nothing_put def rows = refl

module _ (catalog : View) (tables : Tables) (n : ℕ) (tx : TxNo) (number : ℕ) (table : Table) (s : TableStatement) (is : IsDefinition table.def) (whole : IsTable table.def table.rule (tables number))
    (fit : AllByRecursion (FitsColumns table.def) (tables number)) (passes : refusal table.def table.rule s ≡ None) (keys : List Interval) (are : AreKeys keys (keeps_key table.def (pushed table.def s))) (pruned : IsPruned table.rule keys (parts_asked table.def table.rule s)) where
  -- the rows on which the condition holds
  abbrev pub rows_kept : List Row
  rows_kept = kept table.def (pushed table.def s) (tables number)

  abbrev pub plan : Plan
  plan = plan_with number table s keys

  planned : IsPlan number table.def table.rule s plan
  planned = is_planned number table s keys are pruned

  -- what each partition that is asked answers
  abbrev pub parts_found : List LinkAnswer
  parts_found = part_answers table.def table.rule plan (tables number)

  executed_so : executed table.def table.rule s (tables number) ≡ applied table.def (tables number) (finished table.def (work_of table.def s) (arranged_by (work_of table.def s) rows_kept))
  executed_so = statements_are_scans number table.def table.rule s plan (tables number) is whole passes planned

  -- rows that were found, put together as the statement takes them
  gathered_so : (w : Work) → work_of table.def s ≡ w → items_of s ≡ scan.All → gathered table.def w parts_found ≡ arranged_by w rows_kept
  gathered_so w w_is all =
      ap (λ v. gathered table.def v parts_found) (sym w_is) ∙ (rows_are_merged number table.def table.rule s plan (tables number) is whole planned all ∙ ap (λ v. arranged_by v rows_kept) w_is)

  exec_so : (e : Answer × List Row) → executed table.def table.rule s (tables number) ≡ e
      → exec_on table s (tables number) ≡ within_limit table.def (work_of table.def s) (tables number) e (limit_passed table s (tables number) e.0)
  exec_so e is_so = ap (λ (x : Answer × List Row). within_limit table.def (work_of table.def s) (tables number) x (limit_passed table s (tables number) x.0)) is_so

  -- where the plain answer is this, and what is left
  goes_so : (how : Ending) (o : Outcome) (r : Reply) (left : List Row) → exec_on table s (tables number) ≡ (r, left)
      → Through 6 n false (stores_of catalog tables) (begins (job_of catalog tx table s)) (stores_of catalog (with_rows tables number left)) how o
      → outcome_told catalog (columns_by (work_of table.def s)) table.def o ≡ r → (how ≡ RolledBack → left ≡ tables number) → GoesThrough catalog tables n tx number table s
  goes_so how o r left plainly through told undone = record {
    ending = how;
    outcome = o;
    through = subst (λ (e : Reply × List Row). Through 6 n false (stores_of catalog tables) (begins (job_of catalog tx table s)) (stores_of catalog (with_rows tables number e.1)) how o) (sym plainly) through;
    told = told ∙ ap (λ (e : Reply × List Row). e.0) (sym plainly);
    undone = λ h. ap (λ (e : Reply × List Row). e.1) plainly ∙ undone h;
  }

  -- a job whose scans were answered so, and the ways from there to its end, where it may be committed so
  pub record Ways (j : Job) (stores : List Store) (how : Ending) : Type 0 where
    pub deed_is : j.deed ≡ deed_by table.def table.rule (work_of table.def s)
    pub targets_are : j.targets ≡ targets_for table s
    pub scan_is : j.scan ≡ scan_for table.def s
    pub found_is : j.found ≡ parts_found
    pub ended : (o : Outcome) → Through 4 n false stores (ends j o) (stores_of catalog tables) how o
    pub given_up : (o : Outcome) → Through 4 n false stores (gives_up j o) (stores_of catalog tables) RolledBack o
    pub begun : (last : List Store) (h : Ending) (o : Outcome) → Through 4 n false stores (concluded j) last h o → Through 6 n false (stores_of catalog tables) (begins (job_of catalog tx table s)) last h o
    pub stays : how ≡ RolledBack → ⊥

  -- the rows that were found, where they are no more than an answer may have
  found_by_key : (j : Job) (stores : List Store) (how : Ending) → merged_rows (key_order table.def.key) 0 None parts_found ≡ rows_kept → Ways j stores how → found_within j.scan.place j.found ≡ within rows_kept
  found_by_key j stores how merged_so ways =
      ap (λ (scan : TableScan). found_within scan.place j.found) ways.scan_is ∙ (ap (λ found. found_within table.def.key found) ways.found_is ∙ ap within merged_so)

  -- nothing is left of a statement that is given up
  unchanged : stores_of catalog tables ≡ stores_of catalog (with_rows tables number (tables number))
  unchanged = ap (stores_of catalog) (sym (same_rows tables number))

  gives_up_goes : (j : Job) (stores : List Store) (how : Ending) (o : Outcome) (r : Reply) → Ways j stores how → concluded j ≡ gives_up j o → exec_on table s (tables number) ≡ (r, tables number)
      → outcome_told catalog (columns_by (work_of table.def s)) table.def o ≡ r → GoesThrough catalog tables n tx number table s
  gives_up_goes j stores how o r ways concludes plainly told =
      goes_so RolledBack o r (tables number) plainly
      (subst (λ last. Through 6 n false (stores_of catalog tables) (begins (job_of catalog tx table s)) last RolledBack o) unchanged
      (ways.begun (stores_of catalog tables) RolledBack o (subst (λ (x : Job × Progress). Through 4 n false stores x (stores_of catalog tables) RolledBack o) (sym concludes) (ways.given_up o))))
      told (λ h. refl)

  ends_goes : (j : Job) (stores : List Store) (how : Ending) (o : Outcome) (r : Reply) → Ways j stores how → concluded j ≡ ends j o → exec_on table s (tables number) ≡ (r, tables number)
      → outcome_told catalog (columns_by (work_of table.def s)) table.def o ≡ r → GoesThrough catalog tables n tx number table s
  ends_goes j stores how o r ways concludes plainly told =
      goes_so how o r (tables number) plainly
      (subst (λ last. Through 6 n false (stores_of catalog tables) (begins (job_of catalog tx table s)) last how o) unchanged
      (ways.begun (stores_of catalog tables) how o (subst (λ (x : Job × Progress). Through 4 n false stores x (stores_of catalog tables) how o) (sym concludes) (ways.ended o))))
      told (λ h. refl)

  -- what is written on the way is left
  writes_goes : (j : Job) (stores : List Store) (how : Ending) (o : Outcome) (r : Reply) (asks : List Ask) (left : List Row) → Ways j stores how → concluded j ≡ writes_by j o asks → exec_on table s (tables number) ≡ (r, left)
      → Through 4 n false stores (writes_by j o asks) (stores_of catalog (with_rows tables number left)) how o → outcome_told catalog (columns_by (work_of table.def s)) table.def o ≡ r → GoesThrough catalog tables n tx number table s
  writes_goes j stores how o r asks left ways concludes plainly written told =
      goes_so how o r left plainly
      (ways.begun (stores_of catalog (with_rows tables number left)) how o (subst (λ (x : Job × Progress). Through 4 n false stores x (stores_of catalog (with_rows tables number left)) how o) (sym concludes) written))
      told (λ h. absurd (ways.stays h))

  -- SELECT

  module _ (selected : Selected) (w_is : work_of table.def s ≡ work.Select selected) (all : items_of s ≡ scan.All)
      (found_same : rows_found table.def s (tables number) ≡ arranged selected.order selected.skip selected.most rows_kept) where
    -- the rows in the statement's order, and cut
    abbrev rows_told : List Row
    rows_told = arranged selected.order selected.skip selected.most rows_kept

    abbrev cells_told : List (List Literal)
    cells_told = map (cells_of selected.picks.picks) rows_told

    abbrev columns_told : Option AnswerColumns
    columns_told = Some (columns.Picks selected.picks)

    found_so : executed table.def table.rule s (tables number) ≡ (Found cells_told, tables number)
    found_so =
        executed_so ∙ ap (λ w. applied table.def (tables number) (finished table.def w (arranged_by w rows_kept))) w_is
        ∙ ap (λ (l : List Row). let pair : Answer × List Row = (Found cells_told, l) in pair) (nothing_put table.def (tables number))

    large_is : is_large (work_of table.def s) (rows_found table.def s (tables number)) cells_told ≡ (is_too_large rows_told || not (is_showable columns_told (outcome.Found rows_told)))
    large_is = ap (λ found. is_large (work_of table.def s) found cells_told) found_same ∙ ap (λ w. is_large w rows_told cells_told) w_is

    abbrev by_limit : Option (List ℕ) → Reply × List Row
    by_limit l = within_limit table.def (work_of table.def s) (tables number) (Found cells_told, tables number) l

    large_told : (is_too_large rows_told || not (is_showable columns_told (outcome.Found rows_told))) ≡ true → exec_on table s (tables number) ≡ (limit_reply (codes "answer"), tables number)
    large_told large = exec_so (Found cells_told, tables number) found_so ∙ ap (λ b. by_limit (answer_limit b)) (large_is ∙ large)

    small_told : (is_too_large rows_told || not (is_showable columns_told (outcome.Found rows_told))) ≡ false
        → exec_on table s (tables number) ≡ (outcome_reply table.def columns_told catalog.servers (outcome.Found rows_told), tables number)
    small_told small =
        exec_so (Found cells_told, tables number) found_so
        ∙ ap (λ b. by_limit (answer_limit b)) (large_is ∙ small)
        ∙ ap (λ w. (reply_to table.def w (Found cells_told), tables number)) w_is
        ∙ ap (λ cells. (reply.Rows (map (column_of table.def selected.picks.table) selected.picks.picks) cells 2, tables number)) (rows_same selected.picks.picks rows_told)

    selects_so : (j : Job) (stores : List Store) (how : Ending) (large : Bool) → is_too_large rows_told ≡ large → Ways j stores how → concluded j ≡ tells j (option_map outcome.Found (cond large None (Some rows_told)))
    selects_so j stores how large is_so ways =
        ap (concluded_by j) (ways.deed_is ∙ ap (deed_by table.def table.rule) w_is)
        ∙ ap (λ found. tells j (option_map outcome.Found (merged_within selected.order selected.skip selected.most found))) ways.found_is
        ∙ ap (λ rows. tells j (option_map outcome.Found (within rows))) (gathered_so (work.Select selected) w_is all)
        ∙ ap (λ b. tells j (option_map outcome.Found (cond b None (Some rows_told)))) is_so

    told_by : (o : Outcome) (r : Reply) → outcome_told catalog columns_told table.def o ≡ r → outcome_told catalog (columns_by (work_of table.def s)) table.def o ≡ r
    told_by o r told = ap (λ w. outcome_told catalog (columns_by w) table.def o) w_is ∙ told

    abbrev shown_told : Bool → Reply
    shown_told showable = cond showable (outcome_reply table.def columns_told catalog.servers (outcome.Found rows_told)) (limit_reply (codes "answer"))

    select_by : (j : Job) (stores : List Store) (how : Ending) (large showable : Bool) → is_too_large rows_told ≡ large → is_showable columns_told (outcome.Found rows_told) ≡ showable → Ways j stores how
        → GoesThrough catalog tables n tx number table s
    select_by j stores how true showable big fits ways =
        gives_up_goes j stores how outcome.AnswerLimit (limit_reply (codes "answer")) ways (selects_so j stores how true big ways)
        (large_told (ap (λ b. b || not (is_showable columns_told (outcome.Found rows_told))) big)) (told_by outcome.AnswerLimit (limit_reply (codes "answer")) refl)
    select_by j stores how false true big fits ways =
        ends_goes j stores how (outcome.Found rows_told) (outcome_reply table.def columns_told catalog.servers (outcome.Found rows_told)) ways (selects_so j stores how false big ways)
        (small_told (ap (λ b. b || not (is_showable columns_told (outcome.Found rows_told))) big ∙ ap not fits))
        (told_by (outcome.Found rows_told) (shown_told true) (ap shown_told fits))
    select_by j stores how false false big fits ways =
        ends_goes j stores how (outcome.Found rows_told) (limit_reply (codes "answer")) ways (selects_so j stores how false big ways)
        (large_told (ap (λ b. b || not (is_showable columns_told (outcome.Found rows_told))) big ∙ ap not fits))
        (told_by (outcome.Found rows_told) (shown_told false) (ap shown_told fits))

    -- a SELECT of columns comes to its plain answer
    pub select_goes : (j : Job) (stores : List Store) (how : Ending) → Ways j stores how → GoesThrough catalog tables n tx number table s
    select_goes j stores how ways = select_by j stores how (is_too_large rows_told) (is_showable columns_told (outcome.Found rows_told)) refl refl ways

  -- AGGREGATES

  module _ (list : List CellColumn) (w_is : work_of table.def s ≡ work.Aggregate list) (sums_fit : can_merge (aggregates_of list) parts_found ≡ true) (none_found : rows_found table.def s (tables number) ≡ []) where
    -- what each of them is over all rows
    abbrev results : List Literal
    results = merged_results (aggregates_of list) parts_found

    abbrev cells_counted : List Cell
    cells_counted = map cell_text results

    abbrev columns_counted : Option AnswerColumns
    columns_counted = Some (columns.Cells list)

    counted_so : executed table.def table.rule s (tables number) ≡ (Found (results ∷ []), tables number)
    counted_so =
        statements_are_merged number table.def table.rule s plan (tables number) is whole fit passes planned
        ∙ ap (λ w. applied table.def (tables number) (made_of table.def w parts_found)) w_is
        ∙ ap (λ (l : List Row). let pair : Answer × List Row = (Found (results ∷ []), l) in pair) (nothing_put table.def (tables number))

    counts_so : (j : Job) (stores : List Store) (how : Ending) → Ways j stores how → concluded j ≡ ends j (outcome.Cells cells_counted)
    counts_so j stores how ways =
        ap (concluded_by j) (ways.deed_is ∙ ap (deed_by table.def table.rule) w_is)
        ∙ ap (λ found. tells j (option_map outcome.Cells (cells_within (aggregates_of list) found))) ways.found_is
        ∙ ap (λ b. tells j (option_map outcome.Cells (cond b (Some cells_counted) None))) sums_fit

    counted_within : (showable : Bool) → is_showable columns_counted (outcome.Cells cells_counted) ≡ showable → is_large (work_of table.def s) (rows_found table.def s (tables number)) (results ∷ []) ≡ not showable
    counted_within showable fits =
        ap (λ found. is_large (work_of table.def s) found (results ∷ [])) none_found ∙ (ap (λ w. is_large w [] (results ∷ [])) w_is ∙ by showable fits)
      where
        by : (b : Bool) → is_showable columns_counted (outcome.Cells cells_counted) ≡ b → not (is_showable columns_counted (outcome.Cells cells_counted) && true) ≡ not b
        by b h = ap (λ x. not (x && true)) h ∙ either_way b
          where
            either_way : (b : Bool) → not (b && true) ≡ not b
            either_way true = refl
            either_way false = refl

    abbrev counted_by_limit : Option (List ℕ) → Reply × List Row
    counted_by_limit l = within_limit table.def (work_of table.def s) (tables number) (Found (results ∷ []), tables number) l

    abbrev counted_shown : Bool → Reply
    counted_shown showable = cond showable (outcome_reply table.def columns_counted catalog.servers (outcome.Cells cells_counted)) (limit_reply (codes "answer"))

    counted_told : (showable : Bool) → is_showable columns_counted (outcome.Cells cells_counted) ≡ showable → exec_on table s (tables number) ≡ (counted_shown showable, tables number)
    counted_told true fits =
        exec_so (Found (results ∷ []), tables number) counted_so ∙ ap (λ b. counted_by_limit (answer_limit b)) (counted_within true fits)
        ∙ ap (λ w. (reply_to table.def w (Found (results ∷ [])), tables number)) w_is
    counted_told false fits = exec_so (Found (results ∷ []), tables number) counted_so ∙ ap (λ b. counted_by_limit (answer_limit b)) (counted_within false fits)

    count_by : (j : Job) (stores : List Store) (how : Ending) (showable : Bool) → is_showable columns_counted (outcome.Cells cells_counted) ≡ showable → Ways j stores how → GoesThrough catalog tables n tx number table s
    count_by j stores how showable fits ways =
        ends_goes j stores how (outcome.Cells cells_counted) (counted_shown showable) ways (counts_so j stores how ways) (counted_told showable fits)
        (ap (λ w. outcome_told catalog (columns_by w) table.def (outcome.Cells cells_counted)) w_is ∙ ap counted_shown fits)

    -- a SELECT of aggregates comes to its plain answer
    pub aggregates_go : (j : Job) (stores : List Store) (how : Ending) → Ways j stores how → GoesThrough catalog tables n tx number table s
    aggregates_go j stores how ways = count_by j stores how (is_showable columns_counted (outcome.Cells cells_counted)) refl ways

  -- WHAT IS DONE, UNLESS A LIMIT IS PASSED

  module _ (no_picks : columns_by (work_of table.def s) ≡ None) where
    told_so : (o : Outcome) (r : Reply) → outcome_told catalog None table.def o ≡ r → outcome_told catalog (columns_by (work_of table.def s)) table.def o ≡ r
    told_so o r told = ap (λ picks. outcome_told catalog picks table.def o) no_picks ∙ told

    abbrev long_limit : Bool → Option (List ℕ)
    long_limit long = cond long (Some (codes "write set")) None

    module _ (count : ℕ) (w : Writes) (done : executed table.def table.rule s (tables number) ≡ applied table.def (tables number) (Done count, w)) (w_of : writes_of table.def s (tables number) ≡ w) where
      abbrev done_within : Option (List ℕ) → Reply × List Row
      done_within limit = within_limit table.def (work_of table.def s) (tables number) (Done count, written table.def (tables number) w) limit

      -- more rows were found than an answer may have
      too_many_found : is_too_large (rows_found table.def s (tables number)) ≡ true → exec_on table s (tables number) ≡ (limit_reply (codes "answer"), tables number)
      too_many_found big =
          exec_so (Done count, written table.def (tables number) w) done ∙ ap (λ b. done_within (option_or (answer_limit b) (long_limit (is_long table s (writes_of table.def s (tables number)))))) big

      done_told : (long : Bool) → is_too_large (rows_found table.def s (tables number)) ≡ false → is_long table s w ≡ long → exec_on table s (tables number) ≡ done_within (long_limit long)
      done_told long small is_so =
          exec_so (Done count, written table.def (tables number) w) done
          ∙ ap (λ b. done_within (option_or (answer_limit b) (long_limit (is_long table s (writes_of table.def s (tables number)))))) small
          ∙ ap (λ v. done_within (long_limit (is_long table s v))) w_of
          ∙ ap (λ b. done_within (long_limit b)) is_so

      -- a statement is done with what it writes, unless it is too much
      done_goes : (j : Job) (stores : List Store) (how : Ending) (asks : List Ask) (long : Bool) → is_too_large (rows_found table.def s (tables number)) ≡ false → is_long table s w ≡ long → Ways j stores how
          → concluded j ≡ ends_by_size long j count asks
          → ((o : Outcome) → Through 4 n false stores (writes_by j o asks) (stores_of catalog (with_rows tables number (written table.def (tables number) w))) how o) → GoesThrough catalog tables n tx number table s
      done_goes j stores how asks true small is_so ways concludes through =
          gives_up_goes j stores how outcome.WriteSetLimit (limit_reply (codes "write set")) ways concludes (done_told true small is_so)
          (told_so outcome.WriteSetLimit (limit_reply (codes "write set")) refl)
      done_goes j stores how asks false small is_so ways concludes through =
          writes_goes j stores how (outcome.Done count) (ok_reply count) asks (written table.def (tables number) w) ways concludes (done_told false small is_so) (through (outcome.Done count))
          (told_so (outcome.Done count) (ok_reply count) refl)

  -- INSERT

  module _ (added : List Row) (w_is : work_of table.def s ≡ work.Insert added) (all : items_of s ≡ scan.All) (none_found : rows_found table.def s (tables number) ≡ []) where
    abbrev news : List PlacedRow
    news = map (placed table.def table.rule) added

    abbrev taken : Option ℤ
    taken = first_taken (has_row table.def rows_kept) (map (key_of table.def) added)

    abbrev left : List Row
    left = put_all table.def (tables number) added

    inserted_so : executed table.def table.rule s (tables number) ≡ applied table.def (tables number) (added_by added taken)
    inserted_so = executed_so ∙ ap (λ w. applied table.def (tables number) (finished table.def w (arranged_by w rows_kept))) w_is

    found_keys : (key : ℤ) → is_found table.def.key parts_found key ≡ has_row table.def rows_kept key
    found_keys key =
        let test : Row → Bool = λ row. int_eq (key_of table.def row) key in
        sym (any_sorted test (before (key_order table.def.key)) (all_rows parts_found)) ∙ ap (list_any test) (gathered_so (work.Insert added) w_is all)

    taken_so : taken_key table.def.key parts_found news ≡ taken
    taken_so =
        ap (first_taken (is_found table.def.key parts_found)) (keys_of_placed table.def table.rule added)
        ∙ same_taken (is_found table.def.key parts_found) (has_row table.def rows_kept) (map (key_of table.def) added) (λ key there. found_keys key)

    inserts_so : (j : Job) (stores : List Store) (how : Ending) → Ways j stores how → concluded j ≡ writes j (inserting_by (targets_for table s) news taken)
    inserts_so j stores how ways =
        ap (concluded_by j) (ways.deed_is ∙ ap (deed_by table.def table.rule) w_is)
        ∙ ap (λ (scan : TableScan). writes j (inserting_by j.targets news (taken_key scan.place j.found news))) ways.scan_is
        ∙ ap (λ found. writes j (inserting_by j.targets news (taken_key table.def.key found news))) ways.found_is
        ∙ ap (λ ts. writes j (inserting_by ts news (taken_key table.def.key parts_found news))) ways.targets_are
        ∙ ap (λ o. writes j (inserting_by (targets_for table s) news o)) taken_so

    no_cells : columns_by (work_of table.def s) ≡ None
    no_cells = ap columns_by w_is

    -- it writes its rows, where no key is taken
    writes_added : taken ≡ None → writes_of table.def s (tables number) ≡ Puts added
    writes_added free =
        ap (λ found. (finished table.def (work_of table.def s) found).1) none_found
        ∙ ap (λ w. (finished table.def w []).1) w_is
        ∙ ap (λ o. (added_by added o).1) (fewer_taken (has_row table.def rows_kept) (has_row table.def []) (map (key_of table.def) added) (λ key there. absurd (false≢true there)) free)

    inserts_by : (j : Job) (stores : List Store) (how : Ending) (o : Option ℤ) → taken ≡ o → Ways j stores how
        → ((o : Outcome) → taken ≡ None → Through 4 n false stores (writes_by j o (puts_of (targets_for table s) news)) (stores_of catalog (with_rows tables number left)) how o) → GoesThrough catalog tables n tx number table s
    inserts_by j stores how (Some key) is_taken ways through =
        gives_up_goes j stores how (outcome.Duplicate key) (duplicate_reply key) ways
        (inserts_so j stores how ways ∙ ap (λ x. writes j (inserting_by (targets_for table s) news x)) is_taken)
        (exec_so (Duplicate key, tables number)
        (inserted_so ∙ ap (λ x. applied table.def (tables number) (added_by added x)) is_taken
        ∙ ap (λ (l : List Row). let pair : Answer × List Row = (Duplicate key, l) in pair) (nothing_put table.def (tables number))))
        (told_so no_cells (outcome.Duplicate key) (duplicate_reply key) refl)
    inserts_by j stores how None free ways through =
        done_goes no_cells (length added) (Puts added) (inserted_so ∙ ap (λ x. applied table.def (tables number) (added_by added x)) free) (writes_added free)
        j stores how (puts_of (targets_for table s) news) (writes_too_much (targets_for table s) news) (ap is_too_large none_found) refl ways
        (inserts_so j stores how ways ∙ ap (λ x. writes j (inserting_by (targets_for table s) news x)) free
        ∙ puts_by_size j (targets_for table s) news (writes_too_much (targets_for table s) news) refl
        ∙ ap (λ count. ends_by_size (writes_too_much (targets_for table s) news) j count (puts_of (targets_for table s) news)) (length-map added (placed table.def table.rule)))
        (λ o. through o free)

    -- an INSERT comes to its plain answer, where its rows are written on its way
    pub insert_goes : (j : Job) (stores : List Store) (how : Ending) → Ways j stores how
        → ((o : Outcome) → taken ≡ None → Through 4 n false stores (writes_by j o (puts_of (targets_for table s) news)) (stores_of catalog (with_rows tables number left)) how o) → GoesThrough catalog tables n tx number table s
    insert_goes j stores how ways through = inserts_by j stores how taken refl ways through

  -- UPDATE

  module _ (sets : List SetColumn) (w_is : work_of table.def s ≡ work.Update sets) (all : items_of s ≡ scan.All) (found_same : rows_found table.def s (tables number) ≡ rows_kept) where
    abbrev changing : Changing
    changing = record { table = table.def; rule = table.rule; sets = sets }

    no_columns : columns_by (work_of table.def s) ≡ None
    no_columns = ap columns_by w_is

    updated_so : (r : Result (List Row) RowFault) → set_rows table.def sets 1 rows_kept ≡ r → executed table.def table.rule s (tables number) ≡ applied table.def (tables number) (changed_by rows_kept r)
    updated_so r is_so =
        executed_so ∙ ap (λ w. applied table.def (tables number) (finished table.def w (arranged_by w rows_kept))) w_is ∙ ap (λ x. applied table.def (tables number) (changed_by rows_kept x)) is_so

    writes_changed : (r : Result (List Row) RowFault) → set_rows table.def sets 1 rows_kept ≡ r → writes_of table.def s (tables number) ≡ (changed_by rows_kept r).1
    writes_changed r is_so =
        ap (λ found. (finished table.def (work_of table.def s) found).1) found_same ∙ ap (λ w. (finished table.def w rows_kept).1) w_is ∙ ap (λ x. (changed_by rows_kept x).1) is_so

    updates_so : (j : Job) (stores : List Store) (how : Ending) → Ways j stores how → concluded j ≡ writes j (updating (targets_for table s) changing (cond (is_too_large rows_kept) None (Some rows_kept)))
    updates_so j stores how ways =
        ap (concluded_by j) (ways.deed_is ∙ ap (deed_by table.def table.rule) w_is)
        ∙ ap (λ found. writes j (updating j.targets changing found)) (found_by_key j stores how (gathered_so (work.Update sets) w_is all) ways)
        ∙ ap (λ ts. writes j (updating ts changing (cond (is_too_large rows_kept) None (Some rows_kept)))) ways.targets_are

    -- how it goes on with what is set
    abbrev set_goes : Job → Result (List Row) RowFault → Job × Progress
    set_goes j r = writes j (updating_by (targets_for table s) (map_ok (λ news. map (placed table.def table.rule) (changed rows_kept news)) r))

    sets_so : (j : Job) (stores : List Store) (how : Ending) (r : Result (List Row) RowFault) → is_too_large rows_kept ≡ false → set_rows table.def sets 1 rows_kept ≡ r → Ways j stores how → concluded j ≡ set_goes j r
    sets_so j stores how r small is_so ways =
        updates_so j stores how ways ∙ ap (λ b. writes j (updating (targets_for table s) changing (cond b None (Some rows_kept)))) small ∙ ap (set_goes j) is_so

    -- the answer is that more rows were found than an answer may have
    many_told : (r : Result (List Row) RowFault) → set_rows table.def sets 1 rows_kept ≡ r → is_too_large rows_kept ≡ true → exec_on table s (tables number) ≡ (limit_reply (codes "answer"), tables number)
    many_told (Err fault) is_so big =
        let e : Answer × List Row = applied table.def (tables number) (changed_by rows_kept (Err fault)) in
        exec_so e (updated_so (Err fault) is_so)
        ∙ ap (λ b. within_limit table.def (work_of table.def s) (tables number) e (answer_limit b)) (ap is_too_large found_same ∙ big)
    many_told (Ok news) is_so big =
        too_many_found no_columns (length (changed rows_kept news)) (Puts (changed rows_kept news)) (updated_so (Ok news) is_so) (writes_changed (Ok news) is_so) (ap is_too_large found_same ∙ big)

    -- or that a row can't be changed
    refusal_told : (fault : RowFault) → set_rows table.def sets 1 rows_kept ≡ Err fault → is_too_large rows_kept ≡ false → exec_on table s (tables number) ≡ (row_reply fault, tables number)
    refusal_told fault is_so small =
        let e : Answer × List Row = (RowRefused fault, tables number) in
        exec_so e (updated_so (Err fault) is_so ∙ ap (λ (l : List Row). let pair : Answer × List Row = (RowRefused fault, l) in pair) (nothing_put table.def (tables number)))
        ∙ ap (λ b. within_limit table.def (work_of table.def s) (tables number) e (answer_limit b)) (ap is_too_large found_same ∙ small)

    -- the rows that change are put
    abbrev pub PutsChanges : Job → List Store → Ending → Type 0
    PutsChanges j stores how =
        (o : Outcome) (news : List Row) → set_rows table.def sets 1 rows_kept ≡ Ok news
        → Through 4 n false stores (writes_by j o (puts_of (targets_for table s) (map (placed table.def table.rule) (changed rows_kept news))))
        (stores_of catalog (with_rows tables number (put_all table.def (tables number) (changed rows_kept news)))) how o

    update_by : (j : Job) (stores : List Store) (how : Ending) (large : Bool) (r : Result (List Row) RowFault) → is_too_large rows_kept ≡ large → set_rows table.def sets 1 rows_kept ≡ r → Ways j stores how → PutsChanges j stores how
        → GoesThrough catalog tables n tx number table s
    update_by j stores how true r big is_so ways through =
        gives_up_goes j stores how outcome.AnswerLimit (limit_reply (codes "answer")) ways
        (updates_so j stores how ways ∙ ap (λ b. writes j (updating (targets_for table s) changing (cond b None (Some rows_kept)))) big)
        (many_told r is_so big) (told_so no_columns outcome.AnswerLimit (limit_reply (codes "answer")) refl)
    update_by j stores how false (Err fault) small is_so ways through =
        gives_up_goes j stores how (outcome.RowRefused fault) (row_reply fault) ways (sets_so j stores how (Err fault) small is_so ways)
        (refusal_told fault is_so small) (told_so no_columns (outcome.RowRefused fault) (row_reply fault) refl)
    update_by j stores how false (Ok news) small is_so ways through =
        let rows : List Row = changed rows_kept news in
        let put : List PlacedRow = map (placed table.def table.rule) rows in
        let long : Bool = writes_too_much (targets_for table s) put in
        done_goes no_columns (length rows) (Puts rows) (updated_so (Ok news) is_so) (writes_changed (Ok news) is_so) j stores how (puts_of (targets_for table s) put) long (ap is_too_large found_same ∙ small) refl ways
        (sets_so j stores how (Ok news) small is_so ways ∙ puts_by_size j (targets_for table s) put long refl
        ∙ ap (λ count. ends_by_size long j count (puts_of (targets_for table s) put)) (length-map rows (placed table.def table.rule)))
        (λ o. through o news is_so)

    -- an UPDATE comes to its plain answer, where the rows that change are written on its way
    pub update_goes : (j : Job) (stores : List Store) (how : Ending) → Ways j stores how → PutsChanges j stores how → GoesThrough catalog tables n tx number table s
    update_goes j stores how ways through = update_by j stores how (is_too_large rows_kept) (set_rows table.def sets 1 rows_kept) refl refl ways through

  -- DELETE

  module _ (w_is : work_of table.def s ≡ work.Delete) (all : items_of s ≡ scan.All) (found_same : rows_found table.def s (tables number) ≡ rows_kept) where
    -- the keys of the rows that go
    abbrev gone : List ℤ
    gone = map (key_of table.def) rows_kept

    deleted_so : executed table.def table.rule s (tables number) ≡ applied table.def (tables number) (Done (length rows_kept), Dels gone)
    deleted_so = executed_so ∙ ap (λ w. applied table.def (tables number) (finished table.def w (arranged_by w rows_kept))) w_is

    writes_gone : writes_of table.def s (tables number) ≡ Dels gone
    writes_gone = ap (λ found. (finished table.def (work_of table.def s) found).1) found_same ∙ ap (λ w. (finished table.def w rows_kept).1) w_is

    -- how it goes on with the rows that were found
    abbrev found_goes : Job → Bool → Job × Progress
    found_goes j large = writes j (deleting (targets_for table s) (scan_for table.def s) table.rule (cond large None (Some rows_kept)))

    deletes_so : (j : Job) (stores : List Store) (how : Ending) (large : Bool) → is_too_large rows_kept ≡ large → Ways j stores how → concluded j ≡ found_goes j large
    deletes_so j stores how large is_so ways =
        ap (concluded_by j) (ways.deed_is ∙ ap (deed_by table.def table.rule) w_is)
        ∙ ap (λ found. writes j (deleting j.targets j.scan table.rule found)) (found_by_key j stores how (gathered_so work.Delete w_is all) ways)
        ∙ ap (λ ts. writes j (deleting ts j.scan table.rule (cond (is_too_large rows_kept) None (Some rows_kept)))) ways.targets_are
        ∙ ap (λ scan. writes j (deleting (targets_for table s) scan table.rule (cond (is_too_large rows_kept) None (Some rows_kept)))) ways.scan_is
        ∙ ap (found_goes j) is_so

    -- the rows go by their keys
    abbrev pub Deletes : Job → List Store → Ending → Type 0
    Deletes j stores how =
        (o : Outcome) → Through 4 n false stores (writes_by j o (dels_of (key_name table.def) (targets_for table s) (map (placed_key table.rule) gone))) (stores_of catalog (with_rows tables number (without table.def gone (tables number)))) how o

    delete_by : (j : Job) (stores : List Store) (how : Ending) (large : Bool) → is_too_large rows_kept ≡ large → Ways j stores how → Deletes j stores how → GoesThrough catalog tables n tx number table s
    delete_by j stores how true big ways through =
        gives_up_goes j stores how outcome.AnswerLimit (limit_reply (codes "answer")) ways (deletes_so j stores how true big ways)
        (too_many_found (ap columns_by w_is) (length rows_kept) (Dels gone) deleted_so writes_gone (ap is_too_large found_same ∙ big))
        (told_so (ap columns_by w_is) outcome.AnswerLimit (limit_reply (codes "answer")) refl)
    delete_by j stores how false small ways through =
        let keys : List PlacedKey = map (placed_key table.rule) gone in
        done_goes (ap columns_by w_is) (length rows_kept) (Dels gone) deleted_so writes_gone j stores how (dels_of (key_name table.def) (targets_for table s) keys) (deletes_too_much (targets_for table s) keys)
        (ap is_too_large found_same ∙ small) refl ways
        (deletes_so j stores how false small ways
        ∙ ap (λ ks. writes j (deleting_keys (targets_for table s) (scan_for table.def s) (length rows_kept) ks)) (keys_placed table.def table.rule rows_kept)
        ∙ dels_by_size j (targets_for table s) (scan_for table.def s) (length rows_kept) keys (deletes_too_much (targets_for table s) keys) refl)
        through

    -- a DELETE comes to its plain answer, where the rows that it found go on its way
    pub delete_goes : (j : Job) (stores : List Store) (how : Ending) → Ways j stores how → Deletes j stores how → GoesThrough catalog tables n tx number table s
    delete_goes j stores how ways through = delete_by j stores how (is_too_large rows_kept) refl ways through
