-- Every statement that breaks no rule goes through its phases to its plain answer.
use Rattle.std.proofs.Common.{◌≡◌, ℕ, ◌<◌, ◌≤◌, ◌^◌, ◌++◌, ℤ, Bool, true, false, cond, List, [], ◌∷◌, map, length, Option, Some, None, refl, sym, ap, ◌∙◌, subst, arith, inl, inr, map-id}
use Rattle.std.specs.Prelude.{◌==◌, ◌||◌, ◌&&◌, FitsSigned}
use Rattle.std.specs.Int.{w64}
use Rattle.std.specs.List.{AllByRecursion, Contains, filter, flat_map, list_any, range_with_len}
use Rattle.std.proofs.lemmas.Bool.{cases_Bool, both_ways, and_parts}
use Rattle.std.proofs.lemmas.Int.{ints}
use Rattle.std.proofs.lemmas.List.{length-map}
use Rattle.sql_values.specs.declared.places.Interval.{Interval}
use Rattle.sql_values.specs.declared.table.TableDef.{TableDef}
use Rattle.sql_values.specs.declared.value.Value.{Value}
use Rattle.sql_values.specs.KeySets.{AreBigInts, AreKeys, has_key, is_within}
use Rattle.sql_values.specs.declared.tree.Cond.{Cond}
use Rattle.part_rules.specs.KeyRows.{HasOwnKeyName}
use Rattle.part_rules.specs.Pruned.{IsPruned}
use Rattle.catalog.specs.declared.tables.Table.{Table}
use Rattle.catalog.specs.Views.{View}
use Rattle.catalog_plan.specs.Plans.{table_of}
use Rattle.sql_text.specs.declared.link.LinkAnswer.{LinkAnswer}
use Rattle.sql_text.specs.declared.link.ScanItems.TheVariants as scan
use Rattle.sql_text.specs.declared.statement.Delete.{Delete}
use Rattle.sql_text.specs.declared.statement.Insert.{Insert}
use Rattle.sql_text.specs.declared.statement.Select.{Select}
use Rattle.sql_text.specs.declared.statement.SelectItems.{SelectItems}
use Rattle.sql_text.specs.declared.statement.SelectItems.TheVariants as items
use Rattle.sql_text.specs.declared.statement.TableStatement.{TableStatement}
use Rattle.sql_text.specs.declared.statement.TableStatement.TheVariants as statement
use Rattle.sql_text.specs.declared.statement.Update.{Update}
use Rattle.stmt_plan.specs.declared.planned.Selected.{Selected}
use Rattle.stmt_plan.specs.declared.planned.SetColumn.{SetColumn}
use Rattle.stmt_plan.specs.declared.planned.Work.TheVariants as work
use Rattle.sql_values.specs.declared.places.LockMode.TheVariants.{Exclusive}
use Rattle.stmt_plan.specs.Inserts.{key_name, rows_of}
use Rattle.stmt_plan.specs.Plans.{IsPlan, items_of, keeps_key, limit_of, mode_of, work_of}
use Rattle.stmt_plan.specs.Plans.{IsTable as IsDefinition}
use Rattle.stmt_plan.specs.Refusals.{refusal}
use Rattle.stmt_plan.specs.Selects.{called, cell_column, items_by, known_as, known_name, most_of, order_of, picks_of, skip_of, work_by}
use Rattle.stmt_plan.specs.Settings.{settings}
use Rattle.plain_tables.specs.Inserts.{put_all, without}
use Rattle.front_rows.specs.Merging.{arranged}
use Rattle.plain_tables.specs.Partitions.{rows_in}
use Rattle.plain_tables.specs.Rows.{Row, key_of, kept}
use Rattle.plain_tables.specs.Statements.{Writes, Puts, Dels, rows_by}
use Rattle.plain_tables.specs.Updates.{changed}
use Rattle.plain_tables.proofs.Members.{at_front, behind}
use Rattle.plain_tables.proofs.Scanned.{own_key}
use Rattle.branch_store.specs.declared.branch.Change.{Change}
use Rattle.branch_store.specs.declared.branch.Stage.TheVariants.{Active}
use Rattle.branch_store.specs.Laws.{at_rest}
use Rattle.branch_store.specs.Store.{Store, changed_table}
use Rattle.txn_phases.specs.declared.deed.Outcome.{Outcome}
use Rattle.txn_phases.specs.declared.job.Job.{Job}
use Rattle.txn_phases.specs.declared.phase.Branch.{Branch}
use Rattle.txn_phases.specs.declared.phase.Ending.{Ending}
use Rattle.txn_phases.specs.declared.phase.Ending.TheVariants.{Committed, Alone, RolledBack}
use Rattle.txn_phases.specs.declared.phase.Progress.{Progress}
use Rattle.txn_phases.specs.declared.phase.Target.{Target}
use Rattle.txn_phases.specs.declared.requests.Ask.{Ask}
use Rattle.txn_phases.specs.Deeds.{keys_in, news_in, placed, placed_key}
use Rattle.txn_phases.specs.Phases.{concluded, ends, fits_scan, found_if, gives_up, scans_of, writes_by}
use Rattle.front_core.specs.declared.event.TxNo.{TxNo}
use Rattle.front_core.specs.Asked.{bigints, owns, parts_asked, pushed}
use Rattle.front_core.specs.Core.{table_named}
use Rattle.front_core.specs.Jobs.{branch_at, branches_of, deed_by, job_of, kinds_of, scan_for, targets_for}
use Rattle.front_core.proofs.Parting.{some_bigint, bigint_some, bigint_fits, are_pruned}
use Rattle.plain_sessions.specs.Exec.{Tables, rows_selected, with_rows}
use Rattle.plain_sessions.specs.Held.{CanBeServed, stores_of, tables_at}
use Rattle.phase_law.specs.Laws.{AreHeld, GoesThrough, IsHeld, StatementsGoThrough}
use Rattle.phase_law.specs.Through.{Through}
use Rattle.phase_law.proofs.Apart.{AreApart}
use Rattle.phase_law.proofs.AskedParts.{changes_are_written, found_keys_are_written, new_rows_are_written}
use Rattle.phase_law.proofs.Branches.{branches_apart, some_branch}
use Rattle.phase_law.proofs.Endings.{HaveBegun, ends_through, gives_up_through, ends_alone, gives_up_alone}
use Rattle.phase_law.proofs.Fits.{passes as rule_passes, delete_known, keys_stay, select_known, update_known, where_keeps}
use Rattle.phase_law.proofs.Few.{few_branches, few_links, few_writes}
use Rattle.phase_law.proofs.Found.{answers_find, answers_fit, asks_of, sums_fit}
use Rattle.phase_law.proofs.Left.{changes_left, none_left}
use Rattle.phase_law.proofs.Lists.{is_itself, map_alike}
use Rattle.phase_law.proofs.Noted.{AllFound, all_begun, begun, counted, is_finding}
use Rattle.phase_law.proofs.Phases.{FitScans, scanned, same_held}
use Rattle.phase_law.proofs.Scans.{found_of}
use Rattle.phase_law.proofs.RowsFit.{new_rows_fit, new_rows_may_be}
use Rattle.phase_law.proofs.Sent.{IsNamed, table_is_named, table_is_small, table_is_sound, asked_links, statement_scans, statement_counts, statement_writes, statement_commits}
use Rattle.phase_law.proofs.Stages.{Served, holding, no_changes, stores_as}
use Rattle.phase_law.proofs.Targets.{link_is_there, targets_are_asked}
use Rattle.phase_law.proofs.Updated.{changes_fit, changes_have_keys, changes_may_be}
use Rattle.phase_law.proofs.Ways.{through_more, have_begun, begins_alone, finds_through, writes_through}
use Rattle.phase_law.proofs.Whole.{Ways, aggregates_go, delete_goes, insert_goes, is_planned, plan_with, select_goes, update_goes}
use Rattle.phase_law.proofs.Writes.{IsWritten, changes_at, requests_of}
use Rattle.phase_law.proofs.WritesServed.{AreDone}

-- A SET OF KEYS FOR EACH TEST

abbrev single : ℤ → Interval
single k = record { low = k; high = k }

abbrev pub singles : (ℤ → Bool) → List Interval
singles test = map single (filter test bigints)

within_single : (key k : ℤ) → is_within key (single k) ≡ true → k ≡ key
within_single key k inside = grind (arith, ints)

single_within : (key : ℤ) → is_within key (single key) ≡ true
single_within key = grind (arith, ints)

any_by : (a b c : Bool) → (cond a (b || c) c) ≡ ((a && b) || c)
any_by true b c = refl
any_by false b c = refl

-- a key lies in one of them where one of these is the key
has_single : (test : ℤ → Bool) (key : ℤ) (xs : List ℤ) → has_key (map single (filter test xs)) key ≡ list_any (λ k. test k && is_within key (single k)) xs
has_single test key [] = refl
has_single test key (k ∷ xs) = by (test k) (has_single test key xs)
  where
    by : (b : Bool) → has_key (map single (filter test xs)) key ≡ list_any (λ j. test j && is_within key (single j)) xs
        → has_key (map single (cond b (k ∷ filter test xs) (filter test xs))) key ≡ ((b && is_within key (single k)) || list_any (λ j. test j && is_within key (single j)) xs)
    by true more = ap (λ x. is_within key (single k) || x) more
    by false more = more

pub singles_are : (test : ℤ → Bool) → AreKeys (singles test) test
singles_are test key fits = elim (cases_Bool (test key)) [
  | inl pass ↦
      has_single test key bigints ∙ some_bigint (λ k. test k && is_within key (single k)) key fits (ap (λ b. b && is_within key (single key)) pass ∙ single_within key) ∙ sym pass
  | inr fails ↦ has_single test key bigints ∙ none_there (list_any (λ k. test k && is_within key (single k)) bigints) refl fails ∙ sym fails
]
  where
    none_there : (b : Bool) → list_any (λ k. test k && is_within key (single k)) bigints ≡ b → test key ≡ false → b ≡ false
    none_there true any fails =
        let found = bigint_some (λ k. test k && is_within key (single k)) any in
        let both = and_parts (test found.0) (is_within key (single found.0)) found.2 in
        absurd (both_ways (test key) fails (ap test (sym (within_single key found.0 both.1)) ∙ both.0))
    none_there false any fails = refl

-- singles end at keys of a BIGINT
singles_end : (test : ℤ → Bool) (xs : List ℤ) → ((k : ℤ) → Contains xs k → FitsSigned w64 k) → AreBigInts (map single (filter test xs))
singles_end test [] fits = tt
singles_end test (k ∷ xs) fits = by (test k) (singles_end test xs (λ z c. fits z (behind k z xs c)))
  where
    by : (b : Bool) → AreBigInts (map single (filter test xs)) → AreBigInts (map single (cond b (k ∷ filter test xs) (filter test xs)))
    by true more = (fits k (at_front k xs), fits k (at_front k xs), more)
    by false more = more

-- WHAT THE SCANS FIND

counted_flat : (f : Target → LinkAnswer) (targets : List Target) → counted targets (map f targets) ≡ flat_map (λ (t : Target). found_if t.counts (f t)) targets
counted_flat f [] = refl
counted_flat f (t ∷ targets) = ap (λ l. found_if t.counts (f t) ++ l) (counted_flat f targets)

each_of : (P : LinkAnswer → Type 0) (f : Target → LinkAnswer) (targets : List Target) → ((t : Target) → Contains targets t → P (f t)) → AllByRecursion P (map f targets)
each_of P f [] all = tt
each_of P f (t ∷ targets) all = (all t (at_front t targets), each_of P f targets (λ u c. all u (behind t u targets c)))

no_parts : {A B : Type 0} (f : A → B) (xs : List A) → [] ≡ map f xs → xs ≡ []
no_parts f [] h = refl
no_parts f (x ∷ xs) h = absurd (let no_one : [] ≡ f x ∷ map f xs = h in cc)

nothing_open : (catalog : View) (tx : TxNo) → branches_of catalog tx [] ≡ []
nothing_open catalog tx = ap (map (branch_at catalog tx)) (none_pass (range_with_len 0 (length catalog.servers)))
  where
    none_pass : (xs : List ℕ) → filter (λ server. list_any (λ (t : Target). t.server == server) []) xs ≡ []
    none_pass [] = refl
    none_pass (x ∷ xs) = none_pass xs

module _ (catalog : View) (tables : Tables) (n : ℕ) (tx : TxNo) (number : ℕ) (table : Table) (s : TableStatement) (served : CanBeServed catalog) (held : AreHeld catalog tables)
    (is : table_named catalog.tables (table_of s) ≡ Some (number, table)) (passes : refusal table.def table.rule s ≡ None) where
  abbrev servers : ℕ
  servers = length catalog.servers

  abbrev asked : List Target
  asked = targets_for table s

  abbrev branches : List Branch
  branches = branches_of catalog tx asked

  abbrev job : Job
  job = job_of catalog tx table s

  abbrev test : ℤ → Bool
  test = keeps_key table.def (pushed table.def s)

  pub named : IsNamed catalog number table
  named = table_is_named catalog (table_of s) number table is

  pub sound : IsDefinition table.def
  sound = table_is_sound catalog number table served named

  pub pruned : IsPruned table.rule (singles test) (parts_asked table.def table.rule s)
  pruned = are_pruned table.rule test (singles test) (served.tables number table named.at).rule (singles_end test bigints (λ k c. bigint_fits k c)) (singles_are test)

  -- what a partition answers
  abbrev answer_in : ℕ → LinkAnswer
  answer_in p = found_of table.def (scan_for table.def s) (rows_in table.def table.rule p (tables number))

  -- and so does each of its links
  abbrev answer_at : Target → LinkAnswer
  answer_at t = answer_in t.part

  pub planned : IsPlan number table.def table.rule s (plan_with number table s (singles test))
  planned = is_planned number table s (singles test) (singles_are test) pruned

  -- WITH BRANCHES

  -- the job once its scans were answered
  abbrev found_job : Job
  found_job = scanned (begun job) (map answer_at asked)

  abbrev open_at : (ℕ → List Change) → List Store
  open_at changes = stores_as servers (tables_at catalog tables) (holding n (all_begun branches) Active changes)

  found_parts : counted asked (map answer_at asked) ≡ map answer_in (parts_asked table.def table.rule s)
  found_parts = counted_flat answer_at asked ∙ statement_counts catalog tables n tx number table s served held is passes answer_in

  all_found : AllFound (map answer_at asked)
  all_found = each_of (λ a. is_finding a ≡ true) answer_at asked
      (λ t c. answers_find table.def (items_of s) (limit_of table.def s) (kept table.def (pushed table.def s) (rows_in table.def table.rule t.part (tables number))))

  all_fit : FitScans (begun job) (map answer_at asked)
  all_fit = each_of (λ a. fits_scan (deed_by table.def table.rule (work_of table.def s)) (kinds_of table.def) a ≡ true) answer_at asked
      (λ t c. answers_fit number table (tables number) sound (held number table named.at).rows_of (held number table named.at).fit s (singles test) passes planned t.part
      (targets_are_asked (mode_of s) table.parts (parts_asked table.def table.rule s) t c))

  module _ (first : Target) (rest : List Target) (some : asked ≡ first ∷ rest) where
    some_asked : 0 < length asked
    some_asked = subst (λ (l : List Target). 0 < length l) (sym some) (omega arith)

    first_asked : Contains asked first
    first_asked = subst (λ (l : List Target). Contains l first) (sym some) (at_front first rest)

    first_below : first.server < servers
    first_below = (link_is_there catalog tables number table first served named.at (asked_links catalog tables n tx number table s served held is passes first first_asked)).within

    some_branches : 0 < length branches
    some_branches =
        some_branch catalog tx asked first.server first_below
        (ap (list_any (λ (t : Target). t.server == first.server)) some ∙ ap (λ b. b || list_any (λ (t : Target). t.server == first.server) rest) (is_itself first.server))

    few_asked : length asked ≤ 2 ^ 35
    few_asked = few_links servers table s (served.tables number table named.at)

    few_open : length branches ≤ 2 ^ 35
    few_open = let fewer = few_branches catalog tx asked in let few = few_asked in omega (arith, fewer, few)

    apart : AreApart servers branches
    apart = branches_apart catalog tx asked

    have : HaveBegun servers found_job
    have = have_begun servers branches found_job refl apart some_branches few_open

    scans : Served n (stores_as servers (tables_at catalog tables) (holding n branches Active no_changes)) (scans_of (scan_for table.def s) asked) (map answer_at asked)
        (stores_as servers (tables_at catalog tables) (holding n branches Active no_changes))
    scans = statement_scans catalog tables n tx number table s served held is passes

    with_branches : Ways catalog tables n tx number table s sound (held number table named.at).rows_of (held number table named.at).fit passes (singles test) (singles_are test) pruned found_job (open_at no_changes) Committed
    with_branches = record {
      deed_is = refl;
      targets_are = refl;
      scan_is = refl;
      found_is = found_parts;
      ended = λ o.
          through_more 3 n false (open_at no_changes) (ends found_job o).0 (ends found_job o).1 (stores_of catalog tables) Committed o
          (subst (λ last. Through 3 n false (open_at no_changes) (ends found_job o) last Committed o) (none_left servers (all_begun branches) (tables_at catalog tables))
          (ends_through n servers (tables_at catalog tables) no_changes found_job have o));
      given_up = λ o.
          let one = gives_up_through n servers (tables_at catalog tables) no_changes found_job have o in
          let p = gives_up found_job o in
          through_more 3 n false (open_at no_changes) p.0 p.1 (stores_of catalog tables) RolledBack o
          (through_more 2 n false (open_at no_changes) p.0 p.1 (stores_of catalog tables) RolledBack o (through_more 1 n false (open_at no_changes) p.0 p.1 (stores_of catalog tables) RolledBack o one));
      begun = λ last h o through.
          finds_through 4 n servers (tables_at catalog tables) job (map answer_at asked) last h o apart some_branches few_open scans all_found all_fit (length-map asked answer_at) some_asked few_asked through;
      stays = λ h. cc;
    }

    -- rows are written and committed
    written_with : (w : ℕ → Writes) (left : List Row) → IsWritten table.def table.rule (owns table.rule test) (tables number) w left → mode_of s ≡ Exclusive → (o : Outcome)
        → Through 4 n false (open_at no_changes) (writes_by found_job o (requests_of (key_name table.def) asked w)) (stores_of catalog (with_rows tables number left)) Committed o
    written_with w left written exclusive o =
        let asks : List Ask = requests_of (key_name table.def) asked w in
        let done : AreDone n (open_at no_changes) asks (open_at (changes_at asked w)) =
        subst (λ h. AreDone n (stores_as servers (tables_at catalog tables) h) asks (open_at (changes_at asked w))) (sym (same_held n branches Active no_changes))
        (subst (λ h. AreDone n (stores_as servers (tables_at catalog tables) (holding n branches Active no_changes)) asks (stores_as servers (tables_at catalog tables) h)) (sym (same_held n branches Active (changes_at asked w)))
        (statement_writes catalog tables n tx number table s served held is passes w left written)) in
        let few = few_writes (key_name table.def) asked w in
        let few_now = few_asked in
        writes_through 3 n (open_at no_changes) found_job o asks done.answers (open_at (changes_at asked w)) (stores_of catalog (with_rows tables number left)) Committed o done.served done.done (omega (arith, few, few_now))
        (subst (λ last. Through 3 n false (open_at (changes_at asked w)) (ends found_job o) last Committed o)
        (changes_left catalog tx asked w (tables_at catalog tables) (tables_at catalog (with_rows tables number left))
        (λ server below. statement_commits catalog tables n tx number table s served held is passes w left written server exclusive))
        (ends_through n servers (tables_at catalog tables) (changes_at asked w) found_job have o))

  -- WITHOUT BRANCHES

  module _ (none : asked ≡ []) where
    no_branch : branches ≡ []
    no_branch = ap (branches_of catalog tx) none ∙ nothing_open catalog tx

    no_part : parts_asked table.def table.rule s ≡ []
    no_part =
        no_parts answer_in (parts_asked table.def table.rule s)
        (ap (λ ts. flat_map (λ (t : Target). found_if t.counts (answer_in t.part)) ts) (sym none)
        ∙ statement_counts catalog tables n tx number table s served held is passes answer_in)

    alone : Ways catalog tables n tx number table s sound (held number table named.at).rows_of (held number table named.at).fit passes (singles test) (singles_are test) pruned job (stores_of catalog tables) Alone
    alone = record {
      deed_is = refl;
      targets_are = refl;
      scan_is = refl;
      found_is = ap (map answer_in) (sym no_part);
      ended = λ o. ends_alone 4 n (stores_of catalog tables) job o no_branch;
      given_up = λ o. gives_up_alone 4 n (stores_of catalog tables) job o no_branch;
      begun = λ last h o through.
          let p = concluded job in
          subst (λ (x : Job × Progress). Through 6 n false (stores_of catalog tables) x last h o) (sym (begins_alone job no_branch))
          (through_more 5 n false (stores_of catalog tables) p.0 p.1 last h o (through_more 4 n false (stores_of catalog tables) p.0 p.1 last h o through));
      stays = λ h. cc;
    }

    -- nothing that is written leaves the tables as they were
    unchanged : (w : ℕ → Writes) (left : List Row) → IsWritten table.def table.rule (owns table.rule test) (tables number) w left → mode_of s ≡ Exclusive → stores_of catalog tables ≡ stores_of catalog (with_rows tables number left)
    unchanged w left written exclusive =
        map_alike (λ server. at_rest (tables_at catalog tables server)) (λ server. at_rest (tables_at catalog (with_rows tables number left) server)) (range_with_len 0 servers)
        (λ server c.
        let changes : map (changed_table (changes_at asked w server)) (tables_at catalog tables server) ≡ tables_at catalog tables server =
        ap (λ (ts : List Target). map (changed_table (changes_at ts w server)) (tables_at catalog tables server)) none ∙ map-id (tables_at catalog tables server) in
        ap at_rest (sym changes ∙ statement_commits catalog tables n tx number table s served held is passes w left written server exclusive))

    written_alone : (w : ℕ → Writes) (left : List Row) → IsWritten table.def table.rule (owns table.rule test) (tables number) w left → mode_of s ≡ Exclusive → (o : Outcome)
        → Through 4 n false (stores_of catalog tables) (writes_by job o (requests_of (key_name table.def) asked w)) (stores_of catalog (with_rows tables number left)) Alone o
    written_alone w left written exclusive o =
        subst (λ (ts : List Target). Through 4 n false (stores_of catalog tables) (writes_by job o (requests_of (key_name table.def) ts w)) (stores_of catalog (with_rows tables number left)) Alone o) (sym none)
        (subst (λ (last : List Store). Through 4 n false (stores_of catalog tables) (ends job o) last Alone o) (unchanged w left written exclusive) (ends_alone 4 n (stores_of catalog tables) job o no_branch))

  -- BY THE LINKS THAT ARE ASKED

  -- the job whose scans were answered, or which has none, and the ways from there
  pub record Comes : Type 0 where
    pub job_there : Job
    pub stores : List Store
    pub how : Ending
    pub ways : Ways catalog tables n tx number table s sound (held number table named.at).rows_of (held number table named.at).fit passes (singles test) (singles_are test) pruned job_there stores how
    pub written : (w : ℕ → Writes) (left : List Row) → IsWritten table.def table.rule (owns table.rule test) (tables number) w left → mode_of s ≡ Exclusive → (o : Outcome)
        → Through 4 n false stores (writes_by job_there o (requests_of (key_name table.def) asked w)) (stores_of catalog (with_rows tables number left)) how o

  comes_by : (links : List Target) → asked ≡ links → Comes
  comes_by [] none = record { job_there = job; stores = stores_of catalog tables; how = Alone; ways = alone none; written = λ w left written exclusive o. written_alone none w left written exclusive o }
  comes_by (first ∷ rest) some = record { job_there = found_job; stores = open_at no_changes; how = Committed; ways = with_branches first rest some; written = λ w left written exclusive o. written_with first rest some w left written exclusive o }

  pub comes : Comes
  comes = comes_by asked refl

-- STATEMENTS

module _ (catalog : View) (tables : Tables) (n : ℕ) (tx : TxNo) (number : ℕ) (table : Table) (served : CanBeServed catalog) (held : AreHeld catalog tables) where
  -- a statement on a table that its name finds, and which breaks no rule
  abbrev IsOn : TableStatement → Type 0
  IsOn s = (table_named catalog.tables (table_of s) ≡ Some (number, table)) × (refusal table.def table.rule s ≡ None)

  abbrev rows : List Row
  rows = tables number

  abbrev rows_held : (s : TableStatement) → IsOn s → IsHeld table rows
  rows_held s on = held number table (named catalog tables n tx number table s served held on.0 on.1).at

  own : (s : TableStatement) → IsOn s → HasOwnKeyName table.def
  own s on = own_key table.def (sound catalog tables n tx number table s served held on.0 on.1)

  -- the keys for which it asks, as a list of intervals
  abbrev asked_keys : TableStatement → List Interval
  asked_keys s = singles (keeps_key table.def (pushed table.def s))

  abbrev asked_are : (s : TableStatement) → AreKeys (asked_keys s) (keeps_key table.def (pushed table.def s))
  asked_are s = singles_are (keeps_key table.def (pushed table.def s))

  -- the table under the statement's name of it
  abbrev known : Select → TableDef
  known select = known_as table.def select.tab

  -- what a SELECT of these columns makes of rows
  abbrev selected_with : Select → SelectItems → Selected
  selected_with select i = record {
    picks = record { table = known_name select.tab; picks = picks_of (known select) i };
    order = order_of (known select) select.order;
    skip = skip_of select.limit;
    most = most_of select.limit;
  }

  columns_through : (select : Select) (i : SelectItems) → select.items ≡ i → items_by i ≡ scan.All → work_by (known select) select i ≡ work.Select (selected_with select i)
      → rows_selected (known select) select rows i ≡ rows_by (known select) select rows → IsOn (statement.Select select) → GoesThrough catalog tables n tx number table (statement.Select select)
  columns_through select i are all is found on =
      let s = statement.Select select in
      let here = comes catalog tables n tx number table s served held on.0 on.1 in
      select_goes catalog tables n tx number table s (sound catalog tables n tx number table s served held on.0 on.1) (rows_held s on).rows_of (rows_held s on).fit on.1 (asked_keys s) (asked_are s)
      (pruned catalog tables n tx number table s served held on.0 on.1) (selected_with select i) (ap (work_by (known select) select) are ∙ is) (ap items_by are ∙ all)
      (ap (rows_selected (known select) select rows) are
      ∙ (found
      ∙ ap (arranged (order_of (known select) select.order) (skip_of select.limit) (most_of select.limit))
      (where_keeps table.def (known_name select.tab) select.cond rows (select_known table.def select (rule_passes table.def table.rule s on.1).known))))
      here.job_there here.stores here.how here.ways

  select_by : (select : Select) (i : SelectItems) → select.items ≡ i → IsOn (statement.Select select) → GoesThrough catalog tables n tx number table (statement.Select select)
  select_by select items.All are on = columns_through select items.All are refl refl refl on
  select_by select (items.Columns list) are on = columns_through select (items.Columns list) are refl refl refl on
  select_by select (items.Aggregates list) are on =
      let s = statement.Select select in
      let asks = asks_of table.def table.rule select list are on.1 in
      let here = comes catalog tables n tx number table s served held on.0 on.1 in
      aggregates_go catalog tables n tx number table s (sound catalog tables n tx number table s served held on.0 on.1) (rows_held s on).rows_of (rows_held s on).fit on.1 (asked_keys s) (asked_are s)
      (pruned catalog tables n tx number table s served held on.0 on.1) (map (cell_column (called table.def asks.name)) asks.list) asks.work_is
      (sums_fit number table rows (sound catalog tables n tx number table s served held on.0 on.1) (rows_held s on).rows_of (rows_held s on).fit select (asked_keys s) list are on.1
      (planned catalog tables n tx number table s served held on.0 on.1))
      (ap (rows_selected (known select) select rows) are) here.job_there here.stores here.how here.ways

  select_through : (select : Select) → IsOn (statement.Select select) → GoesThrough catalog tables n tx number table (statement.Select select)
  select_through select on = select_by select select.items refl on

  insert_through : (insert : Insert) → IsOn (statement.Insert insert) → GoesThrough catalog tables n tx number table (statement.Insert insert)
  insert_through insert on =
      let s = statement.Insert insert in
      let here = comes catalog tables n tx number table s served held on.0 on.1 in
      let is_sound = sound catalog tables n tx number table s served held on.0 on.1 in
      let news : List Row = rows_of table.def insert.columns insert.rows in
      let small = table_is_small catalog number table served (named catalog tables n tx number table s served held on.0 on.1).at in
      insert_goes catalog tables n tx number table s is_sound (rows_held s on).rows_of (rows_held s on).fit on.1 (asked_keys s) (asked_are s) (pruned catalog tables n tx number table s served held on.0 on.1)
      news refl refl refl here.job_there here.stores here.how here.ways
      (λ o free.
      here.written (λ p. Puts (news_in (map (placed table.def table.rule) news) p)) (put_all table.def rows news)
      (new_rows_are_written table.def table.rule insert rows (rows_held s on).rows_of (new_rows_may_be table.def table.rule insert is_sound small on.1) (new_rows_fit table.def table.rule insert is_sound on.1)) refl o)

  update_through : (update : Update) → IsOn (statement.Update update) → GoesThrough catalog tables n tx number table (statement.Update update)
  update_through update on =
      let s = statement.Update update in
      let here = comes catalog tables n tx number table s served held on.0 on.1 in
      let sets : List SetColumn = settings table.def update.sets in
      let c : Option Cond = pushed table.def s in
      let stay = keys_stay table.def table.rule update on.1 in
      update_goes catalog tables n tx number table s (sound catalog tables n tx number table s served held on.0 on.1) (rows_held s on).rows_of (rows_held s on).fit on.1 (asked_keys s) (asked_are s)
      (pruned catalog tables n tx number table s served held on.0 on.1) sets refl refl
      (where_keeps table.def table.def.name update.cond rows (update_known table.def update (rule_passes table.def table.rule s on.1).known)) here.job_there here.stores here.how here.ways
      (λ o news set.
      let puts : List Row = changed (kept table.def c rows) news in
      here.written (λ p. Puts (news_in (map (placed table.def table.rule) puts) p)) (put_all table.def rows puts)
      (changes_are_written table.def table.rule c rows puts (own s on) (rows_held s on).rows_of (changes_may_be table.def table.rule c sets rows news (rows_held s on).rows_of stay set)
      (changes_fit table.def c sets rows news (rows_held s on).fit set) (changes_have_keys table.def sets (kept table.def c rows) news stay set)) refl o)

  delete_through : (delete : Delete) → IsOn (statement.Delete delete) → GoesThrough catalog tables n tx number table (statement.Delete delete)
  delete_through delete on =
      let s = statement.Delete delete in
      let here = comes catalog tables n tx number table s served held on.0 on.1 in
      let c : Option Cond = pushed table.def s in
      let gone : List ℤ = map (key_of table.def) (kept table.def c rows) in
      delete_goes catalog tables n tx number table s (sound catalog tables n tx number table s served held on.0 on.1) (rows_held s on).rows_of (rows_held s on).fit on.1 (asked_keys s) (asked_are s)
      (pruned catalog tables n tx number table s served held on.0 on.1) refl refl
      (where_keeps table.def table.def.name delete.cond rows (delete_known table.def delete (rule_passes table.def table.rule s on.1).known)) here.job_there here.stores here.how here.ways
      (λ o. here.written (λ p. Dels (keys_in (map (placed_key table.rule) gone) p)) (without table.def gone rows) (found_keys_are_written table.def table.rule c rows (own s on) (rows_held s on).rows_of) refl o)

-- every statement
pub statements_go_through : StatementsGoThrough
statements_go_through catalog tables n tx number table (statement.Select select) served held is passes = select_through catalog tables n tx number table served held select (is, passes)
statements_go_through catalog tables n tx number table (statement.Insert insert) served held is passes = insert_through catalog tables n tx number table served held insert (is, passes)
statements_go_through catalog tables n tx number table (statement.Update update) served held is passes = update_through catalog tables n tx number table served held update (is, passes)
statements_go_through catalog tables n tx number table (statement.Delete delete) served held is passes = delete_through catalog tables n tx number table served held delete (is, passes)
