-- What a statement leaves of the plain tables is tables.
use Rattle.std.proofs.Common.{◌≡◌, ℕ, ℤ, ◌==◌, Bool, true, false, not, List, [], ◌∷◌, map, Option, Some, None, Result, Ok, Err, refl, sym, ◌∙◌, ap, subst, inl, inr, cond}
use Rattle.std.specs.Prelude.{slice_get}
use Rattle.std.specs.List.{AllByRecursion, list_any}
use Rattle.std.specs.Ordering.{int_eq}
use Rattle.sql_values.specs.declared.table.TableDef.{TableDef}
use Rattle.sql_values.specs.declared.tree.Cond.{Cond}
use Rattle.sql_text.specs.declared.fault.ParseFault.{ParseFault}
use Rattle.sql_text.specs.declared.statement.Insert.{Insert}
use Rattle.sql_text.specs.declared.statement.Statement.{Statement}
use Rattle.sql_text.specs.declared.statement.Statement.TheVariants as client
use Rattle.sql_text.specs.declared.statement.TableStatement.{TableStatement}
use Rattle.sql_text.specs.declared.statement.TableStatement.TheVariants as statement
use Rattle.sql_text.specs.Parsing.{parsed}
use Rattle.catalog.specs.declared.tables.Table.{Table}
use Rattle.catalog.specs.Views.{View}
use Rattle.catalog_plan.specs.Plans.{table_of}
use Rattle.stmt_plan.specs.declared.fault.RowFault.{RowFault}
use Rattle.stmt_plan.specs.declared.fault.StmtFault.{StmtFault}
use Rattle.stmt_plan.specs.declared.planned.SetColumn.{SetColumn}
use Rattle.stmt_plan.specs.declared.planned.Work.{Work}
use Rattle.stmt_plan.specs.Inserts.{rows_of}
use Rattle.stmt_plan.specs.Plans.{work_of}
use Rattle.stmt_plan.specs.Refusals.{refusal}
use Rattle.stmt_plan.specs.Settings.{sets_key, settings}
use Rattle.plain_tables.specs.Inserts.{first_taken, has_row, put, put_all, without, AreRows}
use Rattle.plain_tables.specs.Rows.{Row, key_of, kept, FitsColumns}
use Rattle.plain_tables.specs.Statements.{Answer, done_by, executed, executed_by, inserted_by, updated_by}
use Rattle.plain_tables.specs.Updates.{changed, set_rows}
use Rattle.plain_tables.proofs.Deleted.{deletions_keep_tables, rows_with_keys_go}
use Rattle.plain_tables.proofs.Inserted.{in_put, puts_keep_tables}
use Rattle.plain_tables.proofs.Members.{all_of, all_by}
use Rattle.front_core.specs.Core.{table_named}
use Rattle.plain_sessions.specs.Exec.{Tables, with_rows, limit_passed, within_limit, exec_on, exec_at, exec_one, exec_by, exec}
use Rattle.plain_sessions.specs.Held.{CanBeServed}
use Rattle.phase_law.specs.Laws.{IsHeld, AreHeld, StatementsKeepTables}
use Rattle.phase_law.proofs.Dels.{rest_have}
use Rattle.phase_law.proofs.Fits.{keys_stay}
use Rattle.phase_law.proofs.Lists.{is_same}
use Rattle.phase_law.proofs.RowsFit.{new_rows_fit, new_rows_may_be}
use Rattle.phase_law.proofs.Sent.{IsNamed, table_is_named, table_is_small, table_is_sound}
use Rattle.phase_law.proofs.Updated.{changes_fit, changes_may_be}

-- ROWS PUT, AND ROWS THAT GO

put_have : (def : TableDef) (P : Row → Type 0) (rows : List Row) (row : Row) → AllByRecursion P rows → P row → AllByRecursion P (put def rows row)
put_have def P rows row all here = all_by P (put def rows row) (λ z c. elim (in_put def rows row z c) [
  | inl same ↦ subst P same here
  | inr old ↦ all_of P rows z all old.0
])

put_all_have : (def : TableDef) (P : Row → Type 0) (rows news : List Row) → AllByRecursion P rows → AllByRecursion P news → AllByRecursion P (put_all def rows news)
unfolding put_all
put_all_have def P rows [] all news = all
put_all_have def P rows (new ∷ more) all news = put_all_have def P (put def rows new) more (put_have def P rows new all news.0) news.1

-- a table into which rows were put is a table
puts_are_held : (table : Table) (rows news : List Row) → AreRows table.def table.rule news → AllByRecursion (FitsColumns table.def) news → IsHeld table rows → IsHeld table (put_all table.def rows news)
puts_are_held table rows news are fit held = record {
  rows_of = puts_keep_tables table.def table.rule rows news held.rows_of are;
  fit = put_all_have table.def (FitsColumns table.def) rows news held.fit fit;
}

-- and so is one from which rows went
rest_is_held : (table : Table) (keys : List ℤ) (rows : List Row) → IsHeld table rows → IsHeld table (without table.def keys rows)
rest_is_held table keys rows held = record {
  rows_of = deletions_keep_tables table.def table.rule rows keys held.rows_of;
  fit = rest_have (FitsColumns table.def) (λ row. not (list_any (int_eq (key_of table.def row)) keys)) rows held.fit;
}

-- WHAT A STATEMENT LEAVES

insert_held : (table : Table) (rows news : List Row) (taken : Option ℤ) → IsHeld table rows → IsHeld table (put_all table.def rows news) → IsHeld table (inserted_by table.def rows news taken).1
insert_held table rows news (Some key) held more = held
insert_held table rows news None held more = more

module _ (catalog : View) (number : ℕ) (table : Table) (rows : List Row) (served : CanBeServed catalog) (named : IsNamed catalog number table) (held : IsHeld table rows) where
  -- the new rows of an INSERT that breaks no rule, put into a table
  added_held : (insert : Insert) → refusal table.def table.rule (statement.Insert insert) ≡ None → IsHeld table (put_all table.def rows (rows_of table.def insert.columns insert.rows))
  added_held insert passes =
      let sound = table_is_sound catalog number table served named in
      puts_are_held table rows (rows_of table.def insert.columns insert.rows)
      (new_rows_may_be table.def table.rule insert sound (table_is_small catalog number table served named.at) passes) (new_rows_fit table.def table.rule insert sound passes) held

  -- rows of the table, as an UPDATE sets them
  set_held : (cond : Option Cond) (sets : List SetColumn) (r : Result (List Row) RowFault) → sets_key table.def sets ≡ false → set_rows table.def sets 1 (kept table.def cond rows) ≡ r
      → IsHeld table (updated_by table.def rows (kept table.def cond rows) r).1
  set_held cond sets (Err fault) stays set = held
  set_held cond sets (Ok news) stays set =
      puts_are_held table rows (changed (kept table.def cond rows) news) (changes_may_be table.def table.rule cond sets rows news held.rows_of stays set) (changes_fit table.def cond sets rows news held.fit set) held

  done_held : (s : TableStatement) → refusal table.def table.rule s ≡ None → IsHeld table (done_by table.def s rows).1
  done_held (statement.Insert insert) passes =
      let news : List Row = rows_of table.def insert.columns insert.rows in
      insert_held table rows news (first_taken (has_row table.def rows) (map (key_of table.def) news)) held (added_held insert passes)
  done_held (statement.Select select) passes = held
  done_held (statement.Update update) passes =
      let sets : List SetColumn = settings table.def update.sets in
      set_held update.cond sets (set_rows table.def sets 1 (kept table.def update.cond rows)) (keys_stay table.def table.rule update passes) refl
  done_held (statement.Delete delete) passes =
      subst (IsHeld table) (sym (rows_with_keys_go table.def delete.cond rows held.rows_of.rises)) (rest_is_held table (map (key_of table.def) (kept table.def delete.cond rows)) rows held)

  executed_held : (s : TableStatement) (o : Option StmtFault) → refusal table.def table.rule s ≡ o → IsHeld table (executed_by table.def s rows o).1
  executed_held s (Some fault) refused = held
  executed_held s None passes = done_held s passes

  limit_held : (w : Work) (e : Answer × List Row) (limit : Option (List ℕ)) → IsHeld table e.1 → IsHeld table (within_limit table.def w rows e limit).1
  limit_held w e (Some limit) left = held
  limit_held w e None left = left

  -- what a statement leaves of a table is one
  pub exec_held : (s : TableStatement) → IsHeld table (exec_on table s rows).1
  exec_held s =
      let e : Answer × List Row = executed table.def table.rule s rows in
      limit_held (work_of table.def s) e (limit_passed table s rows e.0) (executed_held s (refusal table.def table.rule s) refl)

-- tables with other rows in one of them
pub with_held : (catalog : View) (tables : Tables) (number : ℕ) (table : Table) (rows : List Row) → AreHeld catalog tables → slice_get catalog.tables number ≡ Some table → IsHeld table rows → AreHeld catalog (with_rows tables number rows)
with_held catalog tables number table rows held at here n other there = by_number (n == number) refl
  where
    by_number : (b : Bool) → (n == number) ≡ b → IsHeld other (cond b rows (tables n))
    by_number true same =
        let twice : Some other ≡ Some table = sym there ∙ (ap (slice_get catalog.tables) (is_same n number same) ∙ at) in
        let is : other ≡ table = cc in
        subst (λ (t : Table). IsHeld t rows) (sym is) here
    by_number false apart = held n other there

on_named : (catalog : View) (tables : Tables) (s : TableStatement) (number : ℕ) (table : Table) → CanBeServed catalog → AreHeld catalog tables → table_named catalog.tables (table_of s) ≡ Some (number, table)
    → AreHeld catalog (with_rows tables number (exec_on table s (tables number)).1)
on_named catalog tables s number table served held is =
    let named = table_is_named catalog (table_of s) number table is in
    with_held catalog tables number table (exec_on table s (tables number)).1 held named.at (exec_held catalog number table (tables number) served named (held number table named.at) s)

at_table : (catalog : View) (tables : Tables) (s : TableStatement) (o : Option (ℕ × Table)) → CanBeServed catalog → AreHeld catalog tables → table_named catalog.tables (table_of s) ≡ o → AreHeld catalog (exec_at tables s o).1
at_table catalog tables s None served held is = held
at_table catalog tables s (Some (number, table)) served held is = on_named catalog tables s number table served held is

by_one : (catalog : View) (tables : Tables) (s : Statement) → CanBeServed catalog → AreHeld catalog tables → AreHeld catalog (exec_one catalog tables s).1
by_one catalog tables (client.Table s) served held = at_table catalog tables s (table_named catalog.tables (table_of s)) served held refl
by_one catalog tables (client.Admin admin) served held = held

by_text : (catalog : View) (tables : Tables) (r : Result Statement ParseFault) → CanBeServed catalog → AreHeld catalog tables → AreHeld catalog (exec_by catalog tables r).1
by_text catalog tables (Err fault) served held = held
by_text catalog tables (Ok s) served held = by_one catalog tables s served held

pub statements_keep_tables : StatementsKeepTables
unfolding exec
statements_keep_tables catalog tables text served held = by_text catalog tables (parsed text) served held
