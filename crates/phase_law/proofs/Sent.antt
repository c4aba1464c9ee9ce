-- A statement that breaks no rule, over stores that hold the plain tables: its scans, what it writes, and what its commit leaves.
use Rattle.std.proofs.Common.{◌≡◌, ℕ, ◌≤◌, ℤ, Bool, true, false, List, [], ◌∷◌, map, filter, flat_map, Option, Some, None, refl, arith, sym, ◌∙◌, ap, subst, inl, inr, cond, length}
use Rattle.std.specs.Prelude.{slice_get, option_and_then, if◌then◌else◌}
use Rattle.std.specs.List.{AllByRecursion, Contains, list_all, list_any, range_with_len}
use Rattle.std.proofs.lemmas.Bool.{false≢true, and_parts}
use Rattle.std.proofs.lemmas.Option.{same_Some}
use Rattle.sql_values.specs.declared.places.LockMode.TheVariants.{Exclusive}
use Rattle.part_rules.specs.Placing.{part_count}
use Rattle.catalog.specs.declared.link.Link.{Link}
use Rattle.catalog.specs.declared.tables.Table.{Table}
use Rattle.catalog.specs.Index.{place_in}
use Rattle.catalog.specs.Links.{is_ok}
use Rattle.catalog.specs.Views.{View, table_name}
use Rattle.catalog.specs.Views.{IsTable as IsConfigured}
use Rattle.catalog_plan.specs.Plans.{table_of}
use Rattle.sql_text.specs.declared.link.LinkAnswer.{LinkAnswer}
use Rattle.sql_text.specs.declared.statement.TableStatement.{TableStatement}
use Rattle.stmt_plan.specs.Inserts.{key_name}
use Rattle.stmt_plan.specs.Plans.{IsTable, mode_of, keeps_key}
use Rattle.stmt_plan.specs.Refusals.{refusal}
use Rattle.plain_tables.specs.Rows.{Row}
use Rattle.plain_tables.specs.Statements.{Writes}
use Rattle.plain_tables.proofs.Members.{at_front, nothing, either}
use Rattle.branch_store.specs.declared.branch.Stage.TheVariants.{Active}
use Rattle.branch_store.specs.Opening.{is_definition}
use Rattle.branch_store.specs.Store.{changed_table}
use Rattle.branch_store.proofs.Sounds.{both_of}
use Rattle.txn_phases.specs.declared.phase.Target.{Target}
use Rattle.txn_phases.specs.Phases.{scans_of, found_if}
use Rattle.front_core.proofs.Named.{is_definition as tested_definition}
use Rattle.front_core.specs.declared.event.TxNo.{TxNo}
use Rattle.front_core.specs.Asked.{pushed, parts_asked, parts_with, owns}
use Rattle.front_core.specs.Core.{is_table, table_at, table_named}
use Rattle.front_core.specs.Jobs.{branches_of, scan_for, targets_for, targets_of}
use Rattle.plain_sessions.specs.Exec.{Tables, with_rows}
use Rattle.plain_sessions.specs.Held.{CanBeServed, tables_at}
use Rattle.phase_law.specs.Laws.{AreHeld}
use Rattle.phase_law.proofs.Commits.{commit_leaves}
use Rattle.phase_law.proofs.Fits.{scan_fits, scan_finds}
use Rattle.phase_law.proofs.Lists.{slice_get_there, into_map}
use Rattle.phase_law.proofs.Places.{Place, def_there, places_at, defs_by_place, link_is_placed}
use Rattle.phase_law.proofs.Scans.{scanned, scans_are_served}
use Rattle.phase_law.proofs.Stages.{stores_as, holding, no_changes, Served}
use Rattle.phase_law.proofs.Targets.{IsLink, targets_are_links, counting_answers, parts_have_links, links_tests}
use Rattle.phase_law.proofs.Writes.{IsWritten, changes_at, requests_of}
use Rattle.phase_law.proofs.WritesServed.{AreDone, writes_are_served}

-- THE TABLE

-- the table that a name finds stands at its number, and its columns' names differ
pub record IsNamed (catalog : View) (number : ℕ) (table : Table) : Type 0 where
  pub at : slice_get catalog.tables number ≡ Some table
  pub test : is_table table.def ≡ true

found_by : (b : Bool) (number n : ℕ) (table t : Table) → cond {A = Option (ℕ × Table)} b (Some (n, t)) None ≡ Some (number, table) → (b ≡ true) × (n ≡ number) × (t ≡ table)
found_by true number n table t is =
    let pair : Some (n, t) ≡ Some (number, table) = is in
    let same = same_Some (n, t) (number, table) pair in
    (refl, ap (λ (q : ℕ × Table). q.0) same, ap (λ (q : ℕ × Table). q.1) same)
found_by false number n table t is = absurd (let no : None ≡ Some (number, table) = is in cc)

table_by : (catalog : View) (number n : ℕ) (table : Table) (o : Option Table) → slice_get catalog.tables n ≡ o
    → option_and_then {U = ℕ × Table} (λ (t : Table). if is_table t.def then Some (n, t) else None) o ≡ Some (number, table) → IsNamed catalog number table
table_by catalog number n table None at is = absurd (let no : None ≡ Some (number, table) = is in cc)
table_by catalog number n table (Some t) at is =
    let found = found_by (is_table t.def) number n table t is in
    record { at = ap (slice_get catalog.tables) (sym found.1) ∙ (at ∙ ap (λ (u : Table). Some u) found.2); test = ap (λ (u : Table). is_table u.def) (sym found.2) ∙ found.0 }

named_by : (catalog : View) (number : ℕ) (table : Table) (o : Option ℕ) → option_and_then (table_at catalog.tables) o ≡ Some (number, table) → IsNamed catalog number table
named_by catalog number table None is = absurd (let no : None ≡ Some (number, table) = is in cc)
named_by catalog number table (Some n) is = table_by catalog number n table (slice_get catalog.tables n) refl is

pub table_is_named : (catalog : View) (name : List ℕ) (number : ℕ) (table : Table) → table_named catalog.tables name ≡ Some (number, table) → IsNamed catalog number table
table_is_named catalog name number table is = named_by catalog number table (place_in (map table_name catalog.tables) name) is

each_is : {X : Type 0} (p : X → Bool) (xs : List X) (x : X) → list_all p xs ≡ true → Contains xs x → p x ≡ true
each_is p [] x all c = nothing x c
each_is p (y ∷ xs) x all c =
    let both = and_parts (p y) (list_all p xs) all in
    elim (either y x xs c) [
      | inl same ↦ ap p (sym same) ∙ both.0
      | inr later ↦ each_is p xs x both.1 later
    ]

some_link : (links : List Link) → list_any (λ (l : Link). is_ok l.first) links ≡ true → (l : Link) × Contains links l
some_link [] any = absurd (false≢true any)
some_link (l ∷ links) any = (l, at_front l links)

-- a table of the configuration is one that a backend can have: each of its links' tables is
pub table_is_small : (catalog : View) (number : ℕ) (table : Table) → CanBeServed catalog → slice_get catalog.tables number ≡ Some table → is_definition table.def ≡ true
table_is_small catalog number table served at =
    let made : IsConfigured (length catalog.servers) table = served.tables number table at in
    let some_part : 1 ≤ part_count table.rule = made.rule.0 in
    let first = slice_get_there table.parts 0 (omega (arith, made.parts, some_part)) in
    let link = some_link first.0.links (links_tests (length catalog.servers) first.0.links (made.links 0 first.0 first.1)).0 in
    let place : Place = record { number = number; table = table; part = 0; link = link.0 } in
    let there : Contains (places_at catalog link.0.server) place = link_is_placed catalog number table 0 first.0 link.0 at first.1 link.1 in
    let all : list_all is_definition (map def_there (places_at catalog link.0.server)) ≡ true =
    subst (λ defs. list_all is_definition defs ≡ true) (defs_by_place catalog link.0.server) (both_of _ _ (served.held link.0.server)).1 in
    each_is is_definition (map def_there (places_at catalog link.0.server)) (def_there place) all (into_map def_there (places_at catalog link.0.server) place there)

pub table_is_sound : (catalog : View) (number : ℕ) (table : Table) → CanBeServed catalog → IsNamed catalog number table → IsTable table.def
table_is_sound catalog number table served is = tested_definition table.def is.test

-- WHAT IS SENT

module _ (catalog : View) (tables : Tables) (n : ℕ) (tx : TxNo) (number : ℕ) (table : Table) (s : TableStatement) (served : CanBeServed catalog) (held : AreHeld catalog tables)
    (is : table_named catalog.tables (table_of s) ≡ Some (number, table)) (passes : refusal table.def table.rule s ≡ None) where
  named : IsNamed catalog number table
  named = table_is_named catalog (table_of s) number table is

  sound : IsTable table.def
  sound = table_is_sound catalog number table served named

  abbrev asked : List Target
  asked = targets_for table s

  pub asked_links : (t : Target) → Contains asked t → IsLink table.parts t
  asked_links t c = targets_are_links (mode_of s) table.parts (parts_asked table.def table.rule s) t c

  -- the scans are answered by what they ask of each partition
  pub statement_scans : Served n (stores_as (length catalog.servers) (tables_at catalog tables) (holding n (branches_of catalog tx asked) Active no_changes)) (scans_of (scan_for table.def s) asked)
      (map (scanned table tables number (scan_for table.def s)) asked) (stores_as (length catalog.servers) (tables_at catalog tables) (holding n (branches_of catalog tx asked) Active no_changes))
  statement_scans =
      scans_are_served catalog tables tx n number table asked (scan_for table.def s) served named.at asked_links (λ t c. scan_fits table s t sound passes) (λ t c. scan_finds table s t sound passes)

  -- of each partition that is asked the answer of one link counts, in the order of the partitions
  pub statement_counts : (f : ℕ → LinkAnswer) → flat_map (λ (t : Target). found_if t.counts (f t.part)) asked ≡ map f (parts_asked table.def table.rule s)
  statement_counts f =
      counting_answers (length catalog.servers) (mode_of s) table.parts (parts_asked table.def table.rule s) f (λ p c. parts_have_links (length catalog.servers) table s p (served.tables number table named.at) c)

  -- the keys on which the condition may hold
  abbrev test : ℤ → Bool
  test = keeps_key table.def (pushed table.def s)

  module _ (w : ℕ → Writes) (left : List Row) (written : IsWritten table.def table.rule (owns table.rule test) (tables number) w left) where
    -- what is written is done
    pub statement_writes : AreDone n (stores_as (length catalog.servers) (tables_at catalog tables) (holding n (branches_of catalog tx asked) Active no_changes)) (requests_of (key_name table.def) asked w)
        (stores_as (length catalog.servers) (tables_at catalog tables) (holding n (branches_of catalog tx asked) Active (changes_at asked w)))
    statement_writes = writes_are_served catalog tables tx n number table asked w served named.at asked_links written.fit

    -- and where all links were asked, its commit leaves the plain tables with what is left
    pub statement_commits : (server : ℕ) → mode_of s ≡ Exclusive → map (changed_table (changes_at asked w server)) (tables_at catalog tables server) ≡ tables_at catalog (with_rows tables number left) server
    unfolding parts_with
    statement_commits server exclusive =
        let parts_are : length table.parts ≡ part_count table.rule = (served.tables number table named.at).parts in
        let targets : asked ≡ targets_of Exclusive table.parts (filter (owns table.rule test) (range_with_len 0 (length table.parts))) =
        ap (λ m. targets_of m table.parts (parts_asked table.def table.rule s)) exclusive ∙ ap (λ k. targets_of Exclusive table.parts (filter (owns table.rule test) (range_with_len 0 k))) (sym parts_are) in
        ap (λ ts. map (changed_table (changes_at ts w server)) (tables_at catalog tables server)) targets
        ∙ commit_leaves catalog tables number table w left named.at written.leaves server (owns table.rule test) served written.elsewhere
