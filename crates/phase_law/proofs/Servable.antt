-- A configuration's tables are tables that its servers can hold.
use Rattle.std.proofs.Common.{◌≡◌, ◌≤◌, ℕ, Bool, true, false, ◌&&◌, List, [], ◌∷◌, Option, Some, None, length, nat_le, nat_lt, refl, sym, ap, ◌∙◌, arith, cond, subst, slice_get, suc, get_or, ◌==◌}
use Rattle.std.specs.List.{AllByRecursion, cons_option, filter_map, flat_map, list_all, list_any}
use Rattle.std.specs.Option.{option_and_then, option_map, option_map_or, option_zip}
use Rattle.std.specs.Result.{result_ok}
use Rattle.std.proofs.lemmas.Bool.Decides.{nat_tests}
use Rattle.std.proofs.lemmas.List.Folds.{list_all-append}
use Rattle.std.proofs.lemmas.Option.{same_Some, slice_get-get_or}
use Rattle.sql_values.specs.declared.table.ColumnDef.{ColumnDef}
use Rattle.sql_values.specs.declared.table.Kind.TheVariants.{BigInt}
use Rattle.sql_values.specs.declared.table.TableDef.{TableDef}
use Rattle.conf_file.specs.declared.entries.ConfFile.{ConfFile}
use Rattle.conf_file.specs.declared.entries.HostEntry.{HostEntry}
use Rattle.conf_file.specs.declared.entries.TableEntry.{TableEntry}
use Rattle.conf_file.specs.Counts.{has_too_many_columns, too_many}
use Rattle.conf_file.specs.Entries.{file_of}
use Rattle.conf_file.specs.Files.{IsRead}
use Rattle.catalog.specs.declared.link.Link.{Link}
use Rattle.catalog.specs.declared.tables.Part.{Part}
use Rattle.catalog.specs.declared.tables.Table.{Table}
use Rattle.catalog.specs.Columns.{column_text, columns_of, def_of, defined, key_place, keyed}
use Rattle.catalog.specs.Files.{broken, broken_table}
use Rattle.catalog.specs.Searches.{each, name_of}
use Rattle.catalog.specs.Shared.{shared, shared_by, shared_remote}
use Rattle.catalog.specs.Tables.{catalog_entries, made, parts_by, said, server_names, table_of, table_with}
use Rattle.catalog.specs.Rules.{rule_of}
use Rattle.catalog.specs.Views.{AreTables, IsTable, part_defs, remote_def, remote_defs, table_defs}
use Rattle.catalog.proofs.Breaking.{entries_sound}
use Rattle.catalog.proofs.Options.{PutFrom, each_length, mapped, neither, put_some, there, zipped}
use Rattle.stmt_plan.specs.Apart.{has_number_key, is_number_kind}
use Rattle.plain_tables.proofs.Scanned.{unmapped}
use Rattle.branch_store.specs.Opening.{are_apart, is_definition}
use Rattle.phase_law.specs.Laws.{ConfigurationsCanBeServed}
use Rattle.phase_law.proofs.Apart.{joint_all, or_false}
use Rattle.phase_law.proofs.Remotes.{remotes_apart}

-- THE TABLES HAVE FEW COLUMNS

passed : {X : Type 0} (b : Bool) (x : X) (o : Option X) → cond b (Some x) o ≡ None → (b ≡ false) × (o ≡ None)
passed true x o h = let no : ⊥ = cc in absurd no
passed false x o h = (refl, h)

few_by : (file : ConfFile) → too_many file ≡ None → list_any has_too_many_columns file.tables ≡ false
few_by file none =
    let servers = passed (nat_lt 16 (length file.servers)) _ _ none in
    let monitors = passed (nat_lt 9 (length file.monitors)) _ _ servers.1 in
    let tables = passed (nat_lt 64 (length file.tables)) _ _ monitors.1 in
    (passed (list_any has_too_many_columns file.tables) _ _ tables.1).0

few_columns : (bytes : List ℕ) (file : ConfFile) → IsRead bytes file → list_any has_too_many_columns file.tables ≡ false
few_columns bytes file read = subst (λ (f : ConfFile). list_any has_too_many_columns f.tables ≡ false) (sym read.2.3.3) (few_by (file_of read.0) read.2.3.2)

table_def : (servers : List (List ℕ)) (entry : TableEntry) (table : Table) → table_of servers entry ≡ Some table → def_of entry ≡ Some table.def
unfolding table_of
table_def servers entry table h =
    let own = there (table_with servers entry) (result_ok (said entry.comment)) table h in
    let all = mapped made (option_zip (def_of entry) (option_zip (rule_of entry) (parts_by servers entry.name own.at entry.parts))) table own.gives in
    (zipped (def_of entry) (option_zip (rule_of entry) (parts_by servers entry.name own.at entry.parts)) all.at all.is).0 ∙ ap (λ (t : Table). Some t.def) all.gives

def_columns : (entry : TableEntry) (def : TableDef) → def_of entry ≡ Some def → length def.columns ≡ length entry.columns
unfolding def_of
def_columns entry def h =
    let named = there (defined entry) (name_of entry.name) def h in
    let read = there (keyed named.at entry.key) (columns_of entry) def named.gives in
    let placed = mapped (λ (place : ℕ). record { name = named.at; columns = read.at; key = place }) (key_place entry.key read.at) def read.gives in
    sym (ap (λ (d : TableDef). length d.columns) placed.gives) ∙ each_length column_text entry.columns read.at read.is

few_of : (servers : List (List ℕ)) (entry : TableEntry) (table : Table) → has_too_many_columns entry ≡ false → table_of servers entry ≡ Some table → length table.def.columns ≤ 16
few_of servers entry table few h =
    let same : length table.def.columns ≡ length entry.columns = def_columns entry table.def (table_def servers entry table h) in
    let most : length entry.columns ≤ 16 = grind (arith, nat_tests) in
    omega arith

all_few : (servers : List (List ℕ)) (entries : List TableEntry) (tables : List Table) → each (table_of servers) entries ≡ Some tables → list_any has_too_many_columns entries ≡ false → AllByRecursion (λ (t : Table). length t.def.columns ≤ 16) tables
all_few servers [] tables h few = subst (AllByRecursion (λ (t : Table). length t.def.columns ≤ 16)) (same_Some [] tables h) tt
all_few servers (entry ∷ entries) tables h few =
    let p : PutFrom (table_of servers entry) (each (table_of servers) entries) tables = put_some (table_of servers entry) (each (table_of servers) entries) tables h in
    let two = or_false (has_too_many_columns entry) (list_any has_too_many_columns entries) few in
    subst (AllByRecursion (λ (t : Table). length t.def.columns ≤ 16)) p.both (few_of servers entry p.head two.0 p.head_is, all_few servers entries p.rest p.rest_is two.1)

-- THE DEFINITIONS

all_at : {X : Type 0} {P : X → Type 0} (xs : List X) → ((i : ℕ) (x : X) → slice_get xs i ≡ Some x → P x) → AllByRecursion P xs
all_at [] each_is = tt
all_at (x ∷ xs) each_is = (each_is 0 x refl, all_at xs (λ i y at. each_is (suc i) y at))

number_key : (servers : ℕ) (table : Table) → IsTable servers table → has_number_key table.def ≡ true
number_key servers table sound =
    let none : ColumnDef = record { name = []; kind = BigInt } in
    let at : slice_get table.def.columns table.def.key ≡ Some (get_or table.def.columns table.def.key none) = slice_get-get_or table.def.columns table.def.key none sound.key_within in
    ap (λ o. option_map_or (λ (column : ColumnDef). is_number_kind column.kind) o false) at ∙ ap is_number_kind (sound.key (get_or table.def.columns table.def.key none) at)

defined_by : (servers : ℕ) (table : Table) → IsTable servers table → length table.def.columns ≤ 16 → is_definition table.def ≡ true
defined_by servers table sound few =
    let most : nat_le (length table.def.columns) 16 ≡ true = grind (arith, nat_tests) in
    ap (λ b. b && has_number_key table.def) most ∙ number_key servers table sound

both_true : (a b : Bool) → a ≡ true → b ≡ true → (a && b) ≡ true
both_true a b is also = ap (λ x. x && b) is ∙ also

module _ (s : ℕ) where
  part_defined : (def : TableDef) → is_definition def ≡ true → (links : List Link) → list_all is_definition (filter_map (remote_def s def) links) ≡ true
  part_defined def is [] = refl
  part_defined def is (link ∷ links) = by (link.server == s) (part_defined def is links)
    where
      by : (b : Bool) → list_all is_definition (filter_map (remote_def s def) links) ≡ true → list_all is_definition (cons_option (cond b (Some (record def { name = link.remote })) None) (filter_map (remote_def s def) links)) ≡ true
      by true rest = both_true (is_definition def) (list_all is_definition (filter_map (remote_def s def) links)) is rest
      by false rest = rest

  table_defined : (def : TableDef) → is_definition def ≡ true → (parts : List Part) → list_all is_definition (flat_map (part_defs s def) parts) ≡ true
  table_defined def is [] = refl
  table_defined def is (part ∷ parts) =
      list_all-append is_definition (part_defs s def part) (flat_map (part_defs s def) parts)
      ∙ both_true (list_all is_definition (part_defs s def part)) (list_all is_definition (flat_map (part_defs s def) parts)) (part_defined def is part.links) (table_defined def is parts)

  all_defined : (tables : List Table) → AllByRecursion (λ (t : Table). is_definition t.def ≡ true) tables → list_all is_definition (remote_defs s tables) ≡ true
  all_defined [] all = refl
  all_defined (table ∷ tables) (is, all) =
      list_all-append is_definition (table_defs s table) (remote_defs s tables)
      ∙ both_true (list_all is_definition (table_defs s table)) (list_all is_definition (remote_defs s tables)) (table_defined table.def is table.parts) (all_defined tables all)

-- A CONFIGURATION

none_is_shared : (file : ConfFile) (tables : List Table) → broken file ≡ None → catalog_entries file ≡ Some tables → shared tables ≡ None
unfolding broken
none_is_shared file tables unbroken entries =
    let two = neither (broken_table file) (option_and_then (shared_remote file.servers) (catalog_entries file)) unbroken in
    let apart : shared_remote file.servers tables ≡ None = sym (ap (option_and_then (shared_remote file.servers)) entries) ∙ two.1 in
    unmapped (shared_by file.servers) (shared tables) apart

pub configurations_can_be_served : ConfigurationsCanBeServed
configurations_can_be_served conf catalog given =
    let file : ConfFile = given.file in
    let entries : catalog_entries file ≡ Some catalog.tables = given.given.tables in
    let sound : AreTables (length catalog.servers) catalog.tables = subst (λ (hosts : List HostEntry). AreTables (length hosts) catalog.tables) (sym given.given.servers) (entries_sound file catalog.tables entries) in
    let few : AllByRecursion (λ (t : Table). length t.def.columns ≤ 16) catalog.tables = all_few (server_names file) file.tables catalog.tables entries (few_columns conf file given.read) in
    let sounds : AllByRecursion (IsTable (length catalog.servers)) catalog.tables = all_at catalog.tables sound in
    let are : AllByRecursion (λ (t : Table). is_definition t.def ≡ true) catalog.tables = joint_all (defined_by (length catalog.servers)) catalog.tables sounds few in
    record {
      tables = sound;
      held = λ server.
          both_true (are_apart (remote_defs server catalog.tables)) (list_all is_definition (remote_defs server catalog.tables))
          (remotes_apart catalog.tables (none_is_shared file catalog.tables given.unbroken entries) server) (all_defined server catalog.tables are);
    }
