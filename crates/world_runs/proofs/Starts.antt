-- The stores as they start hold the plain tables without rows.
use Rattle.std.proofs.Common.{◌≡◌, ℕ, ◌+◌, List, [], ◌∷◌, ◌++◌, Bool, true, false, cond, Option, Some, None, map, length, refl, sym, ap, ◌∙◌, subst}
use Rattle.std.specs.Prelude.{◌==◌}
use Rattle.std.specs.List.{filter_map, flat_map, range_with_len}
use Rattle.std.proofs.lemmas.List.{map-append}
use Rattle.sql_values.specs.declared.table.TableDef.{TableDef}
use Rattle.catalog.specs.declared.link.Link.{Link}
use Rattle.catalog.specs.declared.tables.Part.{Part}
use Rattle.catalog.specs.declared.tables.Table.{Table}
use Rattle.catalog.specs.Views.{View, remote_def, part_defs, table_defs, remote_defs}
use Rattle.branch_store.specs.Laws.{at_rest}
use Rattle.branch_store.specs.Opening.{empty_table, empty_tables}
use Rattle.branch_store.specs.Tables as backend
use Rattle.front_core.specs.Jobs.{is_ng}
use Rattle.std.specs.List.Sorted.{IsStrictlySortedBy}
use Rattle.plain_tables.specs.Partitions.{rows_in}
use Rattle.plain_tables.specs.Rows.{Rises}
use Rattle.plain_sessions.specs.Exec.{no_rows}
use Rattle.plain_sessions.specs.Held.{link_table, rows_by, part_tables, tables_from, stores_of}
use Rattle.phase_law.specs.Laws.{AreHeld, IsHeld}
use Rattle.world_runs.specs.World.{new_stores}

link_start : (server : ℕ) (def : TableDef) (link : Link) (links : List Link) (b ng : Bool) → (link.server == server) ≡ b → is_ng link.first ≡ ng
    → map empty_table (filter_map (remote_def server def) links) ≡ filter_map (link_table server def []) links
    → map empty_table (filter_map (remote_def server def) (link ∷ links)) ≡ filter_map (link_table server def []) (link ∷ links)
link_start server def link links true true h k more = rw h (rw k (ap (λ l. empty_table (record def { name = link.remote }) ∷ l) more))
link_start server def link links true false h k more = rw h (rw k (ap (λ l. empty_table (record def { name = link.remote }) ∷ l) more))
link_start server def link links false ng h k more = rw h more

links_start : (server : ℕ) (def : TableDef) (links : List Link) → map empty_table (filter_map (remote_def server def) links) ≡ filter_map (link_table server def []) links
links_start server def [] = refl
links_start server def (link ∷ links) = link_start server def link links (link.server == server) (is_ng link.first) refl refl (links_start server def links)

parts_start : (server : ℕ) (table : Table) (p : ℕ) (parts : List Part) → map empty_table (flat_map (part_defs server table.def) parts) ≡ part_tables server table [] p parts
parts_start server table p [] = refl
parts_start server table p (part ∷ parts) =
    map-append empty_table (part_defs server table.def part) (flat_map (part_defs server table.def) parts)
    ∙ ap (λ l. l ++ map empty_table (flat_map (part_defs server table.def) parts)) (links_start server table.def part.links)
    ∙ ap (λ l. filter_map (link_table server table.def []) part.links ++ l) (parts_start server table (p + 1) parts)

tables_start : (server n : ℕ) (tables : List Table) → empty_tables (remote_defs server tables) ≡ tables_from server no_rows n tables
tables_start server n [] = refl
tables_start server n (table ∷ tables) =
    map-append empty_table (table_defs server table) (flat_map (table_defs server) tables)
    ∙ ap (λ l. l ++ map empty_table (flat_map (table_defs server) tables)) (parts_start server table 0 table.parts)
    ∙ ap (λ l. part_tables server table [] 0 table.parts ++ l) (tables_start server (n + 1) tables)

same_map : {A B : Type 0} (f g : A → B) (xs : List A) → ((x : A) → f x ≡ g x) → map f xs ≡ map g xs
same_map f g [] h = refl
same_map f g (x ∷ xs) h = ap (λ y. y ∷ map f xs) (h x) ∙ ap (λ ys. g x ∷ ys) (same_map f g xs h)

pub stores_start : (catalog : View) → new_stores catalog ≡ stores_of catalog no_rows
stores_start catalog = same_map _ _ (range_with_len 0 (length catalog.servers)) (λ server. ap at_rest (tables_start server 0 catalog.tables))

none_rise : (def : TableDef) → Rises def []
unfolding IsStrictlySortedBy
none_rise def = tt

-- no rows are a table's
pub none_held : (catalog : View) → AreHeld catalog no_rows
none_held catalog number table at = record { rows_of = record { rises = none_rise table.def; keyed = tt; placed = tt }; fit = tt }
