-- The tables of a server, link by link, and which of them a name finds.
use Rattle.std.proofs.Common.{◌≡◌, ℕ, suc, zero, ◌+◌, ◌==◌, not, ◌||◌, Bool, true, false, List, [], ◌∷◌, ◌++◌, map, Some, None, refl, arith, sym, ◌∙◌, ap, subst, inl, inr, cond, find, flat_map, filter_map}
use Rattle.std.specs.Prelude.{slice_get, if◌then◌else◌}
use Rattle.std.specs.List.{Contains, cons_option, list_any}
use Rattle.std.specs.Cmp.Lexicographic.{nat_list_eq_equiv}
use Rattle.std.proofs.lemmas.Bool.{false≢true}
use Rattle.std.proofs.lemmas.List.{map-append}
use Rattle.std.proofs.lemmas.List.Elements.{Contains-append_left, Contains-append_right, Contains-append_cases}
use Rattle.sql_values.specs.declared.table.TableDef.{TableDef}
use Rattle.catalog.specs.declared.link.Link.{Link}
use Rattle.catalog.specs.declared.tables.Part.{Part}
use Rattle.catalog.specs.declared.tables.Table.{Table}
use Rattle.catalog.specs.Views.{View, remote_def, part_defs, remote_defs}
use Rattle.plain_tables.specs.Partitions.{rows_in}
use Rattle.plain_tables.proofs.Members.{at_front, either, nothing, from_list}
use Rattle.branch_store.specs.Changes.{is_called}
use Rattle.branch_store.specs.Opening.{are_apart}
use Rattle.branch_store.specs.Tables as backend
use Rattle.branch_store.proofs.Sounds.{both_of}
use Rattle.plain_sessions.specs.Exec.{Tables}
use Rattle.plain_sessions.specs.Held.{CanBeServed, rows_by, link_table, part_tables, tables_from, tables_at}
use Rattle.phase_law.proofs.Lists.{is_itself, into_map}

-- LINKS WITH THEIR PLACES

-- a link, of that partition of that table
pub record Place : Type 0 where
  pub number : ℕ
  pub table : Table
  pub part : ℕ
  pub link : Link

abbrev pub place_there : ℕ → ℕ → Table → ℕ → Link → List Place
place_there server number table p link = if link.server == server then record { number = number; table = table; part = p; link = link } ∷ [] else []

abbrev pub link_places : ℕ → ℕ → Table → ℕ → List Link → List Place
link_places server number table p links = flat_map (place_there server number table p) links

abbrev pub part_places : ℕ → ℕ → Table → ℕ → List Part → List Place
part_places server number table p [] = []
part_places server number table p (part ∷ parts) = link_places server number table p part.links ++ part_places server number table (p + 1) parts

abbrev pub places_from : ℕ → ℕ → List Table → List Place
places_from server n [] = []
places_from server n (table ∷ more) = part_places server n table 0 table.parts ++ places_from server (n + 1) more

-- the links on a server, in catalog order
abbrev pub places_at : View → ℕ → List Place
places_at catalog server = places_from server 0 catalog.tables

-- a link's table under its name there, and with its rows
abbrev pub def_there : Place → TableDef
def_there x = record x.table.def { name = x.link.remote }

abbrev pub held_there : Tables → Place → backend.Table
held_there tables x = record { def = def_there x; rows = rows_by x.link.first (rows_in x.table.def x.table.rule x.part (tables x.number)) }

-- THE TABLES ARE THEIRS

option_step : {X Y : Type 0} (f : X → Y) (b : Bool) (x : X) (xs : List X) (ys : List Y) → ys ≡ map f xs → cons_option (cond b (Some (f x)) None) ys ≡ map f (cond b (x ∷ []) [] ++ xs)
option_step f true x xs ys same = ap (λ l. f x ∷ l) same
option_step f false x xs ys same = same

links_held : (tables : Tables) (server number : ℕ) (table : Table) (p : ℕ) (links : List Link)
    → filter_map (link_table server table.def (rows_in table.def table.rule p (tables number))) links ≡ map (held_there tables) (link_places server number table p links)
links_held tables server number table p [] = refl
links_held tables server number table p (link ∷ links) =
    option_step (held_there tables) (link.server == server) (record { number = number; table = table; part = p; link = link }) (link_places server number table p links) _ (links_held tables server number table p links)

parts_held : (tables : Tables) (server number : ℕ) (table : Table) (p : ℕ) (parts : List Part) → part_tables server table (tables number) p parts ≡ map (held_there tables) (part_places server number table p parts)
parts_held tables server number table p [] = refl
parts_held tables server number table p (part ∷ parts) =
    ap (λ l. l ++ part_tables server table (tables number) (p + 1) parts) (links_held tables server number table p part.links)
    ∙ (ap (λ l. map (held_there tables) (link_places server number table p part.links) ++ l) (parts_held tables server number table (p + 1) parts)
    ∙ sym (map-append (held_there tables) (link_places server number table p part.links) (part_places server number table (p + 1) parts)))

all_held : (tables : Tables) (server n : ℕ) (list : List Table) → tables_from server tables n list ≡ map (held_there tables) (places_from server n list)
all_held tables server n [] = refl
all_held tables server n (table ∷ more) =
    ap (λ l. l ++ tables_from server tables (n + 1) more) (parts_held tables server n table 0 table.parts)
    ∙ (ap (λ l. map (held_there tables) (part_places server n table 0 table.parts) ++ l) (all_held tables server (n + 1) more)
    ∙ sym (map-append (held_there tables) (part_places server n table 0 table.parts) (places_from server (n + 1) more)))

-- what a server holds, link by link
pub tables_by_place : (catalog : View) (tables : Tables) (server : ℕ) → tables_at catalog tables server ≡ map (held_there tables) (places_at catalog server)
tables_by_place catalog tables server = all_held tables server 0 catalog.tables

links_named : (server number : ℕ) (table : Table) (p : ℕ) (links : List Link) → filter_map (remote_def server table.def) links ≡ map def_there (link_places server number table p links)
links_named server number table p [] = refl
links_named server number table p (link ∷ links) =
    option_step def_there (link.server == server) (record { number = number; table = table; part = p; link = link }) (link_places server number table p links) _ (links_named server number table p links)

parts_named : (server number : ℕ) (table : Table) (p : ℕ) (parts : List Part) → flat_map (part_defs server table.def) parts ≡ map def_there (part_places server number table p parts)
parts_named server number table p [] = refl
parts_named server number table p (part ∷ parts) =
    ap (λ l. l ++ flat_map (part_defs server table.def) parts) (links_named server number table p part.links)
    ∙ (ap (λ l. map def_there (link_places server number table p part.links) ++ l) (parts_named server number table (p + 1) parts)
    ∙ sym (map-append def_there (link_places server number table p part.links) (part_places server number table (p + 1) parts)))

all_named : (server n : ℕ) (list : List Table) → remote_defs server list ≡ map def_there (places_from server n list)
all_named server n [] = refl
all_named server n (table ∷ more) =
    ap (λ l. l ++ remote_defs server more) (parts_named server n table 0 table.parts)
    ∙ (ap (λ l. map def_there (part_places server n table 0 table.parts) ++ l) (all_named server (n + 1) more)
    ∙ sym (map-append def_there (part_places server n table 0 table.parts) (places_from server (n + 1) more)))

pub defs_by_place : (catalog : View) (server : ℕ) → remote_defs server catalog.tables ≡ map def_there (places_at catalog server)
defs_by_place catalog server = all_named server 0 catalog.tables

-- the names on a server differ, and each of its tables is one that a backend can have
pub names_differ : (catalog : View) (server : ℕ) → CanBeServed catalog → are_apart (map def_there (places_at catalog server)) ≡ true
names_differ catalog server served = subst (λ defs. are_apart defs ≡ true) (defs_by_place catalog server) (both_of _ _ (served.held server)).0

-- WHERE THEY STAND

in_links : (server number : ℕ) (table : Table) (p : ℕ) (links : List Link) (link : Link) → Contains links link → link.server ≡ server
    → Contains (link_places server number table p links) (record { number = number; table = table; part = p; link = link })
in_links server number table p links link c there =
    let here : (link.server == server) ≡ true = ap (λ k. k == server) there ∙ is_itself server in
    from_list (place_there server number table p) links link _ c
    (subst (λ b. Contains (cond {A = List Place} b (record { number = number; table = table; part = p; link = link } ∷ []) []) (record { number = number; table = table; part = p; link = link })) (sym here) (at_front _ []))

in_parts : (server number : ℕ) (table : Table) (p : ℕ) (parts : List Part) (i : ℕ) (part : Part) (x : Place) → slice_get parts i ≡ Some part → Contains (link_places server number table (p + i) part.links) x → Contains (part_places server number table p parts) x
in_parts server number table p [] i part x at c = let no : ⊥ = cc in absurd no
in_parts server number table p (first ∷ parts) zero part x at c =
    let same : first ≡ part = cc in
    let start : p + 0 ≡ p = omega arith in
    Contains-append_left (link_places server number table p first.links) (part_places server number table (p + 1) parts) x
    (subst (λ (q : Part). Contains (link_places server number table p q.links) x) (sym same) (subst (λ k. Contains (link_places server number table k part.links) x) start c))
in_parts server number table p (first ∷ parts) (suc i) part x at c =
    let next : p + suc i ≡ (p + 1) + i = omega arith in
    Contains-append_right (link_places server number table p first.links) (part_places server number table (p + 1) parts) x
    (in_parts server number table (p + 1) parts i part x at (subst (λ k. Contains (link_places server number table k part.links) x) next c))

in_tables : (server n : ℕ) (list : List Table) (i : ℕ) (table : Table) (x : Place) → slice_get list i ≡ Some table → Contains (part_places server (n + i) table 0 table.parts) x → Contains (places_from server n list) x
in_tables server n [] i table x at c = let no : ⊥ = cc in absurd no
in_tables server n (first ∷ more) zero table x at c =
    let same : first ≡ table = cc in
    let start : n + 0 ≡ n = omega arith in
    Contains-append_left (part_places server n first 0 first.parts) (places_from server (n + 1) more) x
    (subst (λ (t : Table). Contains (part_places server n t 0 t.parts) x) (sym same) (subst (λ k. Contains (part_places server k table 0 table.parts) x) start c))
in_tables server n (first ∷ more) (suc i) table x at c =
    let next : n + suc i ≡ (n + 1) + i = omega arith in
    Contains-append_right (part_places server n first 0 first.parts) (places_from server (n + 1) more) x
    (in_tables server (n + 1) more i table x at (subst (λ k. Contains (part_places server k table 0 table.parts) x) next c))

-- each link of a table has its place on its server
pub link_is_placed : (catalog : View) (number : ℕ) (table : Table) (p : ℕ) (part : Part) (link : Link) → slice_get catalog.tables number ≡ Some table → slice_get table.parts p ≡ Some part → Contains part.links link
    → Contains (places_at catalog link.server) (record { number = number; table = table; part = p; link = link })
link_is_placed catalog number table p part link at there c =
    let zeroth : 0 + number ≡ number = omega arith in
    let first : 0 + p ≡ p = omega arith in
    in_tables link.server 0 catalog.tables number table _ at
    (subst (λ k. Contains (part_places link.server k table 0 table.parts) (record { number = number; table = table; part = p; link = link })) (sym zeroth)
    (in_parts link.server number table 0 table.parts p part _ there
    (subst (λ k. Contains (link_places link.server number table k part.links) (record { number = number; table = table; part = p; link = link })) (sym first) (in_links link.server number table p part.links link c refl))))

-- a place is one of the table that stands at its number
link_of_table : (server number : ℕ) (table : Table) (p : ℕ) (links : List Link) (x : Place) → Contains (link_places server number table p links) x → (x.number ≡ number) × (x.table ≡ table)
link_of_table server number table p [] x c = nothing x c
link_of_table server number table p (link ∷ links) x c = elim (Contains-append_cases (place_there server number table p link) (link_places server number table p links) x c) [
  | inl here ↦ by_test (link.server == server) here
  | inr later ↦ link_of_table server number table p links x later
]
  where
    by_test : (b : Bool) → Contains (cond {A = List Place} b (record { number = number; table = table; part = p; link = link } ∷ []) []) x → (x.number ≡ number) × (x.table ≡ table)
    by_test true c = elim (either (record { number = number; table = table; part = p; link = link }) x [] c) [
      | inl same ↦ (ap (λ (y : Place). y.number) (sym same), ap (λ (y : Place). y.table) (sym same))
      | inr none ↦ nothing x none
    ]
    by_test false c = nothing x c

part_of_table : (server number : ℕ) (table : Table) (p : ℕ) (parts : List Part) (x : Place) → Contains (part_places server number table p parts) x → (x.number ≡ number) × (x.table ≡ table)
part_of_table server number table p [] x c = nothing x c
part_of_table server number table p (part ∷ parts) x c = elim (Contains-append_cases (link_places server number table p part.links) (part_places server number table (p + 1) parts) x c) [
  | inl here ↦ link_of_table server number table p part.links x here
  | inr later ↦ part_of_table server number table (p + 1) parts x later
]

from_tables : (server n : ℕ) (list : List Table) (x : Place) → Contains (places_from server n list) x → (i : ℕ) × (x.number ≡ n + i) × (slice_get list i ≡ Some x.table)
from_tables server n [] x c = nothing x c
from_tables server n (table ∷ more) x c = elim (Contains-append_cases (part_places server n table 0 table.parts) (places_from server (n + 1) more) x c) [
  | inl here ↦ let is = part_of_table server n table 0 table.parts x here in (0, omega (arith, is.0), ap (λ (t : Table). Some t) (sym is.1))
  | inr later ↦ let rest = from_tables server (n + 1) more x later in (suc rest.0, omega (arith, rest.1), rest.2)
]

pub table_of_place : (catalog : View) (server : ℕ) (x : Place) → Contains (places_at catalog server) x → slice_get catalog.tables x.number ≡ Some x.table
table_of_place catalog server x c =
    let is = from_tables server 0 catalog.tables x c in
    let same : is.0 ≡ x.number = omega (arith, is.1) in
    subst (λ k. slice_get catalog.tables k ≡ Some x.table) same is.2

-- LOOK-UPS

unlisted : (def : TableDef) (defs : List TableDef) (other : TableDef) → list_any (is_called def.name) defs ≡ false → Contains defs other → is_called def.name other ≡ false
unlisted def [] other none c = nothing other c
unlisted def (first ∷ defs) other none c =
    let parts = neither (is_called def.name first) (list_any (is_called def.name) defs) none in
    elim (either first other defs c) [
      | inl same ↦ subst (λ d. is_called def.name d ≡ false) same parts.0
      | inr later ↦ unlisted def defs other parts.1 later
    ]
  where
    neither : (a b : Bool) → (a || b) ≡ false → (a ≡ false) × (b ≡ false)
    neither true b is = absurd (false≢true (sym is))
    neither false b is = (refl, is)

negated : (b : Bool) → not b ≡ true → b ≡ false
negated true is = absurd (false≢true is)
negated false is = refl

-- of the first name no later table is called, nor the other way round
pub first_differs : {X : Type 0} (def : X → TableDef) (x y : X) (xs : List X) → are_apart (map def (x ∷ xs)) ≡ true → Contains xs y → (is_called (def x).name (def y) ≡ false) × (is_called (def y).name (def x) ≡ false)
first_differs def x y xs apart c =
    let parts = both_of (not (list_any (is_called (def x).name) (map def xs))) (are_apart (map def xs)) apart in
    let one : is_called (def x).name (def y) ≡ false = unlisted (def x) (map def xs) (def y) (negated _ parts.0) (into_map def xs y c) in
    (one, nat_list_eq_equiv.symm (def x).name (def y).name ∙ one)

pub rest_differ : {X : Type 0} (def : X → TableDef) (x : X) (xs : List X) → are_apart (map def (x ∷ xs)) ≡ true → are_apart (map def xs) ≡ true
rest_differ def x xs apart = (both_of (not (list_any (is_called (def x).name) (map def xs))) (are_apart (map def xs)) apart).1

-- a table is found by its name, where all names differ
pub found_by_name : {X : Type 0} (f : X → backend.Table) (xs : List X) (x : X) → are_apart (map (λ y. (f y).def) xs) ≡ true → Contains xs x
    → find (λ (t : backend.Table). is_called (f x).def.name t.def) (map f xs) ≡ Some (f x)
found_by_name f [] x apart c = nothing x c
found_by_name f (y ∷ xs) x apart c = elim (either y x xs c) [
  | inl same ↦ subst (λ z. find (λ (t : backend.Table). is_called (f z).def.name t.def) (map f (y ∷ xs)) ≡ Some (f z)) same
      (ap (λ b. cond b (Some (f y)) (find (λ (t : backend.Table). is_called (f y).def.name t.def) (map f xs))) (nat_list_eq_equiv.refl (f y).def.name))
  | inr later ↦
      ap (λ b. cond b (Some (f y)) (find (λ (t : backend.Table). is_called (f x).def.name t.def) (map f xs))) (first_differs (λ z. (f z).def) y x xs apart later).1
      ∙ found_by_name f xs x (rest_differ (λ z. (f z).def) y xs apart) later
]

-- the table of a link is found by its name on its server, with the rows of its partition
pub link_is_found : (catalog : View) (tables : Tables) (number : ℕ) (table : Table) (p : ℕ) (part : Part) (link : Link) → CanBeServed catalog
    → slice_get catalog.tables number ≡ Some table → slice_get table.parts p ≡ Some part → Contains part.links link
    → find (λ (t : backend.Table). is_called link.remote t.def) (tables_at catalog tables link.server) ≡ Some (held_there tables (record { number = number; table = table; part = p; link = link }))
link_is_found catalog tables number table p part link served at there c =
    ap (find (λ (t : backend.Table). is_called link.remote t.def)) (tables_by_place catalog tables link.server)
    ∙ found_by_name (held_there tables) (places_at catalog link.server) (record { number = number; table = table; part = p; link = link }) (names_differ catalog link.server served) (link_is_placed catalog number table p part link at there c)
