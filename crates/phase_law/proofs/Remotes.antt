-- No two links of a configuration share a remote table: the tables that a server holds have different names.
use Rattle.std.proofs.Common.{◌≡◌, ℕ, ◌==◌, Bool, true, false, not, ◌&&◌, ◌||◌, List, [], ◌∷◌, ◌++◌, Option, Some, None, map, nat_eq, refl, sym, ap, ◌∙◌, cond, subst, eqb-true, eq-eqb}
use Rattle.std.specs.List.{AllByRecursion, cons_option, filter_map, flat_map, list_any}
use Rattle.std.specs.Cmp.Lexicographic.{pointwise, nat_list_eq_equiv}
use Rattle.std.proofs.lemmas.List.{map-append}
use Rattle.std.proofs.lemmas.List.Elements.{filter_map-append}
use Rattle.std.proofs.lemmas.List.Folds.{list_any-append}
use Rattle.sql_values.specs.declared.table.TableDef.{TableDef}
use Rattle.catalog.specs.declared.link.Link.{Link}
use Rattle.catalog.specs.declared.tables.Part.{Part}
use Rattle.catalog.specs.declared.tables.Table.{Table}
use Rattle.catalog.specs.Shared.{all_remotes, is_same, part_remotes, remote_of, repeated_from, shared}
use Rattle.catalog.specs.Views.{part_defs, remote_def, remote_defs, table_defs}
use Rattle.branch_store.specs.Changes.{is_called}
use Rattle.branch_store.specs.Opening.{are_apart}
use Rattle.phase_law.proofs.Apart.{or_false}

-- NONE IS REPEATED

-- no element is the same as a later one
abbrev pub Differ : {X : Type 0} → (X → X → Bool) → List X → Type 0
Differ same [] = Unit {0}
Differ same (x ∷ xs) = AllByRecursion (λ y. same x y ≡ false) xs × Differ same xs

-- nor as one that was seen
record New {X : Type 0} (same : X → X → Bool) (seen xs : List X) : Type 0 where
  from_seen : AllByRecursion (λ x. list_any (λ y. same y x) seen ≡ false) xs
  differ : Differ same xs

passed : {X : Type 0} (b : Bool) (x : X) (o : Option X) → cond b (Some x) o ≡ None → (b ≡ false) × (o ≡ None)
passed true x o h = let no : ⊥ = cc in absurd no
passed false x o h = (refl, h)

module _ {X : Type 0} (same : X → X → Bool) where
  split_seen : (seen : List X) (x : X) (xs : List X) → AllByRecursion (λ y. list_any (λ z. same z y) (seen ++ x ∷ []) ≡ false) xs → AllByRecursion (λ y. list_any (λ z. same z y) seen ≡ false) xs × AllByRecursion (λ y. same x y ≡ false) xs
  split_seen seen x [] all = (tt, tt)
  split_seen seen x (y ∷ ys) (none, all) =
      let two : (list_any (λ z. same z y) seen || (same x y || false)) ≡ false = sym (list_any-append (λ z. same z y) seen (x ∷ [])) ∙ none in
      let apart : (list_any (λ z. same z y) seen ≡ false) × ((same x y || false) ≡ false) = or_false (list_any (λ z. same z y) seen) (same x y || false) two in
      let rest = split_seen seen x ys all in
      ((apart.0, rest.0), ((or_false (same x y) false apart.1).0, rest.1))

  none_repeated : (seen xs : List X) → repeated_from same seen xs ≡ None → New same seen xs
  none_repeated seen [] none = record { from_seen = tt; differ = tt }
  none_repeated seen (x ∷ xs) none =
      let here : (list_any (λ y. same y x) seen ≡ false) × (repeated_from same (seen ++ x ∷ []) xs ≡ None) = passed (list_any (λ y. same y x) seen) x (repeated_from same (seen ++ x ∷ []) xs) none in
      let rest : New same (seen ++ x ∷ []) xs = none_repeated (seen ++ x ∷ []) xs here.1 in
      let each = split_seen seen x xs rest.from_seen in
      record { from_seen = (here.0, each.0); differ = (each.1, rest.differ) }

-- of what a function makes of elements
all_of_map : {X Y : Type 0} (f : X → Y) (P : Y → Type 0) (xs : List X) → AllByRecursion P (map f xs) → AllByRecursion (λ x. P (f x)) xs
all_of_map f P [] all = tt
all_of_map f P (x ∷ xs) (here, all) = (here, all_of_map f P xs all)

differ_of_map : {X Y : Type 0} (f : X → Y) (same : Y → Y → Bool) (xs : List X) → Differ same (map f xs) → Differ (λ a b. same (f a) (f b)) xs
differ_of_map f same [] differ = tt
differ_of_map f same (x ∷ xs) (here, differ) = (all_of_map f (λ y. same (f x) y ≡ false) xs here, differ_of_map f same xs differ)

-- THE LINKS

abbrev pub table_links : Table → List Link
table_links table = flat_map (λ (part : Part). part.links) table.parts

abbrev pub all_links : List Table → List Link
all_links tables = flat_map table_links tables

parts_remotes : (parts : List Part) → flat_map part_remotes parts ≡ map remote_of (flat_map (λ (part : Part). part.links) parts)
parts_remotes [] = refl
parts_remotes (part ∷ parts) = ap (λ l. part_remotes part ++ l) (parts_remotes parts) ∙ sym (map-append remote_of part.links (flat_map (λ (part : Part). part.links) parts))

remotes_of_links : (tables : List Table) → all_remotes tables ≡ map remote_of (all_links tables)
remotes_of_links [] = refl
remotes_of_links (table ∷ tables) = ap (λ l. l ++ all_remotes tables) (parts_remotes table.parts) ∙ (ap (λ l. map remote_of (table_links table) ++ l) (remotes_of_links tables) ∙ sym (map-append remote_of (table_links table) (all_links tables)))

-- two links with one remote table
abbrev pub share : Link → Link → Bool
share a b = (a.server == b.server) && pointwise nat_eq a.remote b.remote

pub none_shared : (tables : List Table) → shared tables ≡ None → Differ share (all_links tables)
unfolding shared
none_shared tables none =
    let new : New is_same [] (all_remotes tables) = none_repeated is_same [] (all_remotes tables) none in
    differ_of_map remote_of is_same (all_links tables) (subst (λ l. Differ is_same l) (remotes_of_links tables) new.differ)

-- THE NAMES AT A SERVER

abbrev names_of : List TableDef → List (List ℕ)
names_of defs = map (λ (def : TableDef). def.name) defs

abbrev remote_at : ℕ → Link → Option (List ℕ)
remote_at s link = cond (link.server == s) (Some link.remote) None

-- no name is a later one
abbrev different : List (List ℕ) → Bool
different [] = true
different (n ∷ ns) = not (list_any (λ m. pointwise nat_eq m n) ns) && different ns

names_apart : (defs : List TableDef) → are_apart defs ≡ different (names_of defs)
names_apart [] = refl
names_apart (def ∷ defs) = ap (λ b. not b && are_apart defs) (called defs) ∙ ap (λ b. not (list_any (λ m. pointwise nat_eq m def.name) (names_of defs)) && b) (names_apart defs)
  where
    called : (defs : List TableDef) → list_any (is_called def.name) defs ≡ list_any (λ m. pointwise nat_eq m def.name) (names_of defs)
    called [] = refl
    called (other ∷ defs) = ap (λ b. pointwise nat_eq other.name def.name || b) (called defs)

one_name : (def : TableDef) (link : Link) (links : List TableDef) (names : List (List ℕ)) (b : Bool) → names_of links ≡ names
    → names_of (cons_option (cond b (Some (record def { name = link.remote })) None) links) ≡ cons_option (cond b (Some link.remote) None) names
one_name def link links names true rest = ap (λ l. link.remote ∷ l) rest
one_name def link links names false rest = rest

part_names : (s : ℕ) (def : TableDef) (links : List Link) → names_of (filter_map (remote_def s def) links) ≡ filter_map (remote_at s) links
part_names s def [] = refl
part_names s def (link ∷ links) = one_name def link (filter_map (remote_def s def) links) (filter_map (remote_at s) links) (link.server == s) (part_names s def links)

table_names : (s : ℕ) (def : TableDef) (parts : List Part) → names_of (flat_map (part_defs s def) parts) ≡ filter_map (remote_at s) (flat_map (λ (part : Part). part.links) parts)
table_names s def [] = refl
table_names s def (part ∷ parts) =
    let more : List Link = flat_map (λ (p : Part). p.links) parts in
    map-append (λ (d : TableDef). d.name) (part_defs s def part) (flat_map (part_defs s def) parts)
    ∙ (ap (λ l. l ++ names_of (flat_map (part_defs s def) parts)) (part_names s def part.links)
    ∙ (ap (λ l. filter_map (remote_at s) part.links ++ l) (table_names s def parts) ∙ sym (filter_map-append (remote_at s) part.links more)))

names_there : (s : ℕ) (tables : List Table) → names_of (remote_defs s tables) ≡ filter_map (remote_at s) (all_links tables)
names_there s [] = refl
names_there s (table ∷ tables) =
    map-append (λ (d : TableDef). d.name) (table_defs s table) (remote_defs s tables)
    ∙ (ap (λ l. l ++ names_of (remote_defs s tables)) (table_names s table.def table.parts)
    ∙ (ap (λ l. filter_map (remote_at s) (table_links table) ++ l) (names_there s tables) ∙ sym (filter_map-append (remote_at s) (table_links table) (all_links tables))))

other_name : (a b : List ℕ) → pointwise nat_eq a b ≡ false → pointwise nat_eq b a ≡ false
other_name a b apart = nat_list_eq_equiv.symm b a ∙ apart

-- a link that shares no remote table with these has another name at its server
not_there : (s : ℕ) (link : Link) (links : List Link) → link.server ≡ s → AllByRecursion (λ other. share link other ≡ false) links → list_any (λ m. pointwise nat_eq m link.remote) (filter_map (remote_at s) links) ≡ false
not_there s link [] here apart = refl
not_there s link (other ∷ links) here (alone, apart) = by (other.server == s) refl (not_there s link links here apart)
  where
    by : (b : Bool) → (other.server == s) ≡ b → list_any (λ m. pointwise nat_eq m link.remote) (filter_map (remote_at s) links) ≡ false
        → list_any (λ m. pointwise nat_eq m link.remote) (cons_option (cond b (Some other.remote) None) (filter_map (remote_at s) links)) ≡ false
    by true there rest =
        let same : (link.server == other.server) ≡ true = eq-eqb link.server other.server (here ∙ sym (eqb-true other.server s there)) in
        let differs : pointwise nat_eq link.remote other.remote ≡ false = sym (ap (λ b. b && pointwise nat_eq link.remote other.remote) same) ∙ alone in
        ap (λ b. b || list_any (λ m. pointwise nat_eq m link.remote) (filter_map (remote_at s) links)) (other_name link.remote other.remote differs) ∙ rest
    by false elsewhere rest = rest

all_different : (s : ℕ) (links : List Link) → Differ share links → different (filter_map (remote_at s) links) ≡ true
all_different s [] differ = refl
all_different s (link ∷ links) (alone, differ) = by (link.server == s) refl (all_different s links differ)
  where
    by : (b : Bool) → (link.server == s) ≡ b → different (filter_map (remote_at s) links) ≡ true → different (cons_option (cond b (Some link.remote) None) (filter_map (remote_at s) links)) ≡ true
    by true here rest = ap (λ b. not b && different (filter_map (remote_at s) links)) (not_there s link links (eqb-true link.server s here) alone) ∙ rest
    by false elsewhere rest = rest

-- the tables at a server have different names
pub remotes_apart : (tables : List Table) → shared tables ≡ None → (s : ℕ) → are_apart (remote_defs s tables) ≡ true
remotes_apart tables none s = names_apart (remote_defs s tables) ∙ (ap different (names_there s tables) ∙ all_different s (all_links tables) (none_shared tables none))
