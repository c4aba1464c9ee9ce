-- What a commit leaves at a server of what was written there: the tables of the plain tables with what is left.
use Rattle.std.proofs.Common.{◌≡◌, ℕ, suc, zero, ◌+◌, ◌<◌, ◌==◌, ◌&&◌, ◌||◌, not, Bool, true, false, List, [], ◌∷◌, ◌++◌, map, filter, Option, Some, None, refl, arith, sym, ◌∙◌, ap, subst, inl, inr, cond, flat_map, length}
use Rattle.std.specs.Prelude.{slice_get}
use Rattle.std.specs.List.{AllByRecursion, Contains, range_with_len}
use Rattle.std.specs.Option.{option_map_or}
use Rattle.std.specs.Cmp.Lexicographic.{nat_list_eq_equiv}
use Rattle.std.proofs.lemmas.Grind.{flat_map-append}
use Rattle.std.proofs.lemmas.List.{append-nil}
use Rattle.std.proofs.lemmas.List.Sums.{fold-append}
use Rattle.sql_values.specs.declared.places.LockMode.TheVariants.{Exclusive}
use Rattle.sql_values.specs.declared.table.TableDef.{TableDef}
use Rattle.catalog.specs.declared.link.Link.{Link}
use Rattle.catalog.specs.declared.tables.Part.{Part}
use Rattle.catalog.specs.declared.tables.Table.{Table}
use Rattle.catalog.specs.Links.{is_ok}
use Rattle.catalog.specs.Views.{View}
use Rattle.plain_tables.specs.Inserts.{put, put_all}
use Rattle.plain_tables.specs.Partitions.{rows_in}
use Rattle.plain_tables.specs.Rows.{Row}
use Rattle.plain_tables.specs.Statements.{Writes, Puts, Dels, written}
use Rattle.plain_tables.proofs.Members.{at_front, behind, either, nothing}
use Rattle.branch_store.specs.declared.branch.Change.{Change}
use Rattle.branch_store.specs.declared.branch.Change.TheVariants.{Put, Del, Clear}
use Rattle.branch_store.specs.Changes.{after, changed, has_key_in, has_key_from, is_called, without}
use Rattle.branch_store.specs.Opening.{are_apart}
use Rattle.branch_store.specs.Store.{changed_table}
use Rattle.branch_store.specs.Tables as stored
use Rattle.txn_phases.specs.declared.phase.Target.{Target}
use Rattle.front_core.specs.Jobs.{is_ng, written as links_written, links_at, target_at, part_targets, targets_of}
use Rattle.plain_sessions.specs.Exec.{Tables, with_rows}
use Rattle.plain_sessions.specs.Held.{CanBeServed, rows_by, tables_at}
use Rattle.phase_law.proofs.Lists.{is_itself, is_same, is_other, flat_filter}
use Rattle.phase_law.proofs.Places.{Place, place_there, link_places, part_places, places_from, places_at, def_there, held_there, tables_by_place, names_differ, table_of_place, first_differs, rest_differ}
use Rattle.phase_law.proofs.Writes.{put_at, del_at, change_of, changes_at, IsNothing}

-- CHANGES OF TABLES WITH DIFFERENT NAMES

-- a change of the table with this name
abbrev pub Names : List ℕ → Change → Type 0
Names name (Put table rows) = table ≡ name
Names name (Del table keys) = table ≡ name
Names name (Clear table low high) = table ≡ name

-- changes of another table leave all rows
other_leaves : (def : TableDef) (name : List ℕ) (change : Change) (rows : List Row) → Names name change → is_called name def ≡ false → changed def rows change ≡ rows
other_leaves def name (Put table news) rows is other = ap (λ n. cond (is_called n def) (put_all def rows news) rows) is ∙ ap (λ b. cond b (put_all def rows news) rows) other
other_leaves def name (Del table keys) rows is other =
    ap (λ n. cond (is_called n def) (without (has_key_in def keys) rows) rows) is ∙ ap (λ b. cond b (without (has_key_in def keys) rows) rows) other
other_leaves def name (Clear table low high) rows is other =
    ap (λ n. cond (is_called n def) (without (has_key_from def low high) rows) rows) is ∙ ap (λ b. cond b (without (has_key_from def low high) rows) rows) other

others_leave : (def : TableDef) (name : List ℕ) (changes : List Change) (rows : List Row) → AllByRecursion (Names name) changes → is_called name def ≡ false → after def changes rows ≡ rows
others_leave def name [] rows all other = refl
others_leave def name (change ∷ changes) rows all other =
    ap (λ l. after def changes l) (other_leaves def name change rows all.0 other) ∙ others_leave def name changes rows all.1 other

module _ {X : Type 0} (f : X → stored.Table) (c : X → List Change) (own : (x : X) → AllByRecursion (Names (f x).def.name) (c x)) where
  none_of : (x : X) (xs : List X) (rows : List Row) → ((y : X) → Contains xs y → is_called (f y).def.name (f x).def ≡ false) → after (f x).def (flat_map c xs) rows ≡ rows
  none_of x [] rows others = refl
  none_of x (y ∷ xs) rows others =
      fold-append (changed (f x).def) rows (c y) (flat_map c xs)
      ∙ (ap (λ l. after (f x).def (flat_map c xs) l) (others_leave (f x).def (f y).def.name (c y) rows (own y) (others y (at_front y xs))) ∙ none_of x xs rows (λ z at. others z (behind y z xs at)))

  one_of : (xs : List X) (x : X) (rows : List Row) → are_apart (map (λ y. (f y).def) xs) ≡ true → Contains xs x → after (f x).def (flat_map c xs) rows ≡ after (f x).def (c x) rows
  one_of [] x rows apart at = nothing x at
  one_of (y ∷ xs) x rows apart at = elim (either y x xs at) [
    | inl same ↦ subst (λ z. after (f z).def (flat_map c (y ∷ xs)) rows ≡ after (f z).def (c z) rows) same
        (fold-append (changed (f y).def) rows (c y) (flat_map c xs) ∙ none_of y xs (after (f y).def (c y) rows) (λ z there. (first_differs (λ w. (f w).def) y z xs apart there).1))
    | inr later ↦
        fold-append (changed (f x).def) rows (c y) (flat_map c xs)
        ∙ (ap (λ l. after (f x).def (flat_map c xs) l) (others_leave (f x).def (f y).def.name (c y) rows (own y) (first_differs (λ w. (f w).def) y x xs apart later).0)
        ∙ one_of xs x rows (rest_differ (λ w. (f w).def) y xs apart) later)
  ]

  mapped : (g : stored.Table → stored.Table) (h : X → stored.Table) (xs : List X) → ((x : X) → Contains xs x → g (f x) ≡ h x) → map g (map f xs) ≡ map h xs
  mapped g h [] same = refl
  mapped g h (x ∷ xs) same = rw (same x (at_front x xs)) (ap (λ l. h x ∷ l) (mapped g h xs (λ z at. same z (behind x z xs at))))

  -- where names differ, each table has its own changes
  each_has_own : (h : X → stored.Table) (xs : List X) → are_apart (map (λ y. (f y).def) xs) ≡ true → ((x : X) → Contains xs x → changed_table (c x) (f x) ≡ h x) → map (changed_table (flat_map c xs)) (map f xs) ≡ map h xs
  each_has_own h xs apart same =
      mapped (changed_table (flat_map c xs)) h xs
      (λ x at.
      let with_these : List Row → stored.Table = λ rows. record { def = (f x).def; rows = rows } in
      ap with_these (one_of xs x (f x).rows apart at) ∙ same x at)

-- CHANGES LINK BY LINK

module _ (table : Table) (number : ℕ) (w : ℕ → Writes) where
  -- what is changed at a link: what is written in its partition, where it is a link of the table that isn't NG
  abbrev change_here : Place → List Change
  change_here x = change_of (target_at x.part (x.link, false)) (w x.part)

  abbrev change_at : Place → List Change
  change_at x = cond (x.number == number) (cond (is_ng x.link.first) [] (change_here x)) []

  abbrev change_on : ℕ → Target → List Change
  change_on s t = cond (t.server == s) (change_of t (w t.part)) []

  change_alike : (t u : Target) (v : Writes) → t.remote ≡ u.remote → change_of t v ≡ change_of u v
  change_alike t u (Puts []) same = refl
  change_alike t u (Puts (row ∷ rows)) same = ap (λ name. Put name (row ∷ rows) ∷ []) same
  change_alike t u (Dels []) same = refl
  change_alike t u (Dels (k ∷ keys)) same = ap (λ name. Del name (k ∷ keys) ∷ []) same

  place_gives : (b : Bool) (x : Place) → flat_map change_at (cond b (x ∷ []) []) ≡ cond b (change_at x) []
  place_gives true x = append-nil (change_at x)
  place_gives false x = refl

  nothing_there : (b : Bool) (cs : List Change) → cs ≡ [] → cond b cs [] ≡ []
  nothing_there true cs none = none
  nothing_there false cs none = refl

  same_there : (b : Bool) (cs ds : List Change) → cs ≡ ds → cond b cs [] ≡ cond b ds []
  same_there true cs ds same = same
  same_there false cs ds same = refl

  first_link : (s p : ℕ) (link : Link) (links : List Link) (found ng : Bool) → is_ng link.first ≡ ng
      → ((found : Bool) → flat_map (change_on s) (map (target_at p) (links_written found links)) ≡ flat_map change_at (link_places s number table p links))
      → flat_map (change_on s) (map (target_at p) (cond ng (links_written found links) ((link, not found && is_ok link.first) ∷ links_written (found || is_ok link.first) links)))
      ≡ cond (link.server == s) (cond (is_ng link.first) [] (change_of (target_at p (link, false)) (w p))) [] ++ flat_map change_at (link_places s number table p links)
  first_link s p link links found true ng rest =
      let none : cond (is_ng link.first) [] (change_of (target_at p (link, false)) (w p)) ≡ [] = ap (λ b. cond b [] (change_of (target_at p (link, false)) (w p))) ng in
      rest found ∙ ap (λ l. l ++ flat_map change_at (link_places s number table p links)) (sym (nothing_there (link.server == s) _ none))
  first_link s p link links found false ng rest =
      let t : Target = target_at p (link, not found && is_ok link.first) in
      let same : change_of t (w p) ≡ cond (is_ng link.first) [] (change_of (target_at p (link, false)) (w p)) =
      change_alike t (target_at p (link, false)) (w p) refl ∙ sym (ap (λ b. cond b [] (change_of (target_at p (link, false)) (w p))) ng) in
      ap (λ l. change_on s t ++ l) (rest (found || is_ok link.first)) ∙ ap (λ l. l ++ flat_map change_at (link_places s number table p links)) (same_there (link.server == s) _ _ same)

  links_give : (s p : ℕ) (links : List Link) (found : Bool) → flat_map (change_on s) (map (target_at p) (links_written found links)) ≡ flat_map change_at (link_places s number table p links)
  links_give s p [] found = refl
  links_give s p (link ∷ links) found =
      let x : Place = record { number = number; table = table; part = p; link = link } in
      let here : change_at x ≡ cond (is_ng link.first) [] (change_of (target_at p (link, false)) (w p)) =
      ap (λ b. cond b (cond (is_ng link.first) [] (change_of (target_at p (link, false)) (w p))) []) (is_itself number) in
      let right : flat_map change_at (link_places s number table p (link ∷ links))
      ≡ cond (link.server == s) (cond (is_ng link.first) [] (change_of (target_at p (link, false)) (w p))) [] ++ flat_map change_at (link_places s number table p links) =
      flat_map-append change_at (place_there s number table p link) (link_places s number table p links)
      ∙ ap (λ l. l ++ flat_map change_at (link_places s number table p links)) (place_gives (link.server == s) x ∙ same_there (link.server == s) _ _ here) in
      first_link s p link links found (is_ng link.first) refl (λ f. links_give s p links f) ∙ sym right

  parts_give : (s a : ℕ) (all parts : List Part) → ((i : ℕ) (part : Part) → slice_get parts i ≡ Some part → slice_get all (a + i) ≡ Some part)
      → flat_map (λ p. flat_map (change_on s) (part_targets Exclusive all p)) (range_with_len a (length parts)) ≡ flat_map change_at (part_places s number table a parts)
  parts_give s a all [] at = refl
  parts_give s a all (part ∷ parts) at =
      let start : a + 0 ≡ a = omega arith in
      let first : slice_get all a ≡ Some part = ap (slice_get all) (sym start) ∙ at 0 part refl in
      let here : flat_map (change_on s) (part_targets Exclusive all a) ≡ flat_map change_at (link_places s number table a part.links) =
      ap (λ (o : Option Part). flat_map (change_on s) (map (target_at a) (links_written false (option_map_or (λ (q : Part). q.links) o [])))) first ∙ links_give s a part.links false in
      let later : (i : ℕ) (q : Part) → slice_get parts i ≡ Some q → slice_get all ((a + 1) + i) ≡ Some q = λ i q there. (let next : (a + 1) + i ≡ a + suc i = omega arith in ap (slice_get all) next ∙ at (suc i) q there) in
      ap (λ l. l ++ flat_map (λ p. flat_map (change_on s) (part_targets Exclusive all p)) (range_with_len (a + 1) (length parts))) here
      ∙ (ap (λ l. flat_map change_at (link_places s number table a part.links) ++ l) (parts_give s (a + 1) all parts later)
      ∙ sym (flat_map-append change_at (link_places s number table a part.links) (part_places s number table (a + 1) parts)))

  flattened : {X Y Z : Type 0} (g : Y → List Z) (f : X → List Y) (xs : List X) → flat_map g (flat_map f xs) ≡ flat_map (λ x. flat_map g (f x)) xs
  flattened g f [] = refl
  flattened g f (x ∷ xs) = flat_map-append g (f x) (flat_map f xs) ∙ ap (λ l. flat_map g (f x) ++ l) (flattened g f xs)

  no_change : (t : Target) (v : Writes) → IsNothing v → change_of t v ≡ []
  no_change t (Puts rows) none = ap (put_at t) none
  no_change t (Dels keys) none = ap (del_at t) none

  -- a partition in which nothing is written has no changes
  none_written : (s p : ℕ) (xs : List (Link × Bool)) → IsNothing (w p) → flat_map (change_on s) (map (target_at p) xs) ≡ []
  none_written s p [] none = refl
  none_written s p (x ∷ xs) none =
      ap (λ l. l ++ flat_map (change_on s) (map (target_at p) xs)) (nothing_there (x.0.server == s) (change_of (target_at p x) (w p)) (no_change (target_at p x) (w p) none)) ∙ none_written s p xs none

  -- another table has no changes
  other_links : (s n : ℕ) (other : Table) (p : ℕ) (links : List Link) → (n == number) ≡ false → flat_map change_at (link_places s n other p links) ≡ []
  other_links s n other p [] apart = refl
  other_links s n other p (link ∷ links) apart =
      let x : Place = record { number = n; table = other; part = p; link = link } in
      let none : change_at x ≡ [] = ap (λ b. cond b (cond (is_ng link.first) [] (change_here x)) []) apart in
      flat_map-append change_at (place_there s n other p link) (link_places s n other p links)
      ∙ (ap (λ l. l ++ flat_map change_at (link_places s n other p links)) (place_gives (link.server == s) x ∙ nothing_there (link.server == s) (change_at x) none) ∙ other_links s n other p links apart)

  other_parts : (s n : ℕ) (other : Table) (p : ℕ) (parts : List Part) → (n == number) ≡ false → flat_map change_at (part_places s n other p parts) ≡ []
  other_parts s n other p [] apart = refl
  other_parts s n other p (part ∷ parts) apart =
      flat_map-append change_at (link_places s n other p part.links) (part_places s n other (p + 1) parts)
      ∙ (ap (λ l. l ++ flat_map change_at (part_places s n other (p + 1) parts)) (other_links s n other p part.links apart) ∙ other_parts s n other (p + 1) parts apart)

  none_from : (s n : ℕ) (list : List Table) → number < n → flat_map change_at (places_from s n list) ≡ []
  none_from s n [] past = refl
  none_from s n (other ∷ more) past =
      flat_map-append change_at (part_places s n other 0 other.parts) (places_from s (n + 1) more)
      ∙ (ap (λ l. l ++ flat_map change_at (places_from s (n + 1) more)) (other_parts s n other 0 other.parts (is_other n number (λ same. omega arith))) ∙ none_from s (n + 1) more (omega arith))

  one_from : (s n i : ℕ) (list : List Table) → number ≡ n + i → slice_get list i ≡ Some table → flat_map change_at (places_from s n list) ≡ flat_map change_at (part_places s number table 0 table.parts)
  one_from s n i [] is at = absurd (let no : None ≡ Some table = at in cc)
  one_from s n zero (other ∷ more) is at =
      let same : other ≡ table = cc in
      let here : n ≡ number = omega arith in
      flat_map-append change_at (part_places s n other 0 other.parts) (places_from s (n + 1) more)
      ∙ (ap (λ l. flat_map change_at (part_places s n other 0 other.parts) ++ l) (none_from s (n + 1) more (omega arith))
      ∙ (append-nil (flat_map change_at (part_places s n other 0 other.parts))
      ∙ (ap (λ k. flat_map change_at (part_places s k other 0 other.parts)) here ∙ ap (λ (t : Table). flat_map change_at (part_places s number t 0 t.parts)) same)))
  one_from s n (suc i) (other ∷ more) is at =
      flat_map-append change_at (part_places s n other 0 other.parts) (places_from s (n + 1) more)
      ∙ (ap (λ l. l ++ flat_map change_at (places_from s (n + 1) more)) (other_parts s n other 0 other.parts (is_other n number (λ same. omega arith)))
      ∙ one_from s (n + 1) i more (omega arith) at)

  -- what is changed at a server, by the places of its links: nothing is written in partitions that aren't asked
  pub changes_by_place : (catalog : View) (s : ℕ) (owns : ℕ → Bool) → slice_get catalog.tables number ≡ Some table → ((p : ℕ) → owns p ≡ false → IsNothing (w p))
      → changes_at (targets_of Exclusive table.parts (filter owns (range_with_len 0 (length table.parts)))) w s ≡ flat_map change_at (places_at catalog s)
  changes_by_place catalog s owns at none =
      let all : List ℕ = range_with_len 0 (length table.parts) in
      flattened (change_on s) (part_targets Exclusive table.parts) (filter owns all)
      ∙ (flat_filter owns (λ p. flat_map (change_on s) (part_targets Exclusive table.parts p)) all (λ p there out. none_written s p (links_written false (links_at table.parts p)) (none p out))
      ∙ (parts_give s 0 table.parts table.parts (λ i part there. (let start : 0 + i ≡ i = omega arith in ap (slice_get table.parts) start ∙ there))
      ∙ sym (one_from s 0 number catalog.tables (omega arith) at)))

  -- THE TABLES AFTER IT

  named : (name : List ℕ) (t : Target) (v : Writes) → t.remote ≡ name → AllByRecursion (Names name) (change_of t v)
  named name t (Puts []) is = tt
  named name t (Puts (row ∷ rows)) is = (is, tt)
  named name t (Dels []) is = tt
  named name t (Dels (k ∷ keys)) is = (is, tt)

  none_named : (b : Bool) (name : List ℕ) (cs : List Change) → AllByRecursion (Names name) cs → AllByRecursion (Names name) (cond b cs [])
  none_named true name cs all = all
  none_named false name cs all = tt

  unless_named : (b : Bool) (name : List ℕ) (cs : List Change) → AllByRecursion (Names name) cs → AllByRecursion (Names name) (cond b [] cs)
  unless_named true name cs all = tt
  unless_named false name cs all = all

  own_name : (x : Place) → AllByRecursion (Names x.link.remote) (change_at x)
  own_name x = none_named (x.number == number) x.link.remote _ (unless_named (is_ng x.link.first) x.link.remote (change_here x) (named x.link.remote (target_at x.part (x.link, false)) (w x.part) refl))

  -- nothing goes by no key
  all_stay : (def : TableDef) (rows : List Row) → rows ≡ without (has_key_in def []) rows
  all_stay def [] = refl
  all_stay def (row ∷ rows) = ap (λ l. row ∷ l) (all_stay def rows)

  -- what is written under the table's own name
  change_own : (def : TableDef) (t : Target) (rows : List Row) (v : Writes) → t.remote ≡ def.name → after def (change_of t v) rows ≡ written def rows v
  unfolding put_all
  change_own def t rows (Puts []) is = refl
  change_own def t rows (Puts (row ∷ news)) is =
      ap (λ name. changed def rows (Put name (row ∷ news))) is ∙ ap (λ b. cond b (put_all def rows (row ∷ news)) rows) (nat_list_eq_equiv.refl def.name)
  change_own def t rows (Dels []) is = all_stay def rows
  change_own def t rows (Dels (k ∷ keys)) is =
      ap (λ name. changed def rows (Del name (k ∷ keys))) is ∙ ap (λ b. cond b (without (has_key_in def (k ∷ keys)) rows) rows) (nat_list_eq_equiv.refl def.name)

-- rows are put alike under another name of the table
put_all_alike : (def : TableDef) (name : List ℕ) (rows news : List Row) → put_all (record def { name = name }) rows news ≡ put_all def rows news
unfolding put_all
put_all_alike def name rows [] = refl
put_all_alike def name rows (new ∷ news) = put_all_alike def name (put def rows new) news

written_alike : (def : TableDef) (name : List ℕ) (rows : List Row) (v : Writes) → written (record def { name = name }) rows v ≡ written def rows v
written_alike def name rows (Puts news) = put_all_alike def name rows news
written_alike def name rows (Dels keys) = refl

module _ (catalog : View) (tables : Tables) (number : ℕ) (table : Table) (w : ℕ → Writes) (left : List Row) (at : slice_get catalog.tables number ≡ Some table)
    (leaves : (p : ℕ) → written table.def (rows_in table.def table.rule p (tables number)) (w p) ≡ rows_in table.def table.rule p left) where
  -- the partition of a place
  part_after : (x : Place) → x.table ≡ table → x.number ≡ number → written x.table.def (rows_in x.table.def x.table.rule x.part (tables x.number)) (w x.part) ≡ rows_in x.table.def x.table.rule x.part left
  part_after x is here =
      ap (λ (u : Table). written u.def (rows_in u.def u.rule x.part (tables x.number)) (w x.part)) is
      ∙ (ap (λ k. written table.def (rows_in table.def table.rule x.part (tables k)) (w x.part)) here
      ∙ (leaves x.part ∙ ap (λ (u : Table). rows_in u.def u.rule x.part left) (sym is)))

  -- a link of the table: NG, or not
  own_after : (x : Place) (ng : Bool) → x.table ≡ table → x.number ≡ number
      → after (def_there x) (cond ng [] (change_here table number w x)) (cond ng [] (rows_in x.table.def x.table.rule x.part (tables x.number)))
      ≡ cond ng [] (rows_in x.table.def x.table.rule x.part left)
  own_after x true is here = refl
  own_after x false is here =
      change_own table number w (def_there x) (target_at x.part (x.link, false)) (rows_in x.table.def x.table.rule x.part (tables x.number)) (w x.part) refl
      ∙ (written_alike x.table.def x.link.remote (rows_in x.table.def x.table.rule x.part (tables x.number)) (w x.part) ∙ part_after x is here)

  place_after : (x : Place) (b : Bool) → (x.number == number) ≡ b → slice_get catalog.tables x.number ≡ Some x.table
      → after (def_there x) (cond b (cond (is_ng x.link.first) [] (change_here table number w x)) []) (rows_by x.link.first (rows_in x.table.def x.table.rule x.part (tables x.number)))
      ≡ rows_by x.link.first (rows_in x.table.def x.table.rule x.part (cond b left (tables x.number)))
  place_after x true here there =
      let same : x.number ≡ number = is_same x.number number here in
      let twice : Some x.table ≡ Some table = sym there ∙ (ap (slice_get catalog.tables) same ∙ at) in
      let is : x.table ≡ table = cc in
      own_after x (is_ng x.link.first) is same
  place_after x false here there = refl

  -- once it is committed at a server, this holds the plain tables with what is left
  pub commit_leaves : (s : ℕ) (owns : ℕ → Bool) → CanBeServed catalog → ((p : ℕ) → owns p ≡ false → IsNothing (w p))
      → map (changed_table (changes_at (targets_of Exclusive table.parts (filter owns (range_with_len 0 (length table.parts)))) w s)) (tables_at catalog tables s) ≡ tables_at catalog (with_rows tables number left) s
  commit_leaves s owns served none =
      ap (λ cs. map (changed_table cs) (tables_at catalog tables s)) (changes_by_place table number w catalog s owns at none)
      ∙ (ap (map (changed_table (flat_map (change_at table number w) (places_at catalog s)))) (tables_by_place catalog tables s)
      ∙ (each_has_own (held_there tables) (change_at table number w) (own_name table number w) (held_there (with_rows tables number left)) (places_at catalog s) (names_differ catalog s served)
      (λ x there.
      let with_these : List Row → stored.Table = λ rows. record { def = def_there x; rows = rows } in
      ap with_these (place_after x (x.number == number) refl (table_of_place catalog s x there)))
      ∙ sym (tables_by_place catalog (with_rows tables number left) s)))
