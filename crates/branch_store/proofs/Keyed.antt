-- Rows by key, as the code keeps them, are the rows of a plain table.
use Rattle.std.proofs.Common.{◌≡◌, ℤ, Bool, true, false, not, ◌&&◌, ◌||◌, List, [], ◌∷◌, ◌++◌, refl, arith, sym, ◌∙◌, ap, subst, cond}
use Rattle.std.specs.Prelude.{int_lt, int_le}
use Rattle.std.specs.BTreeMap.{is_at, insert_entry}
use Rattle.std.specs.List.{AllByRecursion, filter}
use Rattle.std.specs.List.Sorted.{IsStrictlySortedBy}
use Rattle.std.specs.Map.{keys_of, values_of, remove_entry}
use Rattle.std.specs.Ordering.{int_cmp, int_eq, match_ordering}
use Rattle.std.specs.declared.cmp.Ordering.{Ordering}
use Rattle.std.specs.declared.cmp.Ordering.TheVariants.{Less, Equal, Greater}
use Rattle.std.proofs.lemmas.Cmp.{int_cmp_total}
use Rattle.std.proofs.lemmas.Int.{ints}
use Rattle.std.proofs.lemmas.Map.Lookups.{exact_signed}
use Rattle.sql_values.specs.declared.table.TableDef.{TableDef}
use Rattle.plain_tables.specs.Rows.{Row, key_of}
use Rattle.plain_tables.specs.Inserts.{put, put_all}
use Rattle.branch_store.specs.Changes.{has_key_in, has_key_from, without}
use Rattle.branch_store.specs.Keyed.{AreKeyed}
use Rattle.branch_store.specs.Tables.{Table}

less_by : (p q : Bool) → cond p Less (cond q Greater Equal) ≡ Less → p ≡ true
less_by true q is = refl
less_by false true is = let no : ⊥ = cc in absurd no
less_by false false is = let no : ⊥ = cc in absurd no

more_by : (p q : Bool) → cond p Less (cond q Greater Equal) ≡ Greater → q ≡ true
more_by true q is = let no : ⊥ = cc in absurd no
more_by false true is = refl
more_by false false is = let no : ⊥ = cc in absurd no

pub below : (a b : ℤ) → int_cmp a b ≡ Less → int_lt a b ≡ true
below a b is = less_by (int_lt a b) (int_lt b a) is

pub beyond : (a b : ℤ) → int_cmp a b ≡ Greater → int_lt b a ≡ true
beyond a b is = more_by (int_lt a b) (int_lt b a) is

pub up_all : (k x : ℤ) (ys : List ℤ) → int_cmp k x ≡ Less → AllByRecursion (λ y. int_cmp x y ≡ Less) ys → AllByRecursion (λ y. int_cmp k y ≡ Less) ys
up_all k x [] less all = tt
up_all k x (y ∷ ys) less all = (int_cmp_total.trans k x y less all.0, up_all k x ys less all.1)

abbrev pub Keyed : TableDef → List (ℤ × Row) → Type 0
Keyed def es = AllByRecursion (λ (entry : ℤ × Row). entry.0 ≡ key_of def entry.1) es

module _ (def : TableDef) where
  abbrev lower : Row → Row → Bool
  lower row r = int_lt (key_of def r) (key_of def row)

  abbrev higher : Row → Row → Bool
  higher row r = int_lt (key_of def row) (key_of def r)

  -- INSERTS

  above_all : (row : Row) (k : ℤ) (es : List (ℤ × Row)) → key_of def row ≡ k → Keyed def es → AllByRecursion (λ y. int_cmp k y ≡ Less) (keys_of es)
      → (filter (lower row) (values_of es) ≡ []) × (filter (higher row) (values_of es) ≡ values_of es)
  above_all row k [] is keyed up = (refl, refl)
  above_all row k (e ∷ es) is keyed up =
      let rest = above_all row k es is keyed.1 up.1 in
      let at : int_lt k e.0 ≡ true = below k e.0 up.0 in
      let here : e.0 ≡ key_of def e.1 = keyed.0 in
      let more : int_lt (key_of def row) (key_of def e.1) ≡ true = rw is (rw (sym here) at) in
      let less : int_lt (key_of def e.1) (key_of def row) ≡ false = grind (arith, ints) in (
        ap (λ b. cond b (e.1 ∷ filter (lower row) (values_of es)) (filter (lower row) (values_of es))) less ∙ rest.0,
        ap (λ b. cond b (e.1 ∷ filter (higher row) (values_of es)) (filter (higher row) (values_of es))) more ∙ ap (λ (rs : List Row). e.1 ∷ rs) rest.1,
      )

  -- a row's place among rows, by the order of its key and that of the first
  placed : (row : Row) (k : ℤ) (e : ℤ × Row) (es : List (ℤ × Row)) (o : Ordering) → int_cmp k e.0 ≡ o → key_of def row ≡ k → Keyed def (e ∷ es) → AllByRecursion (λ y. int_cmp e.0 y ≡ Less) (keys_of es)
      → values_of (insert_entry int_cmp es k row) ≡ put def (values_of es) row
      → values_of (match_ordering o ((k, row) ∷ e ∷ es) ((e.0, row) ∷ es) (e ∷ insert_entry int_cmp es k row)) ≡ put def (values_of (e ∷ es)) row
  placed row k e es Less at is keyed up rest =
      let both = above_all row k (e ∷ es) is keyed (at, up_all k e.0 (keys_of es) at up) in
      let made : put def (values_of (e ∷ es)) row ≡ row ∷ values_of (e ∷ es) =
      ap (λ (l : List Row). l ++ row ∷ filter (higher row) (values_of (e ∷ es))) both.0 ∙ ap (λ (h : List Row). row ∷ h) both.1 in
      sym made
  placed row k e es Equal at is keyed up rest =
      let same : k ≡ e.0 = exact_signed k e.0 at in
      let here : e.0 ≡ key_of def e.1 = keyed.0 in
      let key : key_of def e.1 ≡ key_of def row = sym here ∙ (sym same ∙ sym is) in
      let less : int_lt (key_of def e.1) (key_of def row) ≡ false = grind (arith, ints) in
      let more : int_lt (key_of def row) (key_of def e.1) ≡ false = grind (arith, ints) in
      let both = above_all row k es is keyed.1 (subst (λ x. AllByRecursion (λ y. int_cmp x y ≡ Less) (keys_of es)) (sym same) up) in
      let low : filter (lower row) (values_of (e ∷ es)) ≡ [] = ap (λ b. cond b (e.1 ∷ filter (lower row) (values_of es)) (filter (lower row) (values_of es))) less ∙ both.0 in
      let high : filter (higher row) (values_of (e ∷ es)) ≡ values_of es = ap (λ b. cond b (e.1 ∷ filter (higher row) (values_of es)) (filter (higher row) (values_of es))) more ∙ both.1 in
      let made : put def (values_of (e ∷ es)) row ≡ row ∷ values_of es = ap (λ (l : List Row). l ++ row ∷ filter (higher row) (values_of (e ∷ es))) low ∙ ap (λ (h : List Row). row ∷ h) high in
      sym made
  placed row k e es Greater at is keyed up rest =
      let before : int_lt e.0 k ≡ true = beyond k e.0 at in
      let here : e.0 ≡ key_of def e.1 = keyed.0 in
      let less : int_lt (key_of def e.1) (key_of def row) ≡ true = rw is (rw (sym here) before) in
      let more : int_lt (key_of def row) (key_of def e.1) ≡ false = grind (arith, ints) in
      let low : filter (lower row) (values_of (e ∷ es)) ≡ e.1 ∷ filter (lower row) (values_of es) = ap (λ b. cond b (e.1 ∷ filter (lower row) (values_of es)) (filter (lower row) (values_of es))) less in
      let high : filter (higher row) (values_of (e ∷ es)) ≡ filter (higher row) (values_of es) = ap (λ b. cond b (e.1 ∷ filter (higher row) (values_of es)) (filter (higher row) (values_of es))) more in
      let made : put def (values_of (e ∷ es)) row ≡ e.1 ∷ put def (values_of es) row =
      ap (λ (l : List Row). l ++ row ∷ filter (higher row) (values_of (e ∷ es))) low ∙ ap (λ (h : List Row). (e.1 ∷ filter (lower row) (values_of es)) ++ row ∷ h) high in
      ap (λ (rs : List Row). e.1 ∷ rs) rest ∙ sym made

  -- a row put under its key
  pub inserted : (row : Row) (k : ℤ) (es : List (ℤ × Row)) → key_of def row ≡ k → AreKeyed def es → values_of (insert_entry int_cmp es k row) ≡ put def (values_of es) row
  unfolding IsStrictlySortedBy
  inserted row k [] is are = refl
  inserted row k (e ∷ es) is are =
      placed row k e es (int_cmp k e.0) refl is are.keyed are.ordered.0 (inserted row k es is (record { keyed = are.keyed.1; ordered = are.ordered.1 }))

  kept_under : (row : Row) (k : ℤ) (e : ℤ × Row) (es : List (ℤ × Row)) (o : Ordering) → int_cmp k e.0 ≡ o → key_of def row ≡ k → Keyed def (e ∷ es) → Keyed def (insert_entry int_cmp es k row)
      → Keyed def (match_ordering o ((k, row) ∷ e ∷ es) ((e.0, row) ∷ es) (e ∷ insert_entry int_cmp es k row))
  kept_under row k e es Less at is keyed rest = (sym is, keyed)
  kept_under row k e es Equal at is keyed rest = (sym (exact_signed k e.0 at) ∙ sym is, keyed.1)
  kept_under row k e es Greater at is keyed rest = (keyed.0, rest)

  pub inserted_keyed : (row : Row) (k : ℤ) (es : List (ℤ × Row)) → key_of def row ≡ k → Keyed def es → Keyed def (insert_entry int_cmp es k row)
  inserted_keyed row k [] is keyed = (sym is, tt)
  inserted_keyed row k (e ∷ es) is keyed = kept_under row k e es (int_cmp k e.0) refl is keyed (inserted_keyed row k es is keyed.1)

  -- REMOVALS

  abbrev goes : ℤ → Row → Bool
  goes k = has_key_in def (k ∷ [])

  gone : (rows : List Row) (row : Row) (k : ℤ) → int_eq (key_of def row) k ≡ true → without (goes k) (row ∷ rows) ≡ without (goes k) rows
  gone rows row k same = ap (λ b. cond (not (b || false)) (row ∷ without (goes k) rows) (without (goes k) rows)) same

  stays : (rows : List Row) (row : Row) (k : ℤ) → int_eq (key_of def row) k ≡ false → without (goes k) (row ∷ rows) ≡ row ∷ without (goes k) rows
  stays rows row k other = ap (λ b. cond (not (b || false)) (row ∷ without (goes k) rows) (without (goes k) rows)) other

  none_goes : (k : ℤ) (es : List (ℤ × Row)) → Keyed def es → AllByRecursion (λ y. int_cmp k y ≡ Less) (keys_of es) → without (goes k) (values_of es) ≡ values_of es
  none_goes k [] keyed up = refl
  none_goes k (e ∷ es) keyed up =
      let at : int_lt k e.0 ≡ true = below k e.0 up.0 in
      let here : e.0 ≡ key_of def e.1 = keyed.0 in
      let more : int_lt k (key_of def e.1) ≡ true = rw (sym here) at in
      let other : int_eq (key_of def e.1) k ≡ false = grind (arith, ints) in
      stays (values_of es) e.1 k other ∙ ap (λ (rs : List Row). e.1 ∷ rs) (none_goes k es keyed.1 up.1)

  taken : (k : ℤ) (e : ℤ × Row) (es : List (ℤ × Row)) (b : Bool) → int_eq k e.0 ≡ b → Keyed def (e ∷ es) → AllByRecursion (λ y. int_cmp e.0 y ≡ Less) (keys_of es)
      → values_of (remove_entry (is_at (int_cmp k)) es) ≡ without (goes k) (values_of es)
      → values_of (cond b es (e ∷ remove_entry (is_at (int_cmp k)) es)) ≡ without (goes k) (values_of (e ∷ es))
  taken k e es true at keyed up rest =
      let here : e.0 ≡ key_of def e.1 = keyed.0 in
      let same : k ≡ e.0 = grind (arith, ints) in
      let key : key_of def e.1 ≡ k = sym here ∙ sym same in
      let equal : int_eq (key_of def e.1) k ≡ true = grind (arith, ints) in
      sym (gone (values_of es) e.1 k equal ∙ none_goes k es keyed.1 (subst (λ x. AllByRecursion (λ y. int_cmp x y ≡ Less) (keys_of es)) (sym same) up))
  taken k e es false at keyed up rest =
      let here : e.0 ≡ key_of def e.1 = keyed.0 in
      let apart : int_eq k (key_of def e.1) ≡ false = rw (sym here) at in
      let other : int_eq (key_of def e.1) k ≡ false = grind (arith, ints) in
      ap (λ (rs : List Row). e.1 ∷ rs) rest ∙ sym (stays (values_of es) e.1 k other)

  -- the row under a key taken away
  pub removed : (k : ℤ) (es : List (ℤ × Row)) → AreKeyed def es → values_of (remove_entry (is_at (int_cmp k)) es) ≡ without (has_key_in def (k ∷ [])) (values_of es)
  unfolding IsStrictlySortedBy
  removed k [] are = refl
  removed k (e ∷ es) are = taken k e es (int_eq k e.0) refl are.keyed are.ordered.0 (removed k es (record { keyed = are.keyed.1; ordered = are.ordered.1 }))

  left_keyed : (e : ℤ × Row) (es rest : List (ℤ × Row)) (b : Bool) → Keyed def (e ∷ es) → Keyed def rest → Keyed def (cond b es (e ∷ rest))
  left_keyed e es rest true keyed more = keyed.1
  left_keyed e es rest false keyed more = (keyed.0, more)

  pub removed_keyed : (test : ℤ → Bool) (es : List (ℤ × Row)) → Keyed def es → Keyed def (remove_entry test es)
  removed_keyed test [] keyed = tt
  removed_keyed test (e ∷ es) keyed = left_keyed e es (remove_entry test es) (test e.0) keyed (removed_keyed test es keyed.1)

  -- first one key, then others
  fused : (rows : List Row) (row : Row) (k : ℤ) (ks : List ℤ) (b : Bool) → int_eq (key_of def row) k ≡ b → without (has_key_in def ks) (without (goes k) rows) ≡ without (has_key_in def (k ∷ ks)) rows
      → without (has_key_in def ks) (cond (not (b || false)) (row ∷ without (goes k) rows) (without (goes k) rows)) ≡ cond (not (b || has_key_in def ks row)) (row ∷ without (has_key_in def (k ∷ ks)) rows) (without (has_key_in def (k ∷ ks)) rows)
  fused rows row k ks true at rest = rest
  fused rows row k ks false at rest = ap (λ (l : List Row). cond (not (has_key_in def ks row)) (row ∷ l) l) rest

  pub without_more : (k : ℤ) (ks : List ℤ) (rows : List Row) → without (has_key_in def ks) (without (has_key_in def (k ∷ [])) rows) ≡ without (has_key_in def (k ∷ ks)) rows
  without_more k ks [] = refl
  without_more k ks (row ∷ rows) = fused rows row k ks (int_eq (key_of def row) k) refl (without_more k ks rows)

  pub without_none : (rows : List Row) → without (has_key_in def []) rows ≡ rows
  without_none [] = refl
  without_none (row ∷ rows) = ap (λ (l : List Row). row ∷ l) (without_none rows)

  -- CLEARS

  abbrev outside : ℤ → ℤ → ℤ × Row → Bool
  outside low high e = not (int_le low e.0 && int_le e.0 high)

  cleared_by : (low high : ℤ) (e : ℤ × Row) (left : List (ℤ × Row)) (rows : List Row) (b : Bool) → values_of left ≡ rows → values_of (cond b (e ∷ left) left) ≡ cond b (e.1 ∷ rows) rows
  cleared_by low high e left rows true rest = ap (λ (l : List Row). e.1 ∷ l) rest
  cleared_by low high e left rows false rest = rest

  pub cleared : (low high : ℤ) (es : List (ℤ × Row)) → Keyed def es → values_of (filter (outside low high) es) ≡ without (has_key_from def low high) (values_of es)
  cleared low high [] keyed = refl
  cleared low high (e ∷ es) keyed =
      let here : e.0 ≡ key_of def e.1 = keyed.0 in
      let rows : List Row = without (has_key_from def low high) (values_of es) in
      cleared_by low high e (filter (outside low high) es) rows (outside low high e) (cleared low high es keyed.1)
      ∙ ap (λ k. cond (not (int_le low k && int_le k high)) (e.1 ∷ rows) rows) here

  kept_keyed : (e : ℤ × Row) (rest : List (ℤ × Row)) (b : Bool) → e.0 ≡ key_of def e.1 → Keyed def rest → Keyed def (cond b (e ∷ rest) rest)
  kept_keyed e rest true here more = (here, more)
  kept_keyed e rest false here more = more

  pub cleared_keyed : (test : ℤ × Row → Bool) (es : List (ℤ × Row)) → Keyed def es → Keyed def (filter test es)
  cleared_keyed test [] keyed = tt
  cleared_keyed test (e ∷ es) keyed = kept_keyed e (filter test es) (test e) keyed.0 (cleared_keyed test es keyed.1)

  -- PUTS IN TURN

  pub put_more : (rows : List Row) (row : Row) (more : List Row) → put_all def rows (row ∷ more) ≡ put_all def (put def rows row) more
  unfolding put_all
  put_more rows row more = refl

  pub put_none : (rows : List Row) → put_all def rows [] ≡ rows
  unfolding put_all
  put_none rows = refl

-- TABLES

-- what is kept under keys, as a table
abbrev pub as_table : TableDef → List (ℤ × Row) → Table
as_table def es = record { def = def; rows = values_of es }

pub seen_as : (f : TableDef → List Row → List Row) (def : TableDef) (old : Table) (es fs : List (ℤ × Row)) → as_table def es ≡ old → values_of fs ≡ f def (values_of es) → as_table def fs ≡ record old { rows = f old.def old.rows }
seen_as f def old es fs is step =
    let P : Table → Type 0 = λ t. as_table def fs ≡ record t { rows = f t.def t.rows } in
    let with_rows : List Row → Table = λ rows. record { def = def; rows = rows } in
    subst P is (ap with_rows step)

pub insert_keeps : (def : TableDef) (row : Row) (k : ℤ) (es fs : List (ℤ × Row)) → fs ≡ insert_entry int_cmp es k row → key_of def row ≡ k → AreKeyed def es → IsStrictlySortedBy int_cmp (keys_of fs) → AreKeyed def fs
insert_keeps def row k es fs made is are sorted = record { keyed = subst (Keyed def) (sym made) (inserted_keyed def row k es is are.keyed); ordered = sorted }

pub remove_keeps : (def : TableDef) (k : ℤ) (es fs : List (ℤ × Row)) → fs ≡ remove_entry (is_at (int_cmp k)) es → AreKeyed def es → IsStrictlySortedBy int_cmp (keys_of fs) → AreKeyed def fs
remove_keeps def k es fs made are sorted = record { keyed = subst (Keyed def) (sym made) (removed_keyed def (is_at (int_cmp k)) es are.keyed); ordered = sorted }

pub clear_keeps : (def : TableDef) (low high : ℤ) (es fs : List (ℤ × Row)) → fs ≡ filter (outside def low high) es → AreKeyed def es → IsStrictlySortedBy int_cmp (keys_of fs) → AreKeyed def fs
clear_keeps def low high es fs made are sorted = record { keyed = subst (Keyed def) (sym made) (cleared_keyed def (outside def low high) es are.keyed); ordered = sorted }
