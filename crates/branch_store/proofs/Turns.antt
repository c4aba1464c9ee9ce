-- Loops that change a table or gather rows, one step after the other.
use Rattle.std.proofs.Common.{◌≡◌, ℕ, ◌+◌, ◌-◌, ◌<◌, ◌≤◌, suc, zero, Bool, true, false, ◌||◌, not, List, [], ◌∷◌, ◌++◌, refl, arith, sym, ◌∙◌, ap, subst, cond, length, take, drop, set, get_or, map, add-one, length-append, append_assoc}
use Rattle.std.specs.List.{filter, list_any}
use Rattle.std.proofs.lemmas.List.{take_all, drop_more}
use Rattle.std.proofs.lemmas.List.Filters.{length-filter_both}
use Rattle.sql_values.specs.declared.table.TableDef.{TableDef}
use Rattle.plain_tables.specs.Rows.{Row}
use Rattle.branch_store.specs.declared.branch.Change.{Change}
use Rattle.branch_store.specs.declared.branch.Change.TheVariants.{Put, Del, Clear}
use Rattle.branch_store.specs.Changes.{after, changed, has_key_in, has_key_from, is_of, without}
use Rattle.plain_tables.specs.Inserts.{put_all}
use Rattle.branch_store.specs.Store.{changed_table, count_seen}
use Rattle.branch_store.specs.Tables.{Table}

-- `whole` does `one` at each element of a list
module _ {A : Type 0} (whole : TableDef → List Row → List A → List Row) (one : TableDef → List Row → A → List Row) where
  -- what is left to do, and what has been done, in all
  pub turn : (more : (def : TableDef) (rows : List Row) (x : A) (xs : List A) → whole def rows (x ∷ xs) ≡ whole def (one def rows x) xs)
      → (old now new : Table) (x y : A) (left rest all : List A) → new ≡ record now { rows = one now.def now.rows y } → y ≡ x → left ≡ x ∷ rest → now.def ≡ old.def → whole now.def now.rows left ≡ whole now.def old.rows all
      → (new.def ≡ old.def) × (whole new.def new.rows rest ≡ whole new.def old.rows all)
  turn more old now new x y left rest all made is next same so_far =
      let P : Table → Type 0 = λ t. (t.def ≡ old.def) × (whole t.def t.rows rest ≡ whole t.def old.rows all) in
      let step : whole now.def (one now.def now.rows y) rest ≡ whole now.def now.rows left =
      ap (λ (z : A). whole now.def (one now.def now.rows z) rest) is ∙ (sym (more now.def now.rows x rest) ∙ ap (λ (l : List A). whole now.def now.rows l) (sym next)) in
      subst P (sym made) (same, step ∙ so_far)

  pub last : (none : (def : TableDef) (rows : List Row) → whole def rows [] ≡ rows)
      → (old now : Table) (left all : List A) → left ≡ [] → now.def ≡ old.def → whole now.def now.rows left ≡ whole now.def old.rows all → now ≡ record old { rows = whole old.def old.rows all }
  last none old now left all end same so_far =
      let with_def : TableDef → Table = λ def. record { def = def; rows = now.rows } in
      let with_rows : List Row → Table = λ rows. record { def = old.def; rows = rows } in
      let rows : now.rows ≡ whole old.def old.rows all =
      sym (none now.def now.rows) ∙ (ap (λ (l : List A). whole now.def now.rows l) (sym end) ∙ (so_far ∙ ap (λ (d : TableDef). whole d old.rows all) same)) in
      ap with_def same ∙ ap with_rows rows

module _ {X : Type 0} where
  -- one more element is copied
  pub copied_more : (rows new left it all : List X) (x y : X) → new ≡ rows ++ y ∷ [] → y ≡ x → it ≡ x ∷ left → rows ++ it ≡ all → new ++ left ≡ all
  copied_more rows new left it all x y made is next so_far =
      ap (λ (l : List X). l ++ left) made ∙ (append_assoc rows (y ∷ []) left ∙ (ap (λ (z : X). rows ++ z ∷ left) is ∙ (ap (λ (l : List X). rows ++ l) (sym next) ∙ so_far)))

  took_by : (rows rest : List X) (x : X) (m n : ℕ) → m ≡ suc n → rows ++ take m (x ∷ rest) ≡ (rows ++ x ∷ []) ++ take n rest
  took_by rows rest x m n is = ap (λ k. rows ++ take k (x ∷ rest)) is ∙ sym (append_assoc rows (x ∷ []) (take n rest))

  -- one more element that passes is taken, while there are fewer than `most`
  pub took : (p : X → Bool) (most : ℕ) (rows new left it all : List X) (x y : X) → new ≡ rows ++ y ∷ [] → y ≡ x → it ≡ x ∷ left → p x ≡ true → length rows < most
      → rows ++ take (most - length rows) (filter p it) ≡ all → (length new ≤ most) × (new ++ take (most - length new) (filter p left) ≡ all)
  took p most rows new left it all x y made is next pass few so_far =
      let now : new ≡ rows ++ x ∷ [] = made ∙ ap (λ (z : X). rows ++ z ∷ []) is in
      let long : length new ≡ length rows + 1 = ap length now ∙ length-append rows (x ∷ []) in
      let found : filter p it ≡ x ∷ filter p left = ap (filter p) next ∙ ap (λ b. cond b (x ∷ filter p left) (filter p left)) pass in (
        omega arith,
        ap (λ (l : List X). l ++ take (most - length new) (filter p left)) now
            ∙ (sym (took_by rows (filter p left) x (most - length rows) (most - length new) (omega arith))
            ∙ (ap (λ (l : List X). rows ++ take (most - length rows) l) (sym found) ∙ so_far)),
      )

  shorter : (p : X → Bool) (x : X) (xs : List X) (b : Bool) → length (filter p xs) ≤ length xs → length (cond b (x ∷ filter p xs) (filter p xs)) ≤ length (x ∷ xs)
  shorter p x xs true less = omega arith
  shorter p x xs false less = omega arith

  -- a filter keeps at most as many as there are
  pub kept_few : (p : X → Bool) (xs : List X) → length (filter p xs) ≤ length xs
  kept_few p [] = omega arith
  kept_few p (x ∷ xs) = shorter p x xs (p x) (kept_few p xs)

  pub all_taken : (p : X → Bool) (xs : List X) → take (length xs) (filter p xs) ≡ filter p xs
  all_taken p xs = take_all (length xs) (filter p xs) (kept_few p xs)

-- A LIST FROM A PLACE ON

module _ {X : Type 0} where
  set_there : (old : List X) (p : ℕ) (t : X) (more : List X) → p < length old → set (take (suc p) old ++ more) p t ≡ take p old ++ t ∷ more
  set_there [] p t more within = let no : ⊥ = omega arith in absurd no
  set_there (x ∷ xs) zero t more within = refl
  set_there (x ∷ xs) (suc p) t more within = ap (λ (l : List X). x ∷ l) (set_there xs p t more (omega arith))

  pub change_placed : (f : X → X) (old new : List X) (p : ℕ) (x t : X) → p < length old → new ≡ take (p + 1) old ++ map f (drop (p + 1) old) → x ≡ get_or old p x → t ≡ f x → set new p t ≡ take p old ++ map f (drop p old)
  change_placed f old new p x t within made at is =
      let rest : List X = map f (drop (p + 1) old) in
      let next : drop p old ≡ x ∷ drop (p + 1) old = drop_more old p x within ∙ ap (λ (z : X). z ∷ drop (p + 1) old) (sym at) in
      let front : take (p + 1) old ≡ take (suc p) old = ap (λ n. take n old) (add-one p) in
      ap (λ (l : List X). set l p t) (made ∙ ap (λ (l : List X). l ++ rest) front)
      ∙ (set_there old p t rest within ∙ (ap (λ (z : X). take p old ++ z ∷ rest) is ∙ ap (λ (l : List X). take p old ++ map f l) (sym next)))

-- CHANGES OF OTHER TABLES

apart_by : (b c : Bool) → (b || c) ≡ false → (b ≡ false) × (c ≡ false)
apart_by true c is = let no : ⊥ = cc in absurd no
apart_by false c is = (refl, is)

same_rows : (def : TableDef) (rows : List Row) (change : Change) → is_of def change ≡ false → changed def rows change ≡ rows
same_rows def rows (Put table news) apart = ap (λ b. cond b (put_all def rows news) rows) apart
same_rows def rows (Del table keys) apart = ap (λ b. cond b (without (has_key_in def keys) rows) rows) apart
same_rows def rows (Clear table low high) apart = ap (λ b. cond b (without (has_key_from def low high) rows) rows) apart

pub not_changed : (def : TableDef) (changes : List Change) (rows : List Row) → list_any (is_of def) changes ≡ false → after def changes rows ≡ rows
not_changed def [] rows apart = refl
not_changed def (change ∷ changes) rows apart =
    let each = apart_by (is_of def change) (list_any (is_of def) changes) apart in
    ap (λ (rs : List Row). after def changes rs) (same_rows def rows change each.0) ∙ not_changed def changes rows each.1

-- COUNTS

-- a table as changes leave it, and then without the rows that pass a test: as many went as passed
pub counted : (test : TableDef → Row → Bool) (changes : List Change) (self old new : Table) (before now : ℕ) → old ≡ changed_table changes self → new ≡ record old { rows = without (test old.def) old.rows } → before ≡ length old.rows → now ≡ length new.rows
    → (now ≤ before) × (before - now ≡ count_seen changes self (test self.def))
counted test changes self old new before now seen gone first second =
    let both = length-filter_both (test old.def) (λ row. not (test old.def row)) (λ row. refl) old.rows in
    let left : now ≡ length (without (test old.def) old.rows) = second ∙ ap (λ (t : Table). length t.rows) gone in (
      omega arith,
      (let went : before - now ≡ length (filter (test old.def) old.rows) = omega arith in went ∙ ap (λ (t : Table). length (filter (test t.def) t.rows)) seen),
    )
