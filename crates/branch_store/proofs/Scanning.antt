-- Rows found by intervals of keys, and changes made to these alone.
use Rattle.std.proofs.Common.{◌≡◌, ℕ, ◌-◌, ◌≤◌, zero, suc, ℤ, pos, ◌+ℤ◌, ◌≤ℤ◌, Bool, true, false, not, ◌&&◌, ◌||◌, List, [], ◌∷◌, ◌++◌, ◌+◌, refl, arith, sym, ◌∙◌, ap, subst, cond, inl, inr, length, take, length-append, append_assoc, append-nil}
use Rattle.std.specs.Prelude.{int_lt, int_le}
use Rattle.std.specs.List.{AllByRecursion, filter}
use Rattle.std.specs.List.Sorted.{IsStrictlySortedBy}
use Rattle.std.specs.declared.cmp.Ordering.TheVariants.{Less}
use Rattle.std.proofs.lemmas.Bool.{cases_Bool, false≢true}
use Rattle.std.proofs.lemmas.Int.{ints}
use Rattle.std.proofs.lemmas.List.Elements.{filter-append, Contains-append_right}
use Rattle.sql_values.specs.declared.places.Interval.{Interval}
use Rattle.sql_values.specs.declared.table.TableDef.{TableDef}
use Rattle.sql_values.specs.KeySets.{has_key, is_within, RisesFrom, IsNormal}
use Rattle.plain_tables.specs.Inserts.{put, put_all}
use Rattle.plain_tables.specs.Rows.{Row, Rises, by_key, key_of}
use Rattle.plain_tables.proofs.Members.{all_of, at_front}
use Rattle.branch_store.specs.declared.branch.Change.{Change}
use Rattle.branch_store.specs.declared.branch.Change.TheVariants.{Put, Del, Clear}
use Rattle.branch_store.specs.Changes.{after, changed, has_key_in, has_key_from, is_called, without}
use Rattle.branch_store.specs.Scanning.{lies_among, lies_within}
use Rattle.branch_store.proofs.Keyed.{below, put_more, put_none}

-- FILTERS

off : (b c : Bool) → b ≡ false → (c ≡ true → b ≡ true) → c ≡ false
off b true is gives = absurd (false≢true (sym is ∙ gives refl))
off b false is gives = refl

module _ {X : Type 0} (p q : X → Bool) where
  missed_by : (x : X) (xs : List X) (b : Bool) → p x ≡ b → (q x ≡ true → p x ≡ true) → filter q (filter p xs) ≡ filter q xs → filter q (cond b (x ∷ filter p xs) (filter p xs)) ≡ cond (q x) (x ∷ filter q xs) (filter q xs)
  missed_by x xs true is gives rest = ap (λ (l : List X). cond (q x) (x ∷ l) l) rest
  missed_by x xs false is gives rest = rest ∙ sym (ap (λ b. cond b (x ∷ filter q xs) (filter q xs)) (off (p x) (q x) is gives))

  -- a filter before a stronger one
  pub missed : (xs : List X) → AllByRecursion (λ x. q x ≡ true → p x ≡ true) xs → filter q (filter p xs) ≡ filter q xs
  missed [] all = refl
  missed (x ∷ xs) all = missed_by x xs (p x) refl all.0 (missed xs all.1)

  twice_kept : (x : X) (xs ys : List X) (c : Bool) → filter p xs ≡ filter p ys → filter p (cond c (x ∷ xs) xs) ≡ filter p (cond c (x ∷ ys) ys)
  twice_kept x xs ys true rest = ap (λ (l : List X). cond (p x) (x ∷ l) l) rest
  twice_kept x xs ys false rest = rest

  twice_left : (x : X) (xs ys : List X) (c : Bool) → p x ≡ false → filter p xs ≡ filter p ys → filter p xs ≡ filter p (cond c (x ∷ ys) ys)
  twice_left x xs ys true is rest = rest ∙ sym (ap (λ b. cond b (x ∷ filter p ys) (filter p ys)) is)
  twice_left x xs ys false is rest = rest

  twice_by : (x : X) (xs : List X) (b : Bool) → p x ≡ b → filter p (filter q (filter p xs)) ≡ filter p (filter q xs) → filter p (filter q (cond b (x ∷ filter p xs) (filter p xs))) ≡ filter p (cond (q x) (x ∷ filter q xs) (filter q xs))
  twice_by x xs true is rest = twice_kept x (filter q (filter p xs)) (filter q xs) (q x) rest
  twice_by x xs false is rest = twice_left x (filter q (filter p xs)) (filter q xs) (q x) is rest

  twice : (xs : List X) → filter p (filter q (filter p xs)) ≡ filter p (filter q xs)
  twice [] = refl
  twice (x ∷ xs) = twice_by x xs (p x) refl (twice xs)

module _ {X : Type 0} (p : X → Bool) where
  all_same : (xs : List X) → AllByRecursion (λ x. p x ≡ true → p x ≡ true) xs
  all_same [] = tt
  all_same (x ∷ xs) = ((λ is. is), all_same xs)

  once : (xs : List X) → filter p (filter p xs) ≡ filter p xs
  once xs = missed p p xs (all_same xs)

-- CHANGES OF SOME ROWS

-- what it leaves of the rows that pass doesn't hang on the others
abbrev IsLocal : (Row → Bool) → (List Row → List Row) → Type 0
IsLocal p f = (rows : List Row) → filter p (f (filter p rows)) ≡ filter p (f rows)

module _ (p : Row → Bool) where
  then_local : (f g : List Row → List Row) → IsLocal p f → IsLocal p g → IsLocal p (λ rows. g (f rows))
  then_local f g first second rows = sym (second (f (filter p rows))) ∙ (ap (λ (l : List Row). filter p (g l)) (first rows) ∙ second (f rows))

  if_local : (f : List Row → List Row) (b : Bool) → IsLocal p f → IsLocal p (λ rows. cond b (f rows) rows)
  if_local f true local rows = local rows
  if_local f false local rows = once p rows

  put_local : (def : TableDef) (row : Row) → IsLocal p (λ rows. put def rows row)
  put_local def row rows =
      let low : Row → Bool = λ r. int_lt (key_of def r) (key_of def row) in
      let high : Row → Bool = λ r. int_lt (key_of def row) (key_of def r) in
      let some : List Row = filter p rows in
      filter-append p (filter low some) (row ∷ filter high some)
      ∙ (ap (λ (l : List Row). l ++ filter p (row ∷ filter high some)) (twice p low rows)
      ∙ (ap (λ (l : List Row). filter p (filter low rows) ++ cond (p row) (row ∷ l) l) (twice p high rows)
      ∙ sym (filter-append p (filter low rows) (row ∷ filter high rows))))

  put_all_local : (def : TableDef) (news : List Row) → IsLocal p (λ rows. put_all def rows news)
  put_all_local def [] rows = ap (λ (l : List Row). filter p l) (put_none def (filter p rows)) ∙ (once p rows ∙ ap (λ (l : List Row). filter p l) (sym (put_none def rows)))
  put_all_local def (row ∷ news) rows =
      ap (λ (l : List Row). filter p l) (put_more def (filter p rows) row news)
      ∙ (then_local (λ rs. put def rs row) (λ rs. put_all def rs news) (put_local def row) (put_all_local def news) rows
      ∙ ap (λ (l : List Row). filter p l) (sym (put_more def rows row news)))

  without_local : (test : Row → Bool) → IsLocal p (without test)
  without_local test rows = twice p (λ row. not (test row)) rows

  change_local : (def : TableDef) (change : Change) → IsLocal p (λ rows. changed def rows change)
  change_local def (Put name news) rows = if_local (λ rs. put_all def rs news) (is_called name def) (put_all_local def news) rows
  change_local def (Del name keys) rows = if_local (without (has_key_in def keys)) (is_called name def) (without_local (has_key_in def keys)) rows
  change_local def (Clear name low high) rows = if_local (without (has_key_from def low high)) (is_called name def) (without_local (has_key_from def low high)) rows

  pub after_local : (def : TableDef) (changes : List Change) → IsLocal p (after def changes)
  after_local def [] rows = once p rows
  after_local def (change ∷ changes) rows = then_local (λ rs. changed def rs change) (after def changes) (change_local def change) (after_local def changes) rows

-- ROWS PUT IN THEIR ORDER

module _ (def : TableDef) where
  abbrev lower : Row → Row → Bool
  lower row r = int_lt (key_of def r) (key_of def row)

  abbrev higher : Row → Row → Bool
  higher row r = int_lt (key_of def row) (key_of def r)

  all_lower : (done : List Row) (row : Row) (more : List Row) → Rises def (done ++ row ∷ more) → (filter (lower row) done ≡ done) × (filter (higher row) done ≡ [])
  unfolding IsStrictlySortedBy
  all_lower [] row more rises = (refl, refl)
  all_lower (d ∷ done) row more rises =
      let rest = all_lower done row more rises.1 in
      let at : int_lt (key_of def d) (key_of def row) ≡ true = below (key_of def d) (key_of def row) (all_of (λ r. by_key def d r ≡ Less) (done ++ row ∷ more) row rises.0 (Contains-append_right done (row ∷ more) row (at_front row more))) in
      let not_at : int_lt (key_of def row) (key_of def d) ≡ false = grind (arith, ints) in (
        ap (λ b. cond b (d ∷ filter (lower row) done) (filter (lower row) done)) at ∙ ap (λ (l : List Row). d ∷ l) rest.0,
        ap (λ b. cond b (d ∷ filter (higher row) done) (filter (higher row) done)) not_at ∙ rest.1,
      )

  pub put_onto : (done news : List Row) → Rises def (done ++ news) → put_all def done news ≡ done ++ news
  put_onto done [] rises = put_none def done ∙ sym (append-nil done)
  put_onto done (row ∷ news) rises =
      let each = all_lower done row news rises in
      let one : put def done row ≡ done ++ row ∷ [] = ap (λ (l : List Row). l ++ row ∷ filter (higher row) done) each.0 ∙ ap (λ (l : List Row). done ++ row ∷ l) each.1 in
      let same : (done ++ row ∷ []) ++ news ≡ done ++ row ∷ news = append_assoc done (row ∷ []) news in
      put_more def done row news
      ∙ (ap (λ (l : List Row). put_all def l news) one ∙ (put_onto (done ++ row ∷ []) news (subst (λ (l : List Row). Rises def l) (sym same) rises) ∙ same))

-- INTERVALS THAT RISE

too_low : (low key : ℤ) (is : List Interval) → RisesFrom low is → int_lt key low ≡ true → has_key is key ≡ false
too_low low key [] rises under = refl
too_low low key (i ∷ is) rises under =
    let from : low ≤ℤ i.low = rises.0 in
    let fills : i.low ≤ℤ i.high = rises.1 in
    let here : int_le i.low key ≡ false = grind (arith, ints) in
    let next : int_lt key (i.high +ℤ pos 2) ≡ true = grind (arith, ints) in
    ap (λ b. (b && int_le key i.high) || has_key is key) here ∙ too_low (i.high +ℤ pos 2) key is rises.2 next

pub normal_tail : (i : Interval) (is : List Interval) → IsNormal (i ∷ is) → IsNormal is
normal_tail i [] normal = tt
normal_tail i (j ∷ js) normal = let same : j.low ≤ℤ j.low = grind (arith, ints) in (same, normal.2.1, normal.2.2)

pub normal_filled : (i : Interval) (is : List Interval) → IsNormal (i ∷ is) → i.low ≤ℤ i.high
normal_filled i is normal = normal.1

within_not : (key : ℤ) (i : Interval) → int_lt i.high key ≡ true → is_within key i ≡ false
within_not key i over =
    let past : int_le key i.high ≡ false = grind (arith, ints) in
    ap (λ b. int_le i.low key && b) past ∙ never (int_le i.low key)
  where
    never : (b : Bool) → (b && false) ≡ false
    never true = refl
    never false = refl

within_high : (key : ℤ) (i : Interval) → is_within key i ≡ true → int_lt key (i.high +ℤ pos 2) ≡ true
within_high key i is = let last : int_le key i.high ≡ true = second (int_le i.low key) (int_le key i.high) is in grind (arith, ints)
  where
    second : (a b : Bool) → (a && b) ≡ true → b ≡ true
    second true b both = both
    second false b both = absurd (false≢true both)

module _ (def : TableDef) where
  none_within : (key : ℤ) (i : Interval) (row : Row) (rows : List Row) → int_lt i.high (key_of def row) ≡ true → AllByRecursion (λ r. by_key def row r ≡ Less) rows → filter (lies_within def i) rows ≡ []
  none_within key i row [] over up = refl
  none_within key i row (r ∷ rows) over up =
      let more : int_lt (key_of def row) (key_of def r) ≡ true = below (key_of def row) (key_of def r) up.0 in
      let past : int_lt i.high (key_of def r) ≡ true = grind (arith, ints) in
      ap (λ b. cond b (r ∷ filter (lies_within def i) rows) (filter (lies_within def i) rows)) (within_not (key_of def r) i past) ∙ none_within key i row rows over up.1

  -- a row of the first interval, of a later one, of none
  parted_by : (i : Interval) (is : List Interval) (row : Row) (rows : List Row) (b c : Bool) → is_within (key_of def row) i ≡ b → has_key is (key_of def row) ≡ c → RisesFrom (i.high +ℤ pos 2) is → AllByRecursion (λ r. by_key def row r ≡ Less) rows
      → filter (lies_among def (i ∷ is)) rows ≡ filter (lies_within def i) rows ++ filter (lies_among def is) rows
      → cond (b || c) (row ∷ filter (lies_among def (i ∷ is)) rows) (filter (lies_among def (i ∷ is)) rows)
      ≡ cond b (row ∷ filter (lies_within def i) rows) (filter (lies_within def i) rows) ++ cond c (row ∷ filter (lies_among def is) rows) (filter (lies_among def is) rows)
  parted_by i is row rows true true here later rises up rest = absurd (false≢true (sym (too_low (i.high +ℤ pos 2) (key_of def row) is rises (within_high (key_of def row) i here)) ∙ later))
  parted_by i is row rows true false here later rises up rest = ap (λ (l : List Row). row ∷ l) rest
  parted_by i is row rows false true here later rises up rest =
      let past : int_lt i.high (key_of def row) ≡ true = elim (cases_Bool (int_lt (key_of def row) (i.high +ℤ pos 2))) [
        | inl under ↦ absurd (false≢true (sym (too_low (i.high +ℤ pos 2) (key_of def row) is rises under) ∙ later))
        | inr beyond ↦ grind (arith, ints)
      ] in
      let nothing : filter (lies_within def i) rows ≡ [] = none_within (key_of def row) i row rows past up in
      ap (λ (l : List Row). row ∷ l) (rest ∙ ap (λ (l : List Row). l ++ filter (lies_among def is) rows) nothing) ∙ sym (ap (λ (l : List Row). l ++ row ∷ filter (lies_among def is) rows) nothing)
  parted_by i is row rows false false here later rises up rest = rest

  -- the rows of intervals that rise are those of the first, and then the others
  pub parted : (i : Interval) (is : List Interval) (rows : List Row) → IsNormal (i ∷ is) → Rises def rows → filter (lies_among def (i ∷ is)) rows ≡ filter (lies_within def i) rows ++ filter (lies_among def is) rows
  unfolding IsStrictlySortedBy
  parted i is [] normal rises = refl
  parted i is (row ∷ rows) normal rises = parted_by i is row rows (is_within (key_of def row) i) (has_key is (key_of def row)) refl refl normal.2 rises.0 (parted i is rows normal rises.1)

  pub none_among : (rows : List Row) → filter (lies_among def []) rows ≡ []
  none_among [] = refl
  none_among (row ∷ rows) = none_among rows

-- AT MOST SO MANY

module _ {X : Type 0} where
  pub take_join : (n : ℕ) (xs ys : List X) → take n xs ++ take (n - length (take n xs)) ys ≡ take n (xs ++ ys)
  take_join zero xs ys = refl
  take_join (suc n) [] ys = let e : suc n - length (take {A = X} (suc n) []) ≡ suc n = omega arith in ap (λ (k : ℕ). take k ys) e
  take_join (suc n) (x ∷ xs) ys = let e : suc n - suc (length (take n xs)) ≡ n - length (take n xs) = omega arith in
      ap (λ (k : ℕ). x ∷ (take n xs ++ take k ys)) e ∙ ap (λ (l : List X). x ∷ l) (take_join n xs ys)

  take_few : (n : ℕ) (xs : List X) → length (take n xs) ≤ n
  take_few zero xs = omega arith
  take_few (suc n) [] = omega arith
  take_few (suc n) (x ∷ xs) = let less = take_few n xs in omega arith

  -- the first of some, and then of the others
  pub took_more : (most : ℕ) (old new xs ys all : List X) → length old ≤ most → new ≡ old ++ take (most - length old) xs → old ++ take (most - length old) (xs ++ ys) ≡ all → (length new ≤ most) × (new ++ take (most - length new) ys ≡ all)
  took_more most old new xs ys all few made so_far =
      let m : ℕ = most - length old in
      let less : length (take m xs) ≤ m = take_few m xs in
      let long : length new ≡ length old + length (take m xs) = ap length made ∙ length-append old (take m xs) in
      let left : most - length new ≡ m - length (take m xs) = omega arith in (
        omega arith,
        ap (λ (l : List X). l ++ take (most - length new) ys) made
            ∙ (ap (λ (k : ℕ). (old ++ take m xs) ++ take k ys) left
            ∙ (append_assoc old (take m xs) (take (m - length (take m xs)) ys) ∙ (ap (λ (l : List X). old ++ l) (take_join m xs ys) ∙ so_far))),
      )
