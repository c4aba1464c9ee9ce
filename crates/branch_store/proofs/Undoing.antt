-- Rows that were put, taken back.
use Rattle.std.proofs.Common.{◌≡◌, ℕ, zero, suc, ◌<◌, ℤ, Bool, true, false, List, [], ◌∷◌, ◌++◌, Option, Some, None, refl, arith, sym, ◌∙◌, ap, subst, cond, length, set, get_or}
use Rattle.std.specs.Prelude.{int_lt}
use Rattle.std.specs.BTreeMap.{is_at, insert_entry}
use Rattle.std.specs.List.{AllByRecursion}
use Rattle.std.specs.List.Sorted.{IsStrictlySortedBy}
use Rattle.std.specs.Map.{keys_of, values_of, lookup, remove_entry, set_value}
use Rattle.std.specs.Ordering.{int_cmp, int_eq, match_ordering}
use Rattle.std.specs.declared.cmp.Ordering.{Ordering}
use Rattle.std.specs.declared.cmp.Ordering.TheVariants.{Less, Equal, Greater}
use Rattle.std.proofs.lemmas.Int.{ints}
use Rattle.std.proofs.lemmas.Map.Lookups.{exact_signed}
use Rattle.sql_values.specs.declared.table.TableDef.{TableDef}
use Rattle.plain_tables.specs.Rows.{Row, key_of}
use Rattle.branch_store.specs.declared.remote_table.writing.Before.{Before}
use Rattle.branch_store.specs.Keyed.{AreKeyed}
use Rattle.branch_store.specs.Lists.{changed_first}
use Rattle.branch_store.specs.Tables.{Table}
use Rattle.branch_store.specs.Undoing.{before_of, undone, undone_one}
use Rattle.branch_store.proofs.Keyed.{Keyed, below, beyond, up_all, removed}

-- ONE MORE

pub undone_push : (def : TableDef) (rows : List Row) (log : List Before) (before : Before) → undone def rows (log ++ before ∷ []) ≡ undone def (undone_one def rows before) log
undone_push def rows [] before = refl
undone_push def rows (first ∷ log) before = ap (λ (rs : List Row). undone_one def rs first) (undone_push def rows log before)

-- the last of a log is taken back
pub popped : (old now new : Table) (before : Before) (log left all : List Before) → new ≡ record now { rows = undone_one now.def now.rows before } → log ≡ left ++ before ∷ [] → now.def ≡ old.def → undone now.def now.rows log ≡ undone now.def old.rows all
    → (new.def ≡ old.def) × (undone new.def new.rows left ≡ undone new.def old.rows all)
popped old now new before log left all made next same so_far =
    let P : Table → Type 0 = λ t. (t.def ≡ old.def) × (undone t.def t.rows left ≡ undone t.def old.rows all) in
    subst P (sym made) (same, sym (undone_push now.def now.rows left before) ∙ (ap (λ (l : List Before). undone now.def now.rows l) (sym next) ∙ so_far))

-- AN ELEMENT WRITTEN AND PUT BACK

module _ {X : Type 0} where
  read_set : (xs : List X) (p : ℕ) (t d : X) → p < length xs → get_or (set xs p t) p d ≡ t
  read_set [] p t d within = let no : ⊥ = omega arith in absurd no
  read_set (x ∷ xs) zero t d within = refl
  read_set (x ∷ xs) (suc p) t d within = read_set xs p t d (omega arith)

  set_back : (xs : List X) (p : ℕ) (t f : X) → p < length xs → f ≡ get_or xs p f → set (set xs p t) p f ≡ xs
  set_back [] p t f within is = let no : ⊥ = omega arith in absurd no
  set_back (x ∷ xs) zero t f within is = ap (λ (z : X). z ∷ xs) is
  set_back (x ∷ xs) (suc p) t f within is = ap (λ (l : List X). x ∷ l) (set_back xs p t f (omega arith) is)

-- a table that was written goes back to what it was
pub taken_back : (old mid : List Table) (p : ℕ) (t first now back : Table) (log : List Before) → p < length old → mid ≡ set old p t → now ≡ get_or mid p now → back ≡ record now { rows = undone now.def now.rows log } → record t { rows = undone t.def t.rows log } ≡ first → first ≡ get_or old p first
    → set mid p back ≡ old
taken_back old mid p t first now back log within written read made undoes was =
    let there : now ≡ t = read ∙ (ap (λ (l : List Table). get_or l p now) written ∙ read_set old p t now within) in
    let P : Table → Type 0 = λ n. back ≡ record n { rows = undone n.def n.rows log } in
    let is : back ≡ first = subst P there made ∙ undoes in
    ap (λ (l : List Table). set l p back) written ∙ (ap (λ (b : Table). set (set old p t) p b) is ∙ set_back old p t first within was)

-- KEYS THAT AREN'T THERE

no_key : (k : ℤ) (e : ℤ × Row) (rest : Option Row) → int_eq k e.0 ≡ false → rest ≡ None → cond (int_eq k e.0) (Some e.1) rest ≡ None
no_key k e rest apart none = ap (λ b. cond b (Some e.1) rest) apart ∙ none

none_there : (k : ℤ) (es : List (ℤ × Row)) → AllByRecursion (λ y. int_cmp k y ≡ Less) (keys_of es) → lookup (is_at (int_cmp k)) es ≡ None
none_there k [] up = refl
none_there k (e ∷ es) up =
    let at : int_lt k e.0 ≡ true = below k e.0 up.0 in
    no_key k e (lookup (is_at (int_cmp k)) es) (grind (arith, ints)) (none_there k es up.1)

-- A ROW WRITTEN OVER ANOTHER

module _ (def : TableDef) where
  abbrev over : Row → List Row → List Row
  over old rows = changed_first (λ r. int_eq (key_of def old) (key_of def r)) (λ r. old) rows

  over_by : (e : ℤ × Row) (old : Row) (es rest : List (ℤ × Row)) (rows : List Row) (b : Bool) → values_of rest ≡ rows → values_of (cond b ((e.0, old) ∷ es) (e ∷ rest)) ≡ cond b (old ∷ values_of es) (e.1 ∷ rows)
  over_by e old es rest rows true is = refl
  over_by e old es rest rows false is = ap (λ (l : List Row). e.1 ∷ l) is

  pub written_over : (k : ℤ) (old : Row) (es : List (ℤ × Row)) → key_of def old ≡ k → Keyed def es → values_of (set_value (is_at (int_cmp k)) es old) ≡ over old (values_of es)
  written_over k old [] is keyed = refl
  written_over k old (e ∷ es) is keyed =
      let here : e.0 ≡ key_of def e.1 = keyed.0 in
      let at : int_eq k e.0 ≡ int_eq (key_of def old) (key_of def e.1) = ap (λ x. int_eq x e.0) (sym is) ∙ ap (λ x. int_eq (key_of def old) x) here in
      over_by e old es (set_value (is_at (int_cmp k)) es old) (over old (values_of es)) (int_eq k e.0) (written_over k old es is keyed.1)
      ∙ ap (λ b. cond b (old ∷ values_of es) (e.1 ∷ over old (values_of es))) at

  over_keyed : (k : ℤ) (old : Row) (e : ℤ × Row) (es rest : List (ℤ × Row)) (b : Bool) → int_eq k e.0 ≡ b → key_of def old ≡ k → Keyed def (e ∷ es) → Keyed def rest → Keyed def (cond b ((e.0, old) ∷ es) (e ∷ rest))
  over_keyed k old e es rest true at is keyed more =
      let same : k ≡ e.0 = grind (arith, ints) in
      (sym same ∙ sym is, keyed.1)
  over_keyed k old e es rest false at is keyed more = (keyed.0, more)

  written_keyed : (k : ℤ) (old : Row) (es : List (ℤ × Row)) → key_of def old ≡ k → Keyed def es → Keyed def (set_value (is_at (int_cmp k)) es old)
  written_keyed k old [] is keyed = tt
  written_keyed k old (e ∷ es) is keyed = over_keyed k old e es (set_value (is_at (int_cmp k)) es old) (int_eq k e.0) refl is keyed (written_keyed k old es is keyed.1)

  pub write_keeps : (k : ℤ) (old : Row) (es fs : List (ℤ × Row)) → fs ≡ set_value (is_at (int_cmp k)) es old → key_of def old ≡ k → AreKeyed def es → IsStrictlySortedBy int_cmp (keys_of fs) → AreKeyed def fs
  write_keeps k old es fs made is are sorted = record { keyed = subst (Keyed def) (sym made) (written_keyed k old es is are.keyed); ordered = sorted }

not_there_by : (e : ℤ × Row) (old : Row) (es rest : List (ℤ × Row)) (found : Option Row) (b : Bool) → cond b (Some e.1) found ≡ None → (found ≡ None → rest ≡ es) → cond b ((e.0, old) ∷ es) (e ∷ rest) ≡ e ∷ es
not_there_by e old es rest found true is more = let no : ⊥ = cc in absurd no
not_there_by e old es rest found false is more = ap (λ (l : List (ℤ × Row)). e ∷ l) (more is)

-- what isn't there isn't written over
pub not_there : (k : ℤ) (old : Row) (es : List (ℤ × Row)) → lookup (is_at (int_cmp k)) es ≡ None → set_value (is_at (int_cmp k)) es old ≡ es
not_there k old [] is = refl
not_there k old (e ∷ es) is = not_there_by e old es (set_value (is_at (int_cmp k)) es old) (lookup (is_at (int_cmp k)) es) (int_eq k e.0) is (not_there k old es)

-- A ROW PUT, AND WHAT STOOD THERE PUT BACK

abbrev restored : ℤ → Option Row → List (ℤ × Row) → List (ℤ × Row)
restored k None es = remove_entry (is_at (int_cmp k)) es
restored k (Some old) es = set_value (is_at (int_cmp k)) es old

same_key : (k : ℤ) → int_eq k k ≡ true
same_key k = grind (arith, ints)

-- an entry before the key stays
passed : (k : ℤ) (o : Option Row) (e : ℤ × Row) (rest : List (ℤ × Row)) → int_eq k e.0 ≡ false → restored k o (e ∷ rest) ≡ e ∷ restored k o rest
passed k None e rest apart = ap (λ b. cond b rest (e ∷ remove_entry (is_at (int_cmp k)) rest)) apart
passed k (Some old) e rest apart = ap (λ b. cond b ((e.0, old) ∷ rest) (e ∷ set_value (is_at (int_cmp k)) rest old)) apart

new_gone : (k : ℤ) (row : Row) (o : Option Row) (es : List (ℤ × Row)) → None ≡ o → restored k o ((k, row) ∷ es) ≡ es
new_gone k row None es is = ap (λ b. cond b es ((k, row) ∷ remove_entry (is_at (int_cmp k)) es)) (same_key k)
new_gone k row (Some old) es is = let no : ⊥ = cc in absurd no

old_back : (k : ℤ) (row : Row) (o : Option Row) (e : ℤ × Row) (es : List (ℤ × Row)) → int_eq k e.0 ≡ true → Some e.1 ≡ o → restored k o ((e.0, row) ∷ es) ≡ e ∷ es
old_back k row None e es same is = let no : ⊥ = cc in absurd no
old_back k row (Some old) e es same is =
    let stood : old ≡ e.1 = cc in
    ap (λ b. cond b ((e.0, old) ∷ es) ((e.0, row) ∷ set_value (is_at (int_cmp k)) es old)) same ∙ ap (λ (r : Row). (e.0, r) ∷ es) stood

back_by : (k : ℤ) (row : Row) (o : Option Row) (e : ℤ × Row) (es : List (ℤ × Row)) (c : Ordering) → int_cmp k e.0 ≡ c → AllByRecursion (λ y. int_cmp e.0 y ≡ Less) (keys_of es)
    → lookup (is_at (int_cmp k)) (e ∷ es) ≡ o → (lookup (is_at (int_cmp k)) es ≡ o → restored k o (insert_entry int_cmp es k row) ≡ es)
    → restored k o (match_ordering c ((k, row) ∷ e ∷ es) ((e.0, row) ∷ es) (e ∷ insert_entry int_cmp es k row)) ≡ e ∷ es
back_by k row o e es Less at up stood rest = new_gone k row o (e ∷ es) (sym (none_there k (e ∷ es) (at, up_all k e.0 (keys_of es) at up)) ∙ stood)
back_by k row o e es Equal at up stood rest =
    let same : k ≡ e.0 = exact_signed k e.0 at in
    let equal : int_eq k e.0 ≡ true = grind (arith, ints) in
    old_back k row o e es equal (sym (ap (λ b. cond b (Some e.1) (lookup (is_at (int_cmp k)) es)) equal) ∙ stood)
back_by k row o e es Greater at up stood rest =
    let before : int_lt e.0 k ≡ true = beyond k e.0 at in
    let apart : int_eq k e.0 ≡ false = grind (arith, ints) in
    passed k o e (insert_entry int_cmp es k row) apart ∙ ap (λ (l : List (ℤ × Row)). e ∷ l) (rest (sym (ap (λ b. cond b (Some e.1) (lookup (is_at (int_cmp k)) es)) apart) ∙ stood))

back : (k : ℤ) (row : Row) (o : Option Row) (es : List (ℤ × Row)) → IsStrictlySortedBy int_cmp (keys_of es) → lookup (is_at (int_cmp k)) es ≡ o → restored k o (insert_entry int_cmp es k row) ≡ es
unfolding IsStrictlySortedBy
back k row o [] sorted stood = new_gone k row o [] stood
back k row o (e ∷ es) sorted stood = back_by k row o e es (int_cmp k e.0) refl sorted.0 stood (back k row o es sorted.1)

module _ (def : TableDef) where
  key_by : (k : ℤ) (old : Row) (e : ℤ × Row) (found : Option Row) (b : Bool) → int_eq k e.0 ≡ b → e.0 ≡ key_of def e.1 → cond b (Some e.1) found ≡ Some old → (found ≡ Some old → key_of def old ≡ k) → key_of def old ≡ k
  key_by k old e found true at here is more =
      let same : k ≡ e.0 = grind (arith, ints) in
      let stood : old ≡ e.1 = cc in
      ap (key_of def) stood ∙ (sym here ∙ sym same)
  key_by k old e found false at here is more = more is

  key_there : (k : ℤ) (old : Row) (es : List (ℤ × Row)) → Keyed def es → lookup (is_at (int_cmp k)) es ≡ Some old → key_of def old ≡ k
  key_there k old [] keyed is = let no : ⊥ = cc in absurd no
  key_there k old (e ∷ es) keyed is = key_by k old e (lookup (is_at (int_cmp k)) es) (int_eq k e.0) refl keyed.0 is (key_there k old es keyed.1)

  undone_as : (k : ℤ) (o : Option Row) (es fs : List (ℤ × Row)) → Keyed def es → AreKeyed def fs → lookup (is_at (int_cmp k)) es ≡ o → undone_one def (values_of fs) (before_of k o) ≡ values_of (restored k o fs)
  undone_as k None es fs keyed are stood = sym (removed def k fs are)
  undone_as k (Some old) es fs keyed are stood = sym (written_over def k old fs (key_there k old es keyed stood) are.keyed)

  -- a row is put, and what stood there is put back
  pub put_undone : (k : ℤ) (row : Row) (o : Option Row) (es fs : List (ℤ × Row)) → AreKeyed def es → AreKeyed def fs → lookup (is_at (int_cmp k)) es ≡ o → fs ≡ insert_entry int_cmp es k row
      → undone_one def (values_of fs) (before_of k o) ≡ values_of es
  put_undone k row o es fs are_es are_fs stood made =
      undone_as k o es fs are_es.keyed are_fs stood ∙ (ap (λ (l : List (ℤ × Row)). values_of (restored k o l)) made ∙ ap (λ (l : List (ℤ × Row)). values_of l) (back k row o es are_es.ordered stood))
