-- What a scan finds among the rows of some keys is what it finds.
use Rattle.std.proofs.Common.{◌≡◌, ℕ, zero, suc, ◌+◌, ◌-◌, ◌<◌, ◌≤◌, ℤ, Bool, true, false, cond, List, [], ◌∷◌, ◌++◌, Option, Some, None, nat_eq, refl, arith, sym, ◌∙◌, ap, subst, length, take, drop, get_or, append-nil}
use Rattle.std.specs.Prelude.{slice_get}
use Rattle.std.specs.Cmp.Lexicographic.{pointwise, nat_list_eq_equiv}
use Rattle.std.specs.List.{AllByRecursion, filter}
use Rattle.std.specs.Map.{values_of}
use Rattle.std.specs.Ordering.{int_cmp}
use Rattle.std.specs.BTreeMap.Range.{range_contains, entries_between}
use Rattle.std.specs.declared.ops.Bound.TheVariants.{Included}
use Rattle.std.proofs.lemmas.Int.{ints}
use Rattle.std.proofs.lemmas.List.{drop_more, take_all}
use Rattle.std.proofs.lemmas.List.Elements.{filter-append}
use Rattle.std.proofs.lemmas.List.Kept.{IsStrictlySortedBy-filter}
use Rattle.std.proofs.lemmas.Option.{get_or_from_slice_get}
use Rattle.sql_values.specs.declared.places.Interval.{Interval}
use Rattle.sql_values.specs.declared.table.ColumnDef.{ColumnDef}
use Rattle.sql_values.specs.declared.table.TableDef.{TableDef}
use Rattle.sql_values.specs.declared.tree.Cond.{Cond}
use Rattle.sql_values.specs.KeySets.{AreKeys, is_within, IsNormal}
use Rattle.part_rules.specs.Keeps.{keeps}
use Rattle.part_rules.specs.KeyRows.{HasOwnKeyName}
use Rattle.plain_tables.specs.Inserts.{put_all}
use Rattle.plain_tables.specs.Rows.{Row, HasKey, Rises, by_key, key_of, holds_on, kept, FitsColumns}
use Rattle.plain_tables.specs.Scans.{first_rows}
use Rattle.plain_tables.proofs.Merged.{key_is_kept}
use Rattle.branch_store.specs.declared.branch.Change.{Change}
use Rattle.branch_store.specs.Changes.{after}
use Rattle.branch_store.specs.Opening.{is_definition}
use Rattle.branch_store.specs.Scanning.{AreOfTable, MissesNone, lies_among, lies_within}
use Rattle.branch_store.specs.Sound.{AreRows}
use Rattle.branch_store.specs.Tables.{Table}
use Rattle.branch_store.proofs.Keyed.{Keyed}
use Rattle.branch_store.proofs.Keys.{rows_have_keys}
use Rattle.branch_store.proofs.Scanning.{after_local, missed, none_among, normal_tail, parted, put_onto, took_more}
use Rattle.branch_store.proofs.Sounds.{after_fits, all_filter}
use Rattle.branch_store.proofs.Turns.{kept_few}

-- RANGES OF ENTRIES

in_bounds : (key : ℤ) (i : Interval) → range_contains int_cmp (Included i.low) (Included i.high) key ≡ is_within key i
in_bounds key i = grind (arith, ints)

module _ (def : TableDef) where
  between_by : (e : ℤ × Row) (rest : List (ℤ × Row)) (rows : List Row) (b : Bool) → values_of rest ≡ rows → values_of (cond b (e ∷ rest) rest) ≡ cond b (e.1 ∷ rows) rows
  between_by e rest rows true is = ap (λ (l : List Row). e.1 ∷ l) is
  between_by e rest rows false is = is

  pub between_as : (i : Interval) (es : List (ℤ × Row)) → Keyed def es → values_of (entries_between int_cmp (Included i.low) (Included i.high) es) ≡ filter (lies_within def i) (values_of es)
  between_as i [] keyed = refl
  between_as i (e ∷ es) keyed =
      let here : e.0 ≡ key_of def e.1 = keyed.0 in
      let rows : List Row = filter (lies_within def i) (values_of es) in
      between_by e (entries_between int_cmp (Included i.low) (Included i.high) es) rows (range_contains int_cmp (Included i.low) (Included i.high) e.0) (between_as i es keyed.1)
      ∙ ap (λ b. cond b (e.1 ∷ rows) rows) (in_bounds e.0 i ∙ ap (λ k. is_within k i) here)

-- CONDITIONS AND KEYS

pub misses_none : (def : TableDef) (cond : Cond) (keys : List Interval) → HasOwnKeyName def → AreKeys keys (λ key. keeps def key cond) → MissesNone def (Some cond) keys
misses_none def cond keys own are row keyed holds = are (key_of def row) keyed.fits ∙ key_is_kept def (Some cond) row own keyed holds

module _ (def : TableDef) (cond : Option Cond) (keys : List Interval) where
  all_told : (rows : List Row) → MissesNone def cond keys → AllByRecursion (HasKey def) rows → AllByRecursion (λ row. holds_on def cond row ≡ true → lies_among def keys row ≡ true) rows
  all_told [] misses all = tt
  all_told (row ∷ rows) misses all = ((λ holds. misses row all.0 holds), all_told rows misses all.1)

  same_found : (rows : List Row) → MissesNone def cond keys → AllByRecursion (HasKey def) rows → kept def cond (filter (lies_among def keys) rows) ≡ kept def cond rows
  same_found rows misses all = missed (lies_among def keys) (holds_on def cond) rows (all_told rows misses all)

have_keys : (def : TableDef) (rows : List Row) → is_definition def ≡ true → AllByRecursion (FitsColumns def) rows → AllByRecursion (HasKey def) rows
have_keys def [] is all = tt
have_keys def (row ∷ rows) is all = (rows_have_keys def row is all.0, have_keys def rows is all.1)

some_rows : (def : TableDef) (p : Row → Bool) (rows : List Row) → AreRows def rows → AreRows def (filter p rows)
some_rows def p rows are = record { rises = IsStrictlySortedBy-filter (by_key def) p rows are.rises; fit = all_filter (FitsColumns def) p rows are.fit }

-- the rows of the condition's keys are enough
pub found_among : (table : Table) (changes : List Change) (cond : Option Cond) (keys : List Interval) → AreOfTable changes table → MissesNone table.def cond keys → kept table.def cond (filter (lies_among table.def keys) table.rows) ≡ kept table.def cond table.rows
found_among table changes cond keys are misses = same_found table.def cond keys table.rows misses (have_keys table.def table.rows are.definition are.rows.fit)

-- also where changes are made to them alone
pub found_after : (table : Table) (changes : List Change) (cond : Option Cond) (keys : List Interval) → AreOfTable changes table → MissesNone table.def cond keys
    → kept table.def cond (after table.def changes (filter (lies_among table.def keys) table.rows)) ≡ kept table.def cond (after table.def changes table.rows)
found_after table changes cond keys are misses =
    let def = table.def in
    let p : Row → Bool = lies_among def keys in
    let few : AreRows def (after def changes (filter p table.rows)) = after_fits def changes (filter p table.rows) (some_rows def p table.rows are.rows) are.changes in
    let all : AreRows def (after def changes table.rows) = after_fits def changes table.rows are.rows are.changes in
    sym (same_found def cond keys (after def changes (filter p table.rows)) misses (have_keys def (after def changes (filter p table.rows)) are.definition few.fit))
    ∙ (ap (λ (l : List Row). kept def cond l) (after_local p def changes table.rows) ∙ same_found def cond keys (after def changes table.rows) misses (have_keys def (after def changes table.rows) are.definition all.fit))

-- ROWS OF INTERVALS, ONE AFTER THE OTHER

all_kept : (def : TableDef) (rows : List Row) → kept def None rows ≡ rows
all_kept def [] = refl
all_kept def (row ∷ rows) = ap (λ (l : List Row). row ∷ l) (all_kept def rows)

-- the rows of some keys, put into an empty table
pub put_part : (def : TableDef) (keys : List Interval) (rows some : List Row) → Rises def rows → some ≡ kept def None (filter (lies_among def keys) rows) → put_all def [] some ≡ filter (lies_among def keys) rows
put_part def keys rows some rises is =
    let part : List Row = filter (lies_among def keys) rows in
    ap (λ (l : List Row). put_all def [] l) (is ∙ all_kept def part) ∙ put_onto def [] part (IsStrictlySortedBy-filter (by_key def) (lies_among def keys) rows rises)

-- one more interval's rows are taken
pub took_interval : (def : TableDef) (cond : Option Cond) (most : ℕ) (i : Interval) (is left : List Interval) (rows old new all : List Row) → left ≡ i ∷ is → IsNormal left → Rises def rows → length old ≤ most → new ≡ old ++ take (most - length old) (kept def cond (filter (lies_within def i) rows))
    → old ++ take (most - length old) (kept def cond (filter (lies_among def left) rows)) ≡ all → (length new ≤ most) × (new ++ take (most - length new) (kept def cond (filter (lies_among def is) rows)) ≡ all)
took_interval def cond most i is left rows old new all next normal rises few made so_far =
    let split : kept def cond (filter (lies_within def i) rows) ++ kept def cond (filter (lies_among def is) rows) ≡ kept def cond (filter (lies_among def left) rows) =
    sym (filter-append (holds_on def cond) (filter (lies_within def i) rows) (filter (lies_among def is) rows))
    ∙ (ap (λ (l : List Row). kept def cond l) (sym (parted def i is rows (subst IsNormal next normal) rises)) ∙ ap (λ (l : List Interval). kept def cond (filter (lies_among def l) rows)) (sym next)) in
    took_more most old new (kept def cond (filter (lies_within def i) rows)) (kept def cond (filter (lies_among def is) rows)) all few made (ap (λ (l : List Row). old ++ take (most - length old) l) split ∙ so_far)

-- as the code goes over them
pub next_interval : (def : TableDef) (cond : Option Cond) (most : ℕ) (keys items : List Interval) (p : ℕ) (d : Interval) (rows old new all : List Row) → items ≡ keys → p < length items → IsNormal (drop p keys) → Rises def rows → length old ≤ most
    → new ≡ old ++ take (most - length old) (kept def cond (filter (lies_within def (get_or items p d)) rows)) → old ++ take (most - length old) (kept def cond (filter (lies_among def (drop p keys)) rows)) ≡ all
    → (length new ≤ most) × IsNormal (drop (p + 1) keys) × (new ++ take (most - length new) (kept def cond (filter (lies_among def (drop (p + 1) keys)) rows)) ≡ all)
next_interval def cond most keys items p d rows old new all same within normal rises few made so_far =
    let i : Interval = get_or items p d in
    let next : drop p keys ≡ i ∷ drop (p + 1) keys = subst (λ (l : List Interval). drop p l ≡ i ∷ drop (p + 1) l) same (drop_more items p d within) in
    let both = took_interval def cond most i (drop (p + 1) keys) (drop p keys) rows old new all next normal rises few made so_far in
    (both.0, normal_tail i (drop (p + 1) keys) (subst IsNormal next normal), both.1)

take_none : {X : Type 0} (n : ℕ) → take {A = X} n [] ≡ []
take_none zero = refl
take_none (suc n) = refl

-- no interval is left
pub no_interval : (def : TableDef) (cond : Option Cond) (n : ℕ) (left : List Interval) (rows old all : List Row) → left ≡ [] → old ++ take n (kept def cond (filter (lies_among def left) rows)) ≡ all → old ≡ all
no_interval def cond n left rows old all end so_far =
    let none : kept def cond (filter (lies_among def left) rows) ≡ [] = ap (λ (l : List Interval). kept def cond (filter (lies_among def l) rows)) end ∙ ap (λ (l : List Row). kept def cond l) (none_among def rows) in
    sym (append-nil old) ∙ (ap (λ (l : List Row). old ++ l) (sym (take_none n)) ∙ (ap (λ (l : List Row). old ++ take n l) (sym none) ∙ so_far))

-- no entry of an interval is left
pub no_entry : (def : TableDef) (cond : Option Cond) (n m : ℕ) (left it : List (ℤ × Row)) (rows old all : List Row) → left ≡ [] → values_of it ≡ all → rows ++ take n (kept def cond (values_of left)) ≡ old ++ take m (kept def cond (values_of it)) → rows ≡ old ++ take m (kept def cond all)
no_entry def cond n m left it rows old all end are so_far =
    sym (append-nil rows)
    ∙ (ap (λ (l : List Row). rows ++ l) (sym (take_none n))
    ∙ (ap (λ (l : List (ℤ × Row)). rows ++ take n (kept def cond (values_of l))) (sym end) ∙ (so_far ∙ ap (λ (l : List Row). old ++ take m (kept def cond l)) are)))

-- there are as many rows as are wanted
pub enough : (def : TableDef) (cond : Option Cond) (most m : ℕ) (left it : List (ℤ × Row)) (rows old all : List Row) → most ≤ length rows → values_of it ≡ all
    → rows ++ take (most - length rows) (kept def cond (values_of left)) ≡ old ++ take m (kept def cond (values_of it)) → rows ≡ old ++ take m (kept def cond all)
enough def cond most m left it rows old all full are so_far =
    let none : most - length rows ≡ zero = omega arith in
    sym (append-nil rows)
    ∙ (ap (λ (k : ℕ). rows ++ take k (kept def cond (values_of left))) (sym none) ∙ (so_far ∙ ap (λ (l : List Row). old ++ take m (kept def cond l)) are))

pub all_taken_twice : (p q : Row → Bool) (rows : List Row) → take (length rows) (filter q (filter p rows)) ≡ filter q (filter p rows)
all_taken_twice p q rows =
    let first = kept_few p rows in
    let second = kept_few q (filter p rows) in
    take_all (length rows) (filter q (filter p rows)) (omega arith)

-- A PART OF A TABLE

pub part_made : (self : Table) (keys : List Interval) (def : TableDef) (part new : Table) (rows : List Row) → Rises self.def self.rows → def ≡ self.def → part ≡ record { def = def; rows = [] } → new ≡ record part { rows = put_all part.def part.rows rows }
    → rows ≡ kept self.def None (filter (lies_among self.def keys) self.rows) → new ≡ record self { rows = filter (lies_among self.def keys) self.rows }
part_made self keys def part new rows rises same empty made are =
    let put_into : Table → Table = λ t. record t { rows = put_all t.def t.rows rows } in
    let at : TableDef → Table = λ d. record { def = d; rows = put_all d [] rows } in
    let with_rows : List Row → Table = λ rs. record { def = self.def; rows = rs } in
    made ∙ (ap put_into empty ∙ (ap at same ∙ ap with_rows (put_part self.def keys self.rows rows rises are)))

pub part_changed : (table : Table) (changes : List Change) (cond : Option Cond) (keys : List Interval) (limit : Option ℕ) (part new : Table) → AreOfTable changes table → MissesNone table.def cond keys → part ≡ record table { rows = filter (lies_among table.def keys) table.rows } → new ≡ record part { rows = after part.def changes part.rows }
    → first_rows limit (kept new.def cond new.rows) ≡ first_rows limit (kept table.def cond (after table.def changes table.rows))
part_changed table changes cond keys limit part new are misses part_is made =
    ap (λ (t : Table). first_rows limit (kept t.def cond t.rows)) made
    ∙ (ap (λ (t : Table). first_rows limit (kept t.def cond (after t.def changes t.rows))) part_is ∙ ap (λ (l : List Row). first_rows limit l) (found_after table changes cond keys are misses))

-- COLUMNS

pub one_more : (P : ℕ → Type 0) (place j : ℕ) → j < place + 1 → (j < place → P j) → P place → P j
one_more P zero zero below earlier here = here
one_more P zero (suc j) below earlier here = absurd (omega arith)
one_more P (suc place) zero below earlier here = earlier (omega arith)
one_more P (suc place) (suc j) below earlier here = one_more (λ n. P (suc n)) place j (omega arith) (λ less. earlier (omega arith)) here

pub stands_within : {X : Type 0} (xs : List X) (j : ℕ) (x : X) → slice_get xs j ≡ Some x → j < length xs
stands_within [] j x is = let no : ⊥ = cc in absurd no
stands_within (y ∷ xs) zero x is = omega arith
stands_within (y ∷ xs) (suc j) x is = let less = stands_within xs j x is in omega arith

pub has_name : (columns : List ColumnDef) (place : ℕ) (d other : ColumnDef) (name : List ℕ) → slice_get columns place ≡ Some other → other.name ≡ name → pointwise nat_eq (get_or columns place d).name name ≡ true
has_name columns place d other name at same =
    let is : (get_or columns place d).name ≡ name = ap (λ (c : ColumnDef). c.name) (get_or_from_slice_get columns place other d at) ∙ same in
    subst (λ (n : List ℕ). pointwise nat_eq (get_or columns place d).name n ≡ true) is (nat_list_eq_equiv.refl (get_or columns place d).name)
