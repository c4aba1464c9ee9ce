-- What an INSERT leaves.
use Rattle.std.proofs.Common.{◌≡◌, ℕ, ◌==◌, ℤ, ◌||◌, Bool, true, false, List, [], ◌∷◌, ◌++◌, Option, Some, refl, arith, sym, ◌∙◌, ap, subst, inl, inr, cond}
use Rattle.std.specs.Prelude.{◌⊎◌, IsSome, int_lt}
use Rattle.std.specs.List.{AllByRecursion, Contains, filter, list_any}
use Rattle.std.specs.List.Sorted.{IsStrictlySortedBy}
use Rattle.std.specs.Option.{option_map_or}
use Rattle.std.specs.Ordering.{int_eq}
use Rattle.std.specs.declared.cmp.Ordering.TheVariants.{Less}
use Rattle.std.proofs.lemmas.Bool.{cases_Bool, false≢true}
use Rattle.std.proofs.lemmas.Bool.Decides.{Decides-int_eq}
use Rattle.std.proofs.lemmas.Int.{ints}
use Rattle.std.proofs.lemmas.List.Elements.{Contains-append_left, Contains-append_right, Contains-append_cases}
use Rattle.std.proofs.lemmas.List.Kept.{IsStrictlySortedBy-filter}
use Rattle.sql_values.specs.declared.table.TableDef.{TableDef}
use Rattle.sql_values.specs.declared.tree.Cond.{Cond}
use Rattle.part_rules.specs.declared.rule.Rule.{Rule}
use Rattle.part_rules.specs.Placing.{part}
use Rattle.plain_tables.specs.Rows.{Row, key_of, HasKey, by_key, Rises, holds_on, kept}
use Rattle.plain_tables.specs.Partitions.{lies_in, rows_in, IsTable}
use Rattle.plain_tables.specs.Inserts.{has_row, first_taken, put, put_all, FindsKeys, FoundKeysTell, PutsKeepTables, PutsArePlaced}
use Rattle.plain_tables.proofs.Members.{at_front, behind, either, all_of, all_by, kept_passes, passes_kept, one_list}
use Rattle.plain_tables.proofs.Merged.{keys_in_order}

-- ORDER

below_is : (def : TableDef) (a b : Row) → int_lt (key_of def a) (key_of def b) ≡ true → by_key def a b ≡ Less
below_is def a b less = rw less refl

-- lists that rise, the first below a row and the second above it
joined_rise : (def : TableDef) (xs : List Row) (row : Row) (ys : List Row) → Rises def xs → Rises def ys → AllByRecursion (λ r. by_key def r row ≡ Less) xs → AllByRecursion (λ r. by_key def row r ≡ Less) ys → Rises def (xs ++ row ∷ ys)
unfolding IsStrictlySortedBy
joined_rise def [] row ys left right below above = (above, right)
joined_rise def (x ∷ xs) row ys left right below above = (
  all_by (λ r. by_key def x r ≡ Less) (xs ++ row ∷ ys) (λ z c. elim (Contains-append_cases xs (row ∷ ys) z c) [
    | inl early ↦ all_of (λ r. by_key def x r ≡ Less) xs z left.0 early
    | inr late ↦ elim (either row z ys late) [
      | inl same ↦ subst (λ r. by_key def x r ≡ Less) same below.0
      | inr later ↦ (keys_in_order def).trans x row z below.0 (all_of (λ r. by_key def row r ≡ Less) ys z above later)
    ]
  ]),
  joined_rise def xs row ys left.1 right below.1 above,
)

pub put_rises : (def : TableDef) (rows : List Row) (row : Row) → Rises def rows → Rises def (put def rows row)
put_rises def rows row rises =
    let low : Row → Bool = λ r. int_lt (key_of def r) (key_of def row) in
    let high : Row → Bool = λ r. int_lt (key_of def row) (key_of def r) in
    joined_rise def (filter low rows) row (filter high rows) (IsStrictlySortedBy-filter (by_key def) low rows rises) (IsStrictlySortedBy-filter (by_key def) high rows rises)
    (all_by (λ r. by_key def r row ≡ Less) (filter low rows) (λ z c. below_is def z row (kept_passes low rows z c).1))
    (all_by (λ r. by_key def row r ≡ Less) (filter high rows) (λ z c. below_is def row z (kept_passes high rows z c).1))

-- MEMBERS

-- a row of the new table is the new one, or an old one with another key
pub in_put : (def : TableDef) (rows : List Row) (row z : Row) → Contains (put def rows row) z → (row ≡ z) ⊎ (Contains rows z × (int_eq (key_of def z) (key_of def row) ≡ false))
in_put def rows row z c =
    let low : Row → Bool = λ r. int_lt (key_of def r) (key_of def row) in
    let high : Row → Bool = λ r. int_lt (key_of def row) (key_of def r) in
    elim (Contains-append_cases (filter low rows) (row ∷ filter high rows) z c) [
      | inl early ↦ let at = kept_passes low rows z early in let less : int_lt (key_of def z) (key_of def row) ≡ true = at.1 in inr (at.0, grind (arith, ints))
      | inr late ↦ elim (either row z (filter high rows) late) [
        | inl same ↦ inl same
        | inr later ↦ let at = kept_passes high rows z later in let more : int_lt (key_of def row) (key_of def z) ≡ true = at.1 in inr (at.0, grind (arith, ints))
      ]
    ]

pub new_in_put : (def : TableDef) (rows : List Row) (row : Row) → Contains (put def rows row) row
new_in_put def rows row =
    Contains-append_right (filter (λ r. int_lt (key_of def r) (key_of def row)) rows) (row ∷ filter (λ r. int_lt (key_of def row) (key_of def r)) rows) row (at_front row (filter (λ r. int_lt (key_of def row) (key_of def r)) rows))

pub old_in_put : (def : TableDef) (rows : List Row) (row z : Row) → Contains rows z → int_eq (key_of def z) (key_of def row) ≡ false → Contains (put def rows row) z
old_in_put def rows row z c other =
    let low : Row → Bool = λ r. int_lt (key_of def r) (key_of def row) in
    let high : Row → Bool = λ r. int_lt (key_of def row) (key_of def r) in
    elim (cases_Bool (low z)) [
      | inl less ↦ Contains-append_left (filter low rows) (row ∷ filter high rows) z (passes_kept low rows z c less)
      | inr not_less ↦ let less : int_lt (key_of def z) (key_of def row) ≡ false = not_less in let more : int_lt (key_of def row) (key_of def z) ≡ true = grind (arith, ints) in
          Contains-append_right (filter low rows) (row ∷ filter high rows) z (behind row z (filter high rows) (passes_kept high rows z c more))
    ]

-- TABLES

put_keeps : (def : TableDef) (P : Row → Type 0) (rows : List Row) (row : Row) → AllByRecursion P rows → P row → AllByRecursion P (put def rows row)
put_keeps def P rows row all here = all_by P (put def rows row) (λ z c. elim (in_put def rows row z c) [
  | inl same ↦ subst P same here
  | inr old ↦ all_of P rows z all old.0
])

put_is_table : (def : TableDef) (rule : Rule) (rows : List Row) (row : Row) → IsTable def rule rows → HasKey def row → IsSome (part rule (key_of def row)) → IsTable def rule (put def rows row)
put_is_table def rule rows row table keyed placed =
    record { rises = put_rises def rows row table.rises; keyed = put_keeps def (HasKey def) rows row table.keyed keyed; placed = put_keeps def (λ r. IsSome (part rule (key_of def r))) rows row table.placed placed }

pub puts_keep_tables : PutsKeepTables
unfolding put_all
puts_keep_tables def rule rows [] table news = table
puts_keep_tables def rule rows (row ∷ more) table news =
    puts_keep_tables def rule (put def rows row) more (put_is_table def rule rows row table news.keyed.0 news.placed.0) (record { keyed = news.keyed.1; placed = news.placed.1 })

-- PLACES

-- a row of another partition changes nothing in this one, and one of this partition is put into it
put_placed : (def : TableDef) (rule : Rule) (rows : List Row) (row : Row) (p : ℕ) (b : Bool) → lies_in def rule p row ≡ b → Rises def rows → rows_in def rule p (put def rows row) ≡ cond b (put def (rows_in def rule p rows) row) (rows_in def rule p rows)
put_placed def rule rows row p true here rises =
    let inside : Row → Bool = lies_in def rule p in
    one_list (by_key def) (keys_in_order def) (filter inside (put def rows row)) (put def (filter inside rows) row)
    (IsStrictlySortedBy-filter (by_key def) inside (put def rows row) (put_rises def rows row rises)) (put_rises def (filter inside rows) row (IsStrictlySortedBy-filter (by_key def) inside rows rises))
    (λ z c. let at = kept_passes inside (put def rows row) z c in elim (in_put def rows row z at.0) [
      | inl same ↦ subst (Contains (put def (filter inside rows) row)) same (new_in_put def (filter inside rows) row)
      | inr old ↦ old_in_put def (filter inside rows) row z (passes_kept inside rows z old.0 at.1) old.1
    ])
    (λ z c. elim (in_put def (filter inside rows) row z c) [
      | inl same ↦ passes_kept inside (put def rows row) z (subst (Contains (put def rows row)) same (new_in_put def rows row)) (subst (λ r. inside r ≡ true) same here)
      | inr old ↦ let at = kept_passes inside rows z old.0 in passes_kept inside (put def rows row) z (old_in_put def rows row z at.0 old.1) at.1
    ])
put_placed def rule rows row p false elsewhere rises =
    let inside : Row → Bool = lies_in def rule p in
    one_list (by_key def) (keys_in_order def) (filter inside (put def rows row)) (filter inside rows)
    (IsStrictlySortedBy-filter (by_key def) inside (put def rows row) (put_rises def rows row rises)) (IsStrictlySortedBy-filter (by_key def) inside rows rises)
    (λ z c. let at = kept_passes inside (put def rows row) z c in elim (in_put def rows row z at.0) [
      | inl same ↦ let out : inside z ≡ false = subst (λ r. inside r ≡ false) same elsewhere in absurd (false≢true (sym out ∙ at.1))
      | inr old ↦ passes_kept inside rows z old.0 at.1
    ])
    (λ z c. let at = kept_passes inside rows z c in
    let other : int_eq (key_of def z) (key_of def row) ≡ false = elim (cases_Bool (int_eq (key_of def z) (key_of def row))) [
      | inl same ↦ let key : key_of def z ≡ key_of def row = (Decides-int_eq (key_of def z) (key_of def row)).0 same in
          let out : inside z ≡ false = ap (λ (k : ℤ). option_map_or (λ (q : ℕ). q == p) (part rule k) false) key ∙ elsewhere in absurd (false≢true (sym out ∙ at.1))
      | inr apart ↦ apart
    ] in
    passes_kept inside (put def rows row) z (old_in_put def rows row z at.0 other) at.1)

placed_by : (def : TableDef) (rule : Rule) (rows : List Row) (row : Row) (more : List Row) (p : ℕ) (b : Bool) → lies_in def rule p row ≡ b
    → put_all def (cond b (put def (rows_in def rule p rows) row) (rows_in def rule p rows)) (rows_in def rule p more) ≡ put_all def (rows_in def rule p rows) (cond b (row ∷ rows_in def rule p more) (rows_in def rule p more))
unfolding put_all
placed_by def rule rows row more p true here = refl
placed_by def rule rows row more p false here = refl

pub puts_are_placed : PutsArePlaced
unfolding put_all
puts_are_placed def rule rows [] p table news = refl
puts_are_placed def rule rows (row ∷ more) p table news =
    puts_are_placed def rule (put def rows row) more p (put_is_table def rule rows row table news.keyed.0 news.placed.0) (record { keyed = news.keyed.1; placed = news.placed.1 })
    ∙ (ap (λ l. put_all def l (rows_in def rule p more)) (put_placed def rule rows row p (lies_in def rule p row) refl table.rises)
    ∙ placed_by def rule rows row more p (lies_in def rule p row) refl)

-- TAKEN KEYS

pub same_taken : (s t : ℤ → Bool) (keys : List ℤ) → ((key : ℤ) → list_any (int_eq key) keys ≡ true → s key ≡ t key) → first_taken s keys ≡ first_taken t keys
unfolding first_taken
same_taken s t [] same = refl
same_taken s t (key ∷ keys) same =
    let self : int_eq key key ≡ true = (Decides-int_eq key key).1 refl in
    let here : s key ≡ t key = same key (grind (arith, self)) in
    rw here (ap (λ o. cond (t key) (Some key) o) (same_taken (λ k. int_eq key k || s k) (λ k. int_eq key k || t k) keys (λ k listed. ap (λ b. int_eq key k || b) (same k (grind (arith, listed))))))

-- a key of the list is found among all rows exactly where it is found among those with the keys
found_alike : (def : TableDef) (rows : List Row) (cond : Option Cond) (keys : List ℤ) (key : ℤ) → FindsKeys def cond keys rows → list_any (int_eq key) keys ≡ true → has_row def (kept def cond rows) key ≡ has_row def rows key
found_alike def [] cond keys key finds listed = refl
found_alike def (row ∷ rows) cond keys key finds listed =
    let rest = found_alike def rows cond keys key finds.1 listed in
    elim (cases_Bool (holds_on def cond row)) [
      | inl stays ↦ rw (stays, rest) refl
      | inr goes ↦
          let unlisted : list_any (int_eq (key_of def row)) keys ≡ false = sym finds.0 ∙ goes in
          let other : int_eq (key_of def row) key ≡ false = elim (cases_Bool (int_eq (key_of def row) key)) [
            | inl same ↦ let is : key_of def row ≡ key = (Decides-int_eq (key_of def row) key).0 same in absurd (false≢true (sym unlisted ∙ (ap (λ k. list_any (int_eq k) keys) is ∙ listed)))
            | inr apart ↦ apart
          ] in
          rw (goes, other, rest) refl
    ]

pub found_keys_tell : FoundKeysTell
found_keys_tell def rows cond keys finds = same_taken (has_row def (kept def cond rows)) (has_row def rows) keys (λ key listed. found_alike def rows cond keys key finds listed)
