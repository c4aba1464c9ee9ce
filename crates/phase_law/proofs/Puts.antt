-- Rows that are put: those of each partition in the order of their keys, and what they leave there.
use Rattle.std.proofs.Common.{◌≡◌, ℕ, ◌==◌, ℤ, Bool, true, false, List, [], ◌∷◌, map, filter, Option, Some, None, refl, sym, ◌∙◌, ap, subst, inl, inr, unwrap_or}
use Rattle.std.specs.Prelude.{IsSome}
use Rattle.std.specs.List.{AllByRecursion, Contains}
use Rattle.std.specs.List.Sorted.{IsStrictlySortedBy}
use Rattle.std.specs.Map.{keys_of, values_of}
use Rattle.std.specs.BTreeMap.{insert_entry}
use Rattle.std.specs.Option.{option_map_or}
use Rattle.std.specs.Ordering.{int_cmp, match_ordering}
use Rattle.std.specs.declared.cmp.Ordering.{Ordering}
use Rattle.std.specs.declared.cmp.Ordering.TheVariants.{Less, Equal, Greater}
use Rattle.std.proofs.lemmas.Bool.{cases_Bool, false≢true}
use Rattle.std.proofs.lemmas.List.Kept.{IsStrictlySortedBy-filter}
use Rattle.sql_values.specs.declared.table.TableDef.{TableDef}
use Rattle.part_rules.specs.declared.rule.Rule.{Rule}
use Rattle.part_rules.specs.Placing.{part}
use Rattle.plain_tables.specs.Inserts.{put, put_all, AreRows}
use Rattle.plain_tables.specs.Partitions.{lies_in, rows_in, IsTable}
use Rattle.plain_tables.specs.Rows.{Row, key_of, by_key, Rises, FitsColumns}
use Rattle.plain_tables.specs.Statements.{Puts}
use Rattle.plain_tables.proofs.Inserted.{puts_are_placed, put_rises}
use Rattle.branch_store.specs.Keyed.{AreKeyed}
use Rattle.branch_store.proofs.Keyed.{inserted, inserted_keyed}
use Rattle.txn_phases.specs.declared.deed.PlacedRow.{PlacedRow}
use Rattle.txn_phases.specs.Deeds.{news_at, news_in, put_by_key}
use Rattle.txn_phases.specs.Deeds.{placed}
use Rattle.phase_law.proofs.Lists.{none_kept}
use Rattle.phase_law.proofs.PutOrder.{put_in_order}
use Rattle.phase_law.proofs.Writes.{IsWritten}

-- THE NEW ROWS OF A PARTITION

values_by : (P : Row → Type 0) (o : Ordering) (a b c : List (ℤ × Row)) → AllByRecursion (λ (e : ℤ × Row). P e.1) a → AllByRecursion (λ (e : ℤ × Row). P e.1) b → AllByRecursion (λ (e : ℤ × Row). P e.1) c
    → AllByRecursion (λ (e : ℤ × Row). P e.1) (match_ordering o a b c)
values_by P Less a b c first second third = first
values_by P Equal a b c first second third = second
values_by P Greater a b c first second third = third

inserted_all : (P : Row → Type 0) (k : ℤ) (row : Row) (es : List (ℤ × Row)) → P row → AllByRecursion (λ (e : ℤ × Row). P e.1) es → AllByRecursion (λ (e : ℤ × Row). P e.1) (insert_entry int_cmp es k row)
inserted_all P k row [] here all = (here, tt)
inserted_all P k row (e ∷ es) here all =
    values_by P (int_cmp k e.0) ((k, row) ∷ e ∷ es) ((e.0, row) ∷ es) (e ∷ insert_entry int_cmp es k row) (here, all) (here, all.1) (all.0, inserted_all P k row es here all.1)

put_all_keys : (P : Row → Type 0) (news : List PlacedRow) (es : List (ℤ × Row)) → AllByRecursion (λ (new : PlacedRow). P new.row) news → AllByRecursion (λ (e : ℤ × Row). P e.1) es → AllByRecursion (λ (e : ℤ × Row). P e.1) (put_by_key news es)
put_all_keys P [] es news all = all
put_all_keys P (new ∷ news) es each all = put_all_keys P news (insert_entry int_cmp es new.key new.row) each.1 (inserted_all P new.key new.row es each.0 all)

kept_all : (P : PlacedRow → Type 0) (p : PlacedRow → Bool) (news : List PlacedRow) → AllByRecursion P news → AllByRecursion P (filter p news)
kept_all P p [] all = tt
kept_all P p (new ∷ news) all = elim (cases_Bool (p new)) [
  | inl stays ↦ rw stays (all.0, kept_all P p news all.1)
  | inr goes ↦ rw goes (kept_all P p news all.1)
]

rows_of_entries : (P : Row → Type 0) (es : List (ℤ × Row)) → AllByRecursion (λ (e : ℤ × Row). P e.1) es → AllByRecursion P (map (λ (e : ℤ × Row). e.1) es)
rows_of_entries P [] all = tt
rows_of_entries P (e ∷ es) all = (all.0, rows_of_entries P es all.1)

-- what all new rows have, those of a partition have
pub news_have : (P : Row → Type 0) (news : List PlacedRow) (p : ℕ) → AllByRecursion (λ (new : PlacedRow). P new.row) news → AllByRecursion P (news_in news p)
news_have P news p all =
    rows_of_entries P (put_by_key (news_at news p) []) (put_all_keys P (news_at news p) [] (kept_all (λ (new : PlacedRow). P new.row) (λ (new : PlacedRow). new.part == p) news all) tt)

pub placed_have : (P : Row → Type 0) (def : TableDef) (rule : Rule) (rows : List Row) → AllByRecursion P rows → AllByRecursion (λ (new : PlacedRow). P new.row) (map (placed def rule) rows)
placed_have P def rule [] all = tt
placed_have P def rule (row ∷ rows) all = (all.0, placed_have P def rule rows all.1)

-- IN THE ORDER OF THEIR KEYS

module _ (def : TableDef) where
  abbrev Keyed : List (ℤ × Row) → Type 0
  Keyed es = AllByRecursion (λ (entry : ℤ × Row). entry.0 ≡ key_of def entry.1) es

  keys_are : (es : List (ℤ × Row)) → Keyed es → keys_of es ≡ map (key_of def) (values_of es)
  keys_are [] keyed = refl
  keys_are (e ∷ es) keyed = let here : e.0 ≡ key_of def e.1 = keyed.0 in ap (λ k. k ∷ keys_of es) here ∙ ap (λ ks. key_of def e.1 ∷ ks) (keys_are es keyed.1)

  mapped_less : (row : Row) (rows : List Row) → AllByRecursion (λ r. by_key def row r ≡ Less) rows → AllByRecursion (λ k. int_cmp (key_of def row) k ≡ Less) (map (key_of def) rows)
  mapped_less row [] all = tt
  mapped_less row (r ∷ rows) all = (all.0, mapped_less row rows all.1)

  pub keys_rise : (rows : List Row) → Rises def rows → IsStrictlySortedBy int_cmp (map (key_of def) rows)
  unfolding IsStrictlySortedBy
  keys_rise [] rises = tt
  keys_rise (row ∷ rows) rises = (mapped_less row rows rises.0, keys_rise rows rises.1)

  are_keyed : (es : List (ℤ × Row)) → Keyed es → Rises def (values_of es) → AreKeyed def es
  are_keyed es keyed rises = record { keyed = keyed; ordered = subst (IsStrictlySortedBy int_cmp) (sym (keys_are es keyed)) (keys_rise (values_of es) rises) }

  -- sorted by key they are as they are put
  sorted_as_put : (rule : Rule) (rows : List Row) (es : List (ℤ × Row)) → Keyed es → Rises def (values_of es) → values_of (put_by_key (map (placed def rule) rows) es) ≡ put_all def (values_of es) rows
  unfolding put_all
  sorted_as_put rule [] es keyed rises = refl
  sorted_as_put rule (row ∷ rows) es keyed rises =
      let more : List (ℤ × Row) = insert_entry int_cmp es (key_of def row) row in
      let made : values_of more ≡ put def (values_of es) row = inserted def row (key_of def row) es refl (are_keyed es keyed rises) in
      sorted_as_put rule rows more (inserted_keyed def row (key_of def row) es refl keyed) (subst (Rises def) (sym made) (put_rises def (values_of es) row rises))
      ∙ ap (λ l. put_all def l rows) made

pub same_part : (o : Option ℕ) (p : ℕ) → IsSome o → (unwrap_or o 0 == p) ≡ option_map_or (λ q. q == p) o false
same_part None p some = absurd (false≢true some)
same_part (Some q) p some = refl

-- the new rows of a partition are those that lie in it
news_placed : (def : TableDef) (rule : Rule) (rows : List Row) (p : ℕ) → AllByRecursion (λ row. IsSome (part rule (key_of def row))) rows → news_at (map (placed def rule) rows) p ≡ map (placed def rule) (rows_in def rule p rows)
news_placed def rule [] p all = refl
news_placed def rule (row ∷ rows) p all =
    let same : ((placed def rule row).part == p) ≡ lies_in def rule p row = same_part (part rule (key_of def row)) p all.0 in
    let rest = news_placed def rule rows p all.1 in
    elim (cases_Bool (lies_in def rule p row)) [
      | inl inside ↦ rw (same, inside) (ap (λ l. placed def rule row ∷ l) rest)
      | inr outside ↦ rw (same, outside) rest
    ]

-- in the order of their keys
pub news_sorted : (def : TableDef) (rule : Rule) (rows : List Row) (p : ℕ) → AllByRecursion (λ row. IsSome (part rule (key_of def row))) rows → news_in (map (placed def rule) rows) p ≡ put_all def [] (rows_in def rule p rows)
unfolding IsStrictlySortedBy
news_sorted def rule rows p all = ap (λ l. values_of (put_by_key l [])) (news_placed def rule rows p all) ∙ sorted_as_put def rule (rows_in def rule p rows) [] tt tt

-- what a partition has of the plain table after the new rows are put
pub part_after : (def : TableDef) (rule : Rule) (rows added : List Row) (p : ℕ) → IsTable def rule rows → AreRows def rule added
    → put_all def (rows_in def rule p rows) (news_in (map (placed def rule) added) p) ≡ rows_in def rule p (put_all def rows added)
part_after def rule rows added p table news =
    ap (put_all def (rows_in def rule p rows)) (news_sorted def rule added p news.placed)
    ∙ (put_in_order def (rows_in def rule p rows) (rows_in def rule p added) (IsStrictlySortedBy-filter (by_key def) (lies_in def rule p) rows table.rises)
    ∙ sym (puts_are_placed def rule rows added p table news))

-- ROWS THAT ARE WRITTEN

-- none is put in a partition in which none lies
none_placed : (def : TableDef) (rule : Rule) (news : List Row) (p : ℕ) → AreRows def rule news → ((row : Row) → Contains news row → lies_in def rule p row ≡ true → ⊥) → news_in (map (placed def rule) news) p ≡ []
unfolding put_all
none_placed def rule news p are none = news_sorted def rule news p are.placed ∙ ap (put_all def []) (none_kept (lies_in def rule p) news none)

-- each partition's rows are put there, where these are partitions that are asked
pub puts_are_written : (def : TableDef) (rule : Rule) (asked : ℕ → Bool) (rows news : List Row) → IsTable def rule rows → AreRows def rule news → AllByRecursion (FitsColumns def) news
    → ((row : Row) (p : ℕ) → Contains news row → lies_in def rule p row ≡ true → asked p ≡ true) → IsWritten def rule asked rows (λ p. Puts (news_in (map (placed def rule) news) p)) (put_all def rows news)
puts_are_written def rule asked rows news table are fit within = record {
  fit = λ p. news_have (FitsColumns def) (map (placed def rule) news) p (placed_have (FitsColumns def) def rule news fit);
  leaves = λ p. part_after def rule rows news p table are;
  elsewhere = λ p out. none_placed def rule news p are (λ row c lies. false≢true (sym out ∙ within row p c lies));
}
