-- By LIST: the marks of the listed keys of an interval.
use Rattle.std.proofs.Common.{◌≡◌, ℕ, suc, zero, ◌<◌, ℤ, Bool, true, List, [], ◌∷◌, ◌++◌, length, set, get_or, Some, refl, arith, ◌⊎◌, inl, inr, sym, ◌∙◌, subst, append_assoc, append-nil}
use Rattle.std.specs.List.{Contains, filter}
use Rattle.std.specs.Ordering.{int_cmp}
use Rattle.std.specs.declared.ops.Bound.TheVariants.{Included}
use Rattle.std.specs.BTreeMap.{BTreeMap, IsOrdered}
use Rattle.std.specs.BTreeMap.Range.{range_contains, entries_between}
use Rattle.std.proofs.lemmas.Bool.{cases_Bool}
use Rattle.std.proofs.lemmas.Cmp.{int_cmp_total}
use Rattle.std.proofs.lemmas.Int.{ints}
use Rattle.std.proofs.lemmas.List.Elements.{All-contains, All-filter, All-contains_itself, filter_passes, Contains-append_right, Contains-push_cases}
use Rattle.std.proofs.lemmas.List.Quantifiers.{position-Some}
use Rattle.std.proofs.lemmas.Map.Lookups.{exact_signed}
use Rattle.std.proofs.lemmas.Map.Views.{btree_map_get_iff}
use Rattle.sql_values.specs.declared.places.Interval.{Interval}
use Rattle.sql_values.specs.KeySets.{is_within}
use Rattle.part_rules.specs.Marking.{IsMarked, Marks}
use Rattle.part_rules.specs.Rules.{list_part, lists_key, IsIndex}
use Rattle.part_rules.proofs.Marks.{mark_stays, mark_new, mark_set}

pub first_in : {X : Type 0} (x : X) (xs : List X) → Contains (x ∷ xs) x
first_in x xs = (0, omega arith, refl)

pub later_in : {X : Type 0} (y x : X) (xs : List X) → Contains xs x → Contains (y ∷ xs) x
later_in y x xs there = (suc there.0, omega (arith, there.1), there.2)

-- an element that passes is kept
filter_keeps : {X : Type 0} (p : X → Bool) (xs : List X) (x : X) (k : ℕ) → k < length xs → get_or xs k x ≡ x → p x ≡ true → Contains (filter p xs) x
filter_keeps {X} p [] x k within is passes = absurd (omega arith)
filter_keeps {X} p (y ∷ xs) x zero within is passes =
    let first : p y ≡ true = rw is passes in
    rw first (subst (λ (z : X). Contains (y ∷ filter p xs) z) is (first_in y (filter p xs)))
filter_keeps {X} p (y ∷ xs) x (suc k) within is passes =
    let later = filter_keeps p xs x k (omega arith) is passes in
    elim (cases_Bool (p y)) [
      | inl kept ↦ rw kept (later_in y x (filter p xs) later)
      | inr dropped ↦ rw dropped later
    ]

-- some entries of a range were marked, and `rest` are the others
pub record Listed (i : Interval) (all rest : List (ℤ × ℕ)) (old new : List Bool) : Type 0 where
  pub done : List (ℤ × ℕ)
  pub split : done ++ rest ≡ all
  pub kept : (p : ℕ) → IsMarked old p → IsMarked new p
  pub owners : (p : ℕ) → IsMarked new p → IsMarked old p ⊎ ((key : ℤ) × Contains all (key, p))
  pub marked : (e : ℤ × ℕ) → Contains done e → IsMarked new e.1

pub Listed-none : (i : Interval) (all : List (ℤ × ℕ)) (old : List Bool) → Listed i all all old old
Listed-none i all old = record {
  done = [];
  split = refl;
  kept = λ p mark. mark;
  owners = λ p mark. inl mark;
  marked = λ e there. absurd (omega (arith, there.1));
}

pub Listed-more : (i : Interval) (all rest left : List (ℤ × ℕ)) (old new newer : List Bool) (e : ℤ × ℕ) → Listed i all rest old new → rest ≡ e ∷ left → newer ≡ set new e.1 true → e.1 < length new → Listed i all left old newer
Listed-more i all rest left old new newer e listed more is_newer within =
    let split : listed.done ++ e ∷ left ≡ all = subst (λ (r : List (ℤ × ℕ)). listed.done ++ r ≡ all) more listed.split in
    let there : Contains all e = subst (λ (es : List (ℤ × ℕ)). Contains es e) split (Contains-append_right listed.done (e ∷ left) e (first_in e left)) in
    record {
      done = listed.done ++ e ∷ [];
      split = rw append_assoc split;
      kept = λ p mark. rw is_newer (mark_stays new e.1 p (listed.kept p mark));
      owners = λ p mark.
          elim (mark_new new e.1 p (rw is_newer at mark)) [
            | inl before ↦ listed.owners p before
            | inr same ↦ inr (e.0, subst (λ (q : ℕ). Contains all (e.0, q)) (sym same) there)
          ];
      marked = λ x found.
          elim (Contains-push_cases listed.done e x found) [
            | inl before ↦ rw is_newer (mark_stays new e.1 x.1 (listed.marked x before))
            | inr same ↦ rw is_newer (subst (λ (y : ℤ × ℕ). IsMarked (set new e.1 true) y.1) same (mark_set new e.1 within))
          ];
    }

in_bounds : (key : ℤ) (i : Interval) → range_contains int_cmp (Included i.low) (Included i.high) key ≡ is_within key i
in_bounds key i = grind (arith, ints)

-- the entries of a range are the listed keys of the interval, with their partitions
in_range : (lists : List (List ℤ)) (places : BTreeMap ℤ ℕ) (i : Interval) (all : List (ℤ × ℕ)) → IsIndex lists places → IsOrdered int_cmp places → all ≡ entries_between int_cmp (Included i.low) (Included i.high) places.entries → (key : ℤ) (p : ℕ) → Contains all (key, p) → (is_within key i ≡ true) × (list_part lists key ≡ Some p)
in_range lists places i all index ordered is_all key p there =
    let within = λ (e : ℤ × ℕ). range_contains int_cmp (Included i.low) (Included i.high) e.0 in
    let kept : Contains (filter within places.entries) (key, p) = rw is_all at there in
    let passes : within (key, p) ≡ true = All-contains (λ (e : ℤ × ℕ). within e ≡ true) (filter within places.entries) (key, p) (filter_passes within places.entries) kept in
    let entry : Contains places.entries (key, p) = All-contains (Contains places.entries) (filter within places.entries) (key, p) (All-filter within (Contains places.entries) places.entries (All-contains_itself places.entries)) kept in
    (sym (in_bounds key i) ∙ passes, sym (index key) ∙ (btree_map_get_iff int_cmp_total exact_signed places ordered key p).1 entry)

from_range : (lists : List (List ℤ)) (places : BTreeMap ℤ ℕ) (i : Interval) (all : List (ℤ × ℕ)) → IsIndex lists places → IsOrdered int_cmp places → all ≡ entries_between int_cmp (Included i.low) (Included i.high) places.entries → (key : ℤ) (p : ℕ) → is_within key i ≡ true → list_part lists key ≡ Some p → Contains all (key, p)
from_range lists places i all index ordered is_all key p within place =
    let entry : Contains places.entries (key, p) = (btree_map_get_iff int_cmp_total exact_signed places ordered key p).0 (index key ∙ place) in
    rw is_all (filter_keeps (λ (e : ℤ × ℕ). range_contains int_cmp (Included i.low) (Included i.high) e.0) places.entries (key, p) entry.0 entry.1 entry.2 (in_bounds key i ∙ within))

pub Marks-listed : (lists : List (List ℤ)) (places : BTreeMap ℤ ℕ) (i : Interval) (all rest : List (ℤ × ℕ)) (old new : List Bool) → IsIndex lists places → IsOrdered int_cmp places → all ≡ entries_between int_cmp (Included i.low) (Included i.high) places.entries → rest ≡ [] → Listed i all rest old new → Marks (list_part lists) i old new
Marks-listed lists places i all rest old new index ordered is_all end listed =
    let all_done : listed.done ++ [] ≡ all = subst (λ (r : List (ℤ × ℕ)). listed.done ++ r ≡ all) end listed.split in
    let whole : listed.done ≡ all = sym (append-nil listed.done) ∙ all_done in
    record {
      kept = listed.kept;
      owners = λ p mark.
          elim (listed.owners p mark) [
            | inl before ↦ inl before
            | inr owner ↦ let found = in_range lists places i all index ordered is_all owner.0 p owner.1 in inr (owner.0, found.0, found.1)
          ];
      all = λ key p within place.
          listed.marked (key, p) (rw whole (from_range lists places i all index ordered is_all key p within place));
    }

-- the partition of an entry is one of the lists'
pub entry_within : (lists : List (List ℤ)) (places : BTreeMap ℤ ℕ) (i : Interval) (all rest left : List (ℤ × ℕ)) (old new : List Bool) (e : ℤ × ℕ) → IsIndex lists places → IsOrdered int_cmp places → all ≡ entries_between int_cmp (Included i.low) (Included i.high) places.entries → Listed i all rest old new → rest ≡ e ∷ left → e.1 < length lists
entry_within lists places i all rest left old new e index ordered is_all listed more =
    let split : listed.done ++ e ∷ left ≡ all = subst (λ (r : List (ℤ × ℕ)). listed.done ++ r ≡ all) more listed.split in
    let there : Contains all e = subst (λ (es : List (ℤ × ℕ)). Contains es e) split (Contains-append_right listed.done (e ∷ left) e (first_in e left)) in
    let place = (in_range lists places i all index ordered is_all e.0 e.1 there).1 in
    (position-Some (lists_key e.0) lists e.1 [] place).0
