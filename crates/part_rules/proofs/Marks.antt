-- Marks of partitions: what one more key, or one more interval, does to them.
use Rattle.std.proofs.Common.{◌≡◌, ℕ, suc, zero, ◌+◌, ◌<◌, ◌≤◌, ℤ, pos, ◌+ℤ◌, ◌≤ℤ◌, ◌<ℤ◌, Bool, true, false, ◌||◌, List, [], ◌∷◌, ◌++◌, length, take, drop, set, get_or, Some, Option, refl, arith, ◌⊎◌, inl, inr, sym, ◌∙◌, subst, replicate}
use Rattle.std.specs.Prelude.{int_le}
use Rattle.std.proofs.lemmas.Bool.{both_ways, or_cases, or_left, or_right}
use Rattle.std.proofs.lemmas.Int.{ints, by_lt_z}
use Rattle.std.proofs.lemmas.List.{take_more, take_all, drop_all, append-nil}
use Rattle.std.proofs.lemmas.List.Folds.{list_any-append}
use Rattle.sql_values.specs.declared.places.Interval.{Interval}
use Rattle.sql_values.specs.KeySets.{has_key, is_within}
use Rattle.part_rules.specs.Marking.{IsMarked, Marks, AreMarks}

-- a mark stays where another one is set
pub mark_stays : (marks : List Bool) (at p : ℕ) → IsMarked marks p → IsMarked (set marks at true) p
mark_stays [] at p mark = mark
mark_stays (m ∷ marks) zero zero mark = refl
mark_stays (m ∷ marks) zero (suc p) mark = mark
mark_stays (m ∷ marks) (suc at) zero mark = mark
mark_stays (m ∷ marks) (suc at) (suc p) mark = mark_stays marks at p mark

-- one that is there was there before, or is the one that was set
pub mark_new : (marks : List Bool) (at p : ℕ) → IsMarked (set marks at true) p → IsMarked marks p ⊎ (p ≡ at)
mark_new [] at p mark = inl mark
mark_new (m ∷ marks) zero zero mark = inr refl
mark_new (m ∷ marks) zero (suc p) mark = inl mark
mark_new (m ∷ marks) (suc at) zero mark = inl mark
mark_new (m ∷ marks) (suc at) (suc p) mark =
    elim (mark_new marks at p mark) [ inl old ↦ inl old | inr same ↦ inr (omega arith) ]

pub mark_set : (marks : List Bool) (at : ℕ) → at < length marks → IsMarked (set marks at true) at
mark_set [] at within = absurd (omega arith)
mark_set (m ∷ marks) zero within = refl
mark_set (m ∷ marks) (suc at) within = mark_set marks at (omega arith)

-- no mark at all
pub none_marked : (n p : ℕ) → IsMarked (replicate n false) p → ⊥
none_marked zero p mark = both_ways false refl mark
none_marked (suc n) zero mark = both_ways false refl mark
none_marked (suc n) (suc p) mark = none_marked n p mark

pub all_marked : (n p : ℕ) → p < n → IsMarked (replicate n true) p
all_marked zero p within = absurd (omega arith)
all_marked (suc n) zero within = refl
all_marked (suc n) (suc p) within = all_marked n p (omega arith)

-- the keys of an interval up to before `next` are marked
pub record MarksBelow (place : ℤ → Option ℕ) (i : Interval) (next : ℤ) (old new : List Bool) : Type 0 where
  pub begun : i.low ≤ℤ next
  pub kept : (p : ℕ) → IsMarked old p → IsMarked new p
  pub owners : (p : ℕ) → IsMarked new p → IsMarked old p ⊎ ((key : ℤ) × (is_within key i ≡ true) × (place key ≡ Some p))
  pub all : (key : ℤ) (p : ℕ) → i.low ≤ℤ key → key <ℤ next → place key ≡ Some p → IsMarked new p

pub MarksBelow-none : (place : ℤ → Option ℕ) (i : Interval) (next : ℤ) (old new : List Bool) → next ≡ i.low → new ≡ old → MarksBelow place i next old new
MarksBelow-none place i next old new start same = record {
  begun = omega (arith, ints);
  kept = λ p mark. rw same mark;
  owners = λ p mark. inl (rw same at mark);
  all = λ key p from before found. absurd (omega (arith, ints));
}

pub within_from : (key : ℤ) (i : Interval) → i.low ≤ℤ key → key ≤ℤ i.high → is_within key i ≡ true
within_from key i from to =
    let low : int_le i.low key ≡ true = grind (arith, ints) in
    let high : int_le key i.high ≡ true = grind (arith, ints) in
    grind (arith, low, high)

pub MarksBelow-more : (place : ℤ → Option ℕ) (i : Interval) (key next : ℤ) (at : ℕ) (old new newer : List Bool) → MarksBelow place i key old new → key ≤ℤ i.high → next ≡ key +ℤ pos 1 → place key ≡ Some at → at < length new → newer ≡ set new at true → MarksBelow place i next old newer
MarksBelow-more place i key next at old new newer marks to is_next found within is_newer = record {
  begun = omega (arith, ints);
  kept = λ p mark. rw is_newer (mark_stays new at p (marks.kept p mark));
  owners = λ p mark.
      elim (mark_new new at p (rw is_newer at mark)) [
        | inl before ↦ marks.owners p before
        | inr same ↦ inr (key, within_from key i marks.begun to, subst (λ (q : ℕ). place key ≡ Some q) (sym same) found)
      ];
  all = λ k p from before lies.
      by_lt_z k key
      (λ l. rw is_newer (mark_stays new at p (marks.all k p from l lies)))
      (λ l.
      let same : k ≡ key = omega (arith, ints) in
      let here : place key ≡ Some p = subst (λ (z : ℤ). place z ≡ Some p) same lies in
      let is_at : at ≡ p = cc in
      rw is_newer (subst (λ (q : ℕ). IsMarked (set new at true) q) is_at (mark_set new at within)));
}

within_parts : (key : ℤ) (i : Interval) → is_within key i ≡ true → (i.low ≤ℤ key) × (key ≤ℤ i.high)
within_parts key i within = (grind (arith, ints), grind (arith, ints))

pub Marks-below : (place : ℤ → Option ℕ) (i : Interval) (next : ℤ) (old new : List Bool) → MarksBelow place i next old new → i.high <ℤ next → Marks place i old new
Marks-below place i next old new marks end = record {
  kept = marks.kept;
  owners = marks.owners;
  all = λ key p within found.
      let parts = within_parts key i within in
      marks.all key p parts.0 (omega (arith, ints)) found;
}

-- the marks of no interval, and of one more
pub AreMarks-none : (place : ℤ → Option ℕ) (keys : List Interval) (n : ℕ) (marks : List Bool) → marks ≡ replicate n false → AreMarks place (take 0 keys) marks
AreMarks-none place keys n marks none = record {
  owners = λ p mark. absurd (none_marked n p (rw none at mark));
  all = λ key p there found. absurd (both_ways false refl there);
}

key_more : (keys : List Interval) (i : ℕ) (d : Interval) (key : ℤ) → i < length keys → has_key (take (i + 1) keys) key ≡ (has_key (take i keys) key || is_within key (get_or keys i d))
key_more keys i d key within =
    rw (take_more keys i d within, list_any-append (is_within key) (take i keys) (get_or keys i d ∷ [])) (or_none (has_key (take i keys) key) (is_within key (get_or keys i d)))
  where
    or_none : (a b : Bool) → (a || (b || false)) ≡ (a || b)
    or_none true b = refl
    or_none false true = refl
    or_none false false = refl

pub AreMarks-more : (place : ℤ → Option ℕ) (keys : List Interval) (i : ℕ) (d : Interval) (old new : List Bool) → i < length keys → AreMarks place (take i keys) old → Marks place (get_or keys i d) old new → AreMarks place (take (i + 1) keys) new
AreMarks-more place keys i d old new within are marks = record {
  owners = λ p mark.
      elim (marks.owners p mark) [
        | inl before ↦
            let owner = are.owners p before in
            (owner.0, rw (key_more keys i d owner.0 within) (or_left (has_key (take i keys) owner.0) (is_within owner.0 (get_or keys i d)) owner.1), owner.2)
        | inr owner ↦ (owner.0, rw (key_more keys i d owner.0 within) (or_right (has_key (take i keys) owner.0) (is_within owner.0 (get_or keys i d)) owner.1), owner.2)
      ];
  all = λ key p there found.
      elim (or_cases (has_key (take i keys) key) (is_within key (get_or keys i d)) (rw (key_more keys i d key within) at there)) [
        | inl before ↦ marks.kept p (are.all key p before found)
        | inr here ↦ marks.all key p here found
      ];
}

pub AreMarks-whole : (place : ℤ → Option ℕ) (keys : List Interval) (i : ℕ) (marks : List Bool) → length keys ≤ i → AreMarks place (take i keys) marks → AreMarks place keys marks
AreMarks-whole place keys i marks end are = subst (λ (ks : List Interval). AreMarks place ks marks) (take_all i keys end) are

-- what a call on all marks leaves
pub marks_left : (n : ℕ) (old new : List Bool) → n ≡ length old → length new ≡ length old → take n (new ++ drop (length new) old) ≡ new
marks_left n old new len same =
    rw (drop_all (length new) old (omega (arith, same)), append-nil new) (take_all n new (omega (arith, len, same)))

-- a step of a loop that marks the partitions of each interval
pub Stepped-more : (place : ℤ → Option ℕ) (keys : List Interval) (i n : ℕ) (d : Interval) (items lent new : List Bool) → i < length keys → AreMarks place (take i keys) items → lent ≡ items → Marks place (get_or keys i d) lent new → n ≡ length items → length new ≡ length items → AreMarks place (take (i + 1) keys) (take n (new ++ drop (length new) items))
Stepped-more place keys i n d items lent new within are same marks len same_len =
    rw (marks_left n items new len same_len) (AreMarks-more place keys i d items new within are (rw same at marks))

pub Stepped-count : (n count : ℕ) (items new : List Bool) → n ≡ length items → length new ≡ length items → length items ≡ count → length (take n (new ++ drop (length new) items)) ≡ count
Stepped-count n count items new len same is_count = rw (marks_left n items new len same) (same ∙ is_count)
