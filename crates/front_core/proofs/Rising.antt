-- The keys of an INSERT in rising order.
use Rattle.std.proofs.Common.{◌≡◌, ℤ, List, [], ◌∷◌, refl, sym, ◌∙◌, ap, inl, inr, subst, Ordering, Less, Equal, Greater}
use Rattle.std.specs.Prelude.{◌⊎◌}
use Rattle.std.specs.List.{AllByRecursion, Contains, fold}
use Rattle.std.specs.List.Sorted.{IsStrictlySortedBy}
use Rattle.std.specs.Map.{keys_of}
use Rattle.std.specs.Ordering.{int_cmp, match_ordering, ordering_reverse}
use Rattle.std.proofs.lemmas.Cmp.{int_cmp_total}
use Rattle.std.proofs.lemmas.Map.Lookups.{exact_signed}
use Rattle.plain_tables.proofs.Members.{at_front, behind, either, nothing, all_of, all_by, one_list}
use Rattle.stmt_plan.specs.Inserts.{AreRising}
use Rattle.front_core.specs.Asked.{add_key, rising}

abbrev Entries : Type 0
Entries = List (ℤ × Unit {0})

-- the entries with a key, where its order to the first is known
abbrev put_by : Ordering → Entries → ℤ → ℤ × Unit {0} → Entries → Entries
put_by o more key e es = match_ordering o ((key, tt) ∷ e ∷ es) ((e.0, tt) ∷ es) (e ∷ more)

-- WHO IS AMONG THE KEYS

added_by : (o : Ordering) (es : Entries) (key : ℤ) (e : ℤ × Unit {0}) → int_cmp key e.0 ≡ o → Contains (keys_of (add_key es key)) key →
    Contains (keys_of (put_by o (add_key es key) key e es)) key
added_by Less es key e is later = at_front key (e.0 ∷ keys_of es)
added_by Equal es key e is later = subst (λ (k : ℤ). Contains (e.0 ∷ keys_of es) k) (sym (exact_signed key e.0 is)) (at_front e.0 (keys_of es))
added_by Greater es key e is later = behind e.0 key (keys_of (add_key es key)) later

added : (es : Entries) (key : ℤ) → Contains (keys_of (add_key es key)) key
added [] key = at_front key []
added (e ∷ es) key = added_by (int_cmp key e.0) es key e refl (added es key)

kept_by : (o : Ordering) (es : Entries) (key z : ℤ) (e : ℤ × Unit {0}) → (Contains (keys_of es) z → Contains (keys_of (add_key es key)) z) →
    Contains (e.0 ∷ keys_of es) z → Contains (keys_of (put_by o (add_key es key) key e es)) z
kept_by Less es key z e later there = behind key z (e.0 ∷ keys_of es) there
kept_by Equal es key z e later there = there
kept_by Greater es key z e later there = elim (either e.0 z (keys_of es) there) [
  | inl same ↦ subst (λ (k : ℤ). Contains (e.0 ∷ keys_of (add_key es key)) k) same (at_front e.0 (keys_of (add_key es key)))
  | inr deep ↦ behind e.0 z (keys_of (add_key es key)) (later deep)
]

kept : (es : Entries) (key z : ℤ) → Contains (keys_of es) z → Contains (keys_of (add_key es key)) z
kept [] key z there = nothing z there
kept (e ∷ es) key z there = kept_by (int_cmp key e.0) es key z e (kept es key z) there

only_by : (o : Ordering) (es : Entries) (key z : ℤ) (e : ℤ × Unit {0}) → (Contains (keys_of (add_key es key)) z → (key ≡ z) ⊎ Contains (keys_of es) z) →
    Contains (keys_of (put_by o (add_key es key) key e es)) z → (key ≡ z) ⊎ Contains (e.0 ∷ keys_of es) z
only_by Less es key z e later there = either key z (e.0 ∷ keys_of es) there
only_by Equal es key z e later there = inr there
only_by Greater es key z e later there = elim (either e.0 z (keys_of (add_key es key)) there) [
  | inl same ↦ inr (subst (λ (k : ℤ). Contains (e.0 ∷ keys_of es) k) same (at_front e.0 (keys_of es)))
  | inr deep ↦ elim (later deep) [
    | inl new ↦ inl new
    | inr old ↦ inr (behind e.0 z (keys_of es) old)
  ]
]

only : (es : Entries) (key z : ℤ) → Contains (keys_of (add_key es key)) z → (key ≡ z) ⊎ Contains (keys_of es) z
only [] key z there = either key z [] there
only (e ∷ es) key z there = only_by (int_cmp key e.0) es key z e (only es key z) there

-- THEIR ORDER

abbrev Below : ℤ → Entries → Type 0
Below low es = AllByRecursion (λ y. int_cmp low y ≡ Less) (keys_of es)

below_more : (low key : ℤ) (es : Entries) → int_cmp low key ≡ Less → Below low es → Below low (add_key es key)
below_more low key es first all = all_by (λ y. int_cmp low y ≡ Less) (keys_of (add_key es key)) (λ z there. elim (only es key z there) [
  | inl new ↦ subst (λ (k : ℤ). int_cmp low k ≡ Less) new first
  | inr old ↦ all_of (λ y. int_cmp low y ≡ Less) (keys_of es) z all old
])

below_all : (key low : ℤ) (es : Entries) → int_cmp key low ≡ Less → Below low es → Below key es
below_all key low es first all = all_by (λ y. int_cmp key y ≡ Less) (keys_of es) (λ z there. int_cmp_total.trans key low z first (all_of (λ y. int_cmp low y ≡ Less) (keys_of es) z all there))

sorted_by : (o : Ordering) (es : Entries) (key : ℤ) (e : ℤ × Unit {0}) → int_cmp key e.0 ≡ o → Below e.0 es → IsStrictlySortedBy int_cmp (keys_of es) →
    IsStrictlySortedBy int_cmp (keys_of (add_key es key)) → IsStrictlySortedBy int_cmp (keys_of (put_by o (add_key es key) key e es))
unfolding IsStrictlySortedBy
sorted_by Less es key e is below up later = ((is, below_all key e.0 es is below), (below, up))
sorted_by Equal es key e is below up later = (below, up)
sorted_by Greater es key e is below up later = (below_more e.0 key es (int_cmp_total.antisymm e.0 key ∙ ap ordering_reverse is) below, later)

sorted : (es : Entries) (key : ℤ) → IsStrictlySortedBy int_cmp (keys_of es) → IsStrictlySortedBy int_cmp (keys_of (add_key es key))
unfolding IsStrictlySortedBy
sorted [] key up = (tt, tt)
sorted (e ∷ es) key up = sorted_by (int_cmp key e.0) es key e refl up.0 up.1 (sorted es key up.1)

-- ALL KEYS

all_sorted : (keys : List ℤ) (es : Entries) → IsStrictlySortedBy int_cmp (keys_of es) → IsStrictlySortedBy int_cmp (keys_of (fold add_key es keys))
all_sorted [] es up = up
all_sorted (key ∷ keys) es up = all_sorted keys (add_key es key) (sorted es key up)

all_there : (keys : List ℤ) (es : Entries) (z : ℤ) → Contains keys z ⊎ Contains (keys_of es) z → Contains (keys_of (fold add_key es keys)) z
all_there [] es z (inl there) = nothing z there
all_there [] es z (inr there) = there
all_there (key ∷ keys) es z (inl there) = elim (either key z keys there) [
  | inl same ↦ all_there keys (add_key es key) z (inr (subst (λ (k : ℤ). Contains (keys_of (add_key es key)) k) same (added es key)))
  | inr later ↦ all_there keys (add_key es key) z (inl later)
]
all_there (key ∷ keys) es z (inr there) = all_there keys (add_key es key) z (inr (kept es key z there))

no_other : (keys : List ℤ) (es : Entries) (z : ℤ) → Contains (keys_of (fold add_key es keys)) z → Contains keys z ⊎ Contains (keys_of es) z
no_other [] es z there = inr there
no_other (key ∷ keys) es z there = elim (no_other keys (add_key es key) z there) [
  | inl later ↦ inl (behind key z keys later)
  | inr here ↦ elim (only es key z here) [
    | inl same ↦ inl (subst (λ (k : ℤ). Contains (key ∷ keys) k) same (at_front key keys))
    | inr old ↦ inr old
  ]
]

not_before : (keys : List ℤ) (z : ℤ) → Contains (rising keys) z → Contains keys z
not_before keys z there = elim (no_other keys [] z there) [
  | inl in_keys ↦ in_keys
  | inr none ↦ nothing z none
]

nil_sorted : IsStrictlySortedBy int_cmp []
unfolding IsStrictlySortedBy
nil_sorted = tt

-- keys in rising order are one list
pub rising_is : (list keys : List ℤ) → AreRising list keys → list ≡ rising keys
rising_is list keys are =
    one_list int_cmp int_cmp_total list (rising keys) are.sorted (all_sorted keys [] nil_sorted)
    (λ z there. all_there keys [] z (inl ((are.same z).0 there)))
    (λ z there. (are.same z).1 (not_before keys z there))

-- and they rise
pub rising_rises : (keys : List ℤ) → AreRising (rising keys) keys
rising_rises keys = record {
  sorted = all_sorted keys [] nil_sorted;
  same = λ z. (not_before keys z, λ there. all_there keys [] z (inl there));
}
