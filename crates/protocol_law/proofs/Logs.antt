-- What a branch did: its footprints, and its changes.
use Rattle.std.proofs.Common.{◌≡◌, ℕ, true, false, cond, ◌||◌, List, [], ◌∷◌, None, refl, ap, ◌∙◌, arith}
use Rattle.std.proofs.lemmas.Bool.Decides.{nat_tests}
use Rattle.commit_protocol.specs.Rows.{Key, Table, Interval, Footprint, Operation, is_within, is_in_one, meets_one, some_meet, covers, conflicts, footprint_of, after, AreRight, holds, owns, touches, blocks, AreApart}
use Rattle.commit_protocol.specs.Rows.Operation.{Scanned, Changed}

-- ---- intervals

meets_none : (is : List Interval) → some_meet is [] ≡ false
meets_none [] = refl
meets_none (i ∷ is) = grind (arith, meets_none is)

-- one interval more on the right
meets_more : (is js : List Interval) (j : Interval) → some_meet is (j ∷ js) ≡ (meets_one j is || some_meet is js)
meets_more [] js j = refl
meets_more (i ∷ is) js j = grind (arith, nat_tests, meets_more is js j)

meets_turned : (is js : List Interval) → some_meet is js ≡ some_meet js is
meets_turned is [] = meets_none is
meets_turned is (j ∷ js) = meets_more is js j ∙ ap (λ b. meets_one j is || b) (meets_turned is js)

within_meets : (i : Interval) (js : List Interval) (k : ℕ) → is_within i k ≡ true → is_in_one js k ≡ true → meets_one i js ≡ true
within_meets i [] k h g = cc
within_meets i (j ∷ js) k h g = grind (arith, nat_tests, within_meets i js k)

-- intervals that have a key in common meet
common_meets : (is js : List Interval) (k : ℕ) → is_in_one is k ≡ true → is_in_one js k ≡ true → some_meet is js ≡ true
common_meets [] js k h g = cc
common_meets (i ∷ is) js k h g = grind (arith, nat_tests, within_meets i js k, common_meets is js k)

-- ---- footprints

pub conflicts_turned : (f g : Footprint) → conflicts f g ≡ false → conflicts g f ≡ false
conflicts_turned f g h = grind (arith, nat_tests, meets_turned f.keys g.keys)

-- two footprints that have a key in common and don't conflict are both shared
common_shared : (f g : Footprint) (k : Key) → conflicts f g ≡ false → covers f k ≡ true → covers g k ≡ true → (f.exclusive ≡ false) × (g.exclusive ≡ false)
common_shared f g k h c d = let m = common_meets f.keys g.keys k.key (grind arith) (grind arith) in (grind (arith, nat_tests, m), grind (arith, nat_tests, m))

pub apart_nil : (xs : List Operation) → AreApart xs []
apart_nil [] = tt
apart_nil (x ∷ xs) = (refl, apart_nil xs)

pub apart_grown : (xs ys : List Operation) (op : Operation) → AreApart xs ys → blocks (footprint_of op) xs ≡ false → AreApart xs (op ∷ ys)
apart_grown [] ys op h free = tt
apart_grown (x ∷ xs) ys op h free = (grind (arith, conflicts_turned (footprint_of op) (footprint_of x)), apart_grown xs ys op h.1 (grind arith))

pub touched_is_owned : (xs : List Operation) (k : Key) → touches xs k ≡ true → owns xs k ≡ true
touched_is_owned [] k h = cc
touched_is_owned (Scanned f r ∷ xs) k h = grind (arith, touched_is_owned xs k)
touched_is_owned (Changed f r ∷ xs) k h = grind (arith, touched_is_owned xs k)

-- a key of a footprint that conflicts with none of the list is in no exclusive one of these, and in none where it is exclusive itself
pub clear_of : (f : Footprint) (ys : List Operation) (k : Key) → blocks f ys ≡ false → covers f k ≡ true → (owns ys k ≡ false) × (f.exclusive ≡ true → holds ys k ≡ false)
clear_of f [] k h c = (refl, λ e. refl)
clear_of f (y ∷ ys) k h c =
    let ih = clear_of f ys k (grind arith) c in
    let both = common_shared f (footprint_of y) k (grind arith) c in
    (grind (arith, both, ih.0), λ e. grind (arith, both, ih.1))

pub owned_is_held_by_none : (xs ys : List Operation) (k : Key) → AreApart xs ys → owns xs k ≡ true → holds ys k ≡ false
owned_is_held_by_none [] ys k h o = cc
owned_is_held_by_none (x ∷ xs) ys k h o = grind (arith, clear_of (footprint_of x) ys k h.0, owned_is_held_by_none xs ys k h.1)

pub owned_is_held : (xs : List Operation) (k : Key) → owns xs k ≡ true → holds xs k ≡ true
owned_is_held [] k o = cc
owned_is_held (x ∷ xs) k o = grind (arith, owned_is_held xs k)

-- ---- changes

-- a key that isn't changed stands as it stood, and one that is doesn't depend on what stood there
pub untouched : (t : Table) (xs : List Operation) (k : Key) → touches xs k ≡ false → after t xs k ≡ t k
untouched t [] k h = refl
untouched t (Scanned f r ∷ xs) k h = untouched t xs k h
untouched t (Changed f r ∷ xs) k h = grind (arith, untouched t xs k)

pub touched : (t u : Table) (xs : List Operation) (k : Key) → touches xs k ≡ true → after t xs k ≡ after u xs k
touched t u [] k h = cc
touched t u (Scanned f r ∷ xs) k h = touched t u xs k h
touched t u (Changed f r ∷ xs) k h = grind (arith, touched t u xs k)

pub same_after : (t u : Table) (xs : List Operation) (k : Key) → t k ≡ u k → after t xs k ≡ after u xs k
same_after t u [] k h = h
same_after t u (Scanned f r ∷ xs) k h = same_after t u xs k h
same_after t u (Changed f r ∷ xs) k h = ap (λ z. cond (covers f k) (r k) z) (same_after t u xs k h)

-- scans that are right stay right where the table changes at no key that is held
pub still_right : (t u : Table) (xs : List Operation) → ((k : Key) → holds xs k ≡ true → t k ≡ u k) → AreRight t xs → AreRight u xs
still_right t u [] h r = tt
still_right t u (Scanned f rows ∷ xs) h r = (
  λ k. r.0 k ∙ elim (covers f k) as (λ v. covers f k ≡ v → cond v (after t xs k) None ≡ cond v (after u xs k) None) [
    | true ↦ λ e. same_after t u xs k (h k (grind arith))
    | false ↦ λ e. refl
  ] refl,
  still_right t u xs (λ k held. h k (grind arith)) r.1,
)
still_right t u (Changed f rows ∷ xs) h r = (tt, still_right t u xs (λ k held. h k (grind arith)) r.1)
