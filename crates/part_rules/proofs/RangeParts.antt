use Rattle.std.proofs.Common.{◌≡◌, ℕ, suc, zero, ◌<◌, ℤ, true, not, List, [], ◌∷◌, length, get_or, refl, arith, inl, inr}
use Rattle.std.specs.List.Sorted.{IsPartitionedBy}
use Rattle.std.proofs.lemmas.Bool.{and_parts, cases_Bool}
use Rattle.std.proofs.lemmas.Int.{ints}
use Rattle.part_rules.specs.declared.bounds.Bound.{Bound}
use Rattle.part_rules.specs.declared.bounds.Bound.TheVariants.{Below, MaxValue}
use Rattle.part_rules.specs.Rules.{is_below, is_lower, rises_above, rises}

-- a key below a bound is below each higher one
pub below_higher : (key : ℤ) (low high : Bound) → is_lower low high ≡ true → is_below key low ≡ true → is_below key high ≡ true
below_higher key (Below m) (Below n) lower below = grind (arith, ints)
below_higher key (Below m) MaxValue lower below = refl
below_higher key MaxValue high lower below = grind arith

-- the bounds behind one that rise from it
pub rises_behind : (low : Bound) (bs : List Bound) → rises_above low bs ≡ true → rises bs ≡ true
rises_behind low [] rising = refl
rises_behind low (b ∷ bs) rising = (and_parts (is_lower low b) (rises_above b bs) rising).1

below_later : (key : ℤ) (low : Bound) (bs : List Bound) (j : ℕ) (d : Bound) → rises_above low bs ≡ true → is_below key low ≡ true → j < length bs → is_below key (get_or bs j d) ≡ true
below_later key low [] j d rising below within = absurd (omega arith)
below_later key low (b ∷ bs) zero d rising below within = below_higher key low b (and_parts (is_lower low b) (rises_above b bs) rising).0 below
below_later key low (b ∷ bs) (suc j) d rising below within =
    let parts = and_parts (is_lower low b) (rises_above b bs) rising in
    below_later key b bs j d parts.1 (below_higher key low b parts.0 below) (omega arith)

-- no bound above the key stands before one that isn't
pub partitioned : (key : ℤ) (bs : List Bound) → rises bs ≡ true → IsPartitionedBy (λ b. not (is_below key b)) bs
partitioned key [] rising i j d order within fails = absurd (omega arith)
partitioned key (b ∷ bs) rising zero zero d order within fails = fails
partitioned key (b ∷ bs) rising (suc i) zero d order within fails = absurd (omega arith)
partitioned key (b ∷ bs) rising (suc i) (suc j) d order within fails = partitioned key bs (rises_behind b bs rising) i j d (omega arith) (omega arith) fails
partitioned key (b ∷ bs) rising zero (suc j) d order within fails =
    elim (cases_Bool (is_below key b)) [
      | inl below ↦ let later : is_below key (get_or bs j d) ≡ true = below_later key b bs j d rising below (omega arith) in grind (arith, later, fails)
      | inr above ↦ grind (arith, above)
    ]
