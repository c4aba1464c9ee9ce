use Rattle.std.proofs.Common.{◌≡◌, ℤ, pos, ◌+ℤ◌, ◌≤ℤ◌, ◌<ℤ◌, true, false, List, [], ◌∷◌, refl, arith, ap, sym, subst, ◌∙◌, FitsSigned}
use Rattle.std.specs.Prelude.{int_le}
use Rattle.std.specs.Int.{w64}
use Rattle.std.proofs.lemmas.Bool.{false≢true}
use Rattle.std.proofs.lemmas.Int.{ints, by_lt_z}
use Rattle.sql_values.specs.declared.places.Interval.{Interval}
use Rattle.sql_values.specs.KeySets.{has_key, RisesFrom, IsNormal, AreBigInts, HaveSameKeys}
use Rattle.sql_values.proofs.KeyLists.{has_key-before, RisesFrom-earlier}

-- a key of the first interval is in the set
pub at_first : (x : Interval) (is : List Interval) (key : ℤ) → x.low ≤ℤ key → key ≤ℤ x.high → has_key (x ∷ is) key ≡ true
at_first x is key from to =
    let low : int_le x.low key ≡ true = grind (arith, ints) in
    let high : int_le key x.high ≡ true = grind (arith, ints) in
    grind (arith, low, high)

-- a key behind the first interval and before the second isn't
past_first : (x : Interval) (is : List Interval) (key : ℤ) → RisesFrom (x.high +ℤ pos 2) is → x.high <ℤ key → key <ℤ (x.high +ℤ pos 2) → has_key (x ∷ is) key ≡ false
past_first x is key rises from before =
    let outside : int_le key x.high ≡ false = grind (arith, ints) in
    let later : has_key is key ≡ false = has_key-before (x.high +ℤ pos 2) is key rises before in
    grind (arith, outside, later)

clash : {P : Type 0} (a b : List Interval) (key : ℤ) → HaveSameKeys a b → FitsSigned w64 key → has_key a key ≡ true → has_key b key ≡ false → P
clash a b key same fits in_a not_in_b = absurd (false≢true (sym not_in_b ∙ (sym (same key fits) ∙ in_a)))

same_turned : (a b : List Interval) → HaveSameKeys a b → HaveSameKeys b a
same_turned a b same key fits = sym (same key fits)

-- of two lists with the same keys the first begins no later
no_later : {P : Type 0} (x y : Interval) (xs ys : List Interval) → FitsSigned w64 x.low → x.low ≤ℤ x.high → RisesFrom y.low (y ∷ ys) → HaveSameKeys (x ∷ xs) (y ∷ ys) → x.low <ℤ y.low → P
no_later x y xs ys fits filled rises same before =
    clash (x ∷ xs) (y ∷ ys) x.low same fits (at_first x xs x.low (omega (arith, ints)) filled) (has_key-before y.low (y ∷ ys) x.low rises before)

-- and its first interval ends no earlier
no_earlier : {P : Type 0} (x y : Interval) (xs ys : List Interval) → x.low ≡ y.low → x.low ≤ℤ x.high → FitsSigned w64 x.high → FitsSigned w64 y.high → RisesFrom (x.high +ℤ pos 2) xs → HaveSameKeys (x ∷ xs) (y ∷ ys) → x.high <ℤ y.high → P
no_earlier x y xs ys begin filled fits fits_y rises same before =
    let next : FitsSigned w64 (x.high +ℤ pos 1) = grind (arith, ints) in
    clash (y ∷ ys) (x ∷ xs) (x.high +ℤ pos 1) (same_turned (x ∷ xs) (y ∷ ys) same) next
    (at_first y ys (x.high +ℤ pos 1) (omega (arith, ints)) (omega (arith, ints)))
    (past_first x xs (x.high +ℤ pos 1) rises (omega (arith, ints)) (omega (arith, ints)))

same_behind : (x : Interval) (xs ys : List Interval) → RisesFrom (x.high +ℤ pos 2) xs → RisesFrom (x.high +ℤ pos 2) ys → HaveSameKeys (x ∷ xs) (x ∷ ys) → HaveSameKeys xs ys
same_behind x xs ys rises rises_b same key fits =
    by_lt_z x.high key
    (λ past.
    let outside : int_le key x.high ≡ false = grind (arith, ints) in
    let all : has_key (x ∷ xs) key ≡ has_key (x ∷ ys) key = same key fits in
    grind (arith, outside, all))
    (λ here. has_key-before (x.high +ℤ pos 2) xs key rises (omega (arith, ints)) ∙ sym (has_key-before (x.high +ℤ pos 2) ys key rises_b (omega (arith, ints))))

same_interval : (x y : Interval) → x.low ≡ y.low → x.high ≡ y.high → x ≡ y
same_interval x y low high =
    let made : ℤ → ℤ → Interval = λ l h. record { low = l; high = h } in
    ap (λ (l : ℤ). made l x.high) low ∙ ap (λ (h : ℤ). made y.low h) high

one_list : (low : ℤ) (a b : List Interval) → AreBigInts a → AreBigInts b → RisesFrom low a → RisesFrom low b → HaveSameKeys a b → a ≡ b
one_list low [] [] keys keys_b rises rises_b same = refl
one_list low [] (y ∷ ys) keys keys_b rises rises_b same = clash (y ∷ ys) [] y.low (same_turned [] (y ∷ ys) same) keys_b.0 (at_first y ys y.low (omega (arith, ints)) rises_b.1) refl
one_list low (x ∷ xs) [] keys keys_b rises rises_b same = clash (x ∷ xs) [] x.low same keys.0 (at_first x xs x.low (omega (arith, ints)) rises.1) refl
one_list low (x ∷ xs) (y ∷ ys) keys keys_b rises rises_b same =
    by_lt_z x.low y.low
    (no_later x y xs ys keys.0 rises.1 (omega (arith, ints), rises_b.1, rises_b.2) same)
    (λ no_less. by_lt_z y.low x.low
    (no_later y x ys xs keys_b.0 rises_b.1 (omega (arith, ints), rises.1, rises.2) (same_turned (x ∷ xs) (y ∷ ys) same))
    (λ no_more.
    let begin : x.low ≡ y.low = omega (arith, ints) in
    by_lt_z x.high y.high
    (no_earlier x y xs ys begin rises.1 keys.1 keys_b.1 rises.2 same)
    (λ no_shorter. by_lt_z y.high x.high
    (no_earlier y x ys xs (sym begin) rises_b.1 keys_b.1 keys.1 rises_b.2 (same_turned (x ∷ xs) (y ∷ ys) same))
    (λ no_longer.
    let end : x.high ≡ y.high = omega (arith, ints) in
    let equal : x ≡ y = same_interval x y begin end in
    let behind : RisesFrom (x.high +ℤ pos 2) ys = subst (λ (h : ℤ). RisesFrom (h +ℤ pos 2) ys) (sym end) rises_b.2 in
    let turned : HaveSameKeys (x ∷ xs) (x ∷ ys) = subst (λ (i : Interval). HaveSameKeys (x ∷ xs) (i ∷ ys)) (sym equal) same in
    ap (λ (t : List Interval). x ∷ t) (one_list (x.high +ℤ pos 2) xs ys keys.2 keys_b.2 rises.2 behind (same_behind x xs ys rises.2 behind turned))
    ∙ ap (λ (i : Interval). i ∷ ys) equal))))

pub sets_are_one_list : (a b : List Interval) → AreBigInts a → AreBigInts b → IsNormal a → IsNormal b → HaveSameKeys a b → a ≡ b
sets_are_one_list [] [] keys keys_b normal normal_b same = refl
sets_are_one_list [] (y ∷ ys) keys keys_b normal normal_b same = one_list y.low [] (y ∷ ys) keys keys_b tt normal_b same
sets_are_one_list (x ∷ xs) [] keys keys_b normal normal_b same = one_list x.low (x ∷ xs) [] keys keys_b normal tt same
sets_are_one_list (x ∷ xs) (y ∷ ys) keys keys_b normal normal_b same =
    by_lt_z x.low y.low
    (λ l. one_list x.low (x ∷ xs) (y ∷ ys) keys keys_b normal (RisesFrom-earlier y.low x.low (y ∷ ys) normal_b (omega (arith, ints))) same)
    (λ l. one_list y.low (x ∷ xs) (y ∷ ys) keys keys_b (RisesFrom-earlier x.low y.low (x ∷ xs) normal (omega (arith, ints))) normal_b same)
