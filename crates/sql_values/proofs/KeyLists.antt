use Rattle.std.proofs.Common.{ℕ, suc, zero, ◌+◌, ◌<◌, ◌&&◌, length, drop, get_or, append_assoc, ◌≡◌, ℤ, pos, ◌+ℤ◌, ◌≤ℤ◌, ◌<ℤ◌, false, ◌||◌, List, [], ◌∷◌, ◌++◌, refl, arith, ap}
use Rattle.std.specs.Prelude.{int_le}
use Rattle.std.proofs.lemmas.Int.{ints}
use Rattle.std.proofs.lemmas.List.{drop_more}
use Rattle.sql_values.specs.declared.places.Interval.{Interval}
use Rattle.sql_values.specs.KeySets.{has_key, is_within, RisesFrom, IsNormal}
use Rattle.sql_values.specs.Merging.{Ascends}

-- what stands past a list's end, where code reads an interval
abbrev pub no_interval : Interval
no_interval = record { low = pos 0; high = pos 0 }

-- the intervals rise from `low` on, and a further one may begin at `top`
abbrev pub RisesTo : ℤ → List Interval → ℤ → Type 0
RisesTo low [] top = low ≤ℤ top
RisesTo low (i ∷ is) top = (low ≤ℤ i.low) × (i.low ≤ℤ i.high) × RisesTo (i.high +ℤ pos 2) is top

pub RisesTo-push : (low : ℤ) (is : List Interval) (top : ℤ) (i : Interval) → RisesTo low is top → top ≤ℤ i.low → i.low ≤ℤ i.high → RisesTo low (is ++ i ∷ []) (i.high +ℤ pos 2)
RisesTo-push low [] top i rises above filled = (omega (arith, ints), filled, omega (arith, ints))
RisesTo-push low (x ∷ is) top i rises above filled = (rises.0, rises.1, RisesTo-push (x.high +ℤ pos 2) is top i rises.2 above filled)

pub RisesTo-later : (low : ℤ) (is : List Interval) (top later : ℤ) → RisesTo low is top → top ≤ℤ later → RisesTo low is later
RisesTo-later low [] top later rises below = omega (arith, ints)
RisesTo-later low (x ∷ is) top later rises below = (rises.0, rises.1, RisesTo-later (x.high +ℤ pos 2) is top later rises.2 below)

RisesFrom-of : (low : ℤ) (is : List Interval) (top : ℤ) → RisesTo low is top → RisesFrom low is
RisesFrom-of low [] top rises = tt
RisesFrom-of low (x ∷ is) top rises = (rises.0, rises.1, RisesFrom-of (x.high +ℤ pos 2) is top rises.2)

-- what rises is in normal form
pub IsNormal-from : (low : ℤ) (is : List Interval) → RisesFrom low is → IsNormal is
IsNormal-from low [] rises = tt
IsNormal-from low (x ∷ is) rises = (omega (arith, ints), rises.1, rises.2)

pub IsNormal-of : (low : ℤ) (is : List Interval) (top : ℤ) → RisesTo low is top → IsNormal is
IsNormal-of low is top rises = IsNormal-from low is (RisesFrom-of low is top rises)

pub Ascends-earlier : (low earlier : ℤ) (is : List Interval) → Ascends low is → earlier ≤ℤ low → Ascends earlier is
Ascends-earlier low earlier [] ascends below = tt
Ascends-earlier low earlier (x ∷ is) ascends below = (omega (arith, ints), ascends.1, ascends.2)

-- two intervals that no key parts hold the keys of one: the second ends later
pub within_later : (a b c d key : ℤ) → a ≤ℤ c → c ≤ℤ (b +ℤ pos 1) → b ≤ℤ d → (int_le a key && int_le key d) ≡ ((int_le a key && int_le key b) || (int_le c key && int_le key d))
within_later a b c d key ascending near later = grind (arith, ints)

-- the same, and the second ends no later
pub within_earlier : (a b c d key : ℤ) → a ≤ℤ c → d ≤ℤ b → (int_le a key && int_le key b) ≡ ((int_le a key && int_le key b) || (int_le c key && int_le key d))
within_earlier a b c d key ascending earlier = grind (arith, ints)

-- an interval behind some, and the same with another in front of the rest
has_key-united : (is : List Interval) (a b both : Interval) (rest : List Interval) (key : ℤ) → is_within key both ≡ (is_within key a || is_within key b) → has_key (is ++ both ∷ rest) key ≡ has_key (is ++ a ∷ b ∷ rest) key
has_key-united [] a b both rest key same = grind (arith, same)
has_key-united (x ∷ is) a b both rest key same = ap (λ r. is_within key x || r) (has_key-united is a b both rest key same)

-- what is known of the next interval of an ascending list
pub Ascends-step : (low : ℤ) (xs : List Interval) (i : ℕ) (d : Interval) → i < length xs → Ascends low (drop i xs) → (low ≤ℤ (get_or xs i d).low) × ((get_or xs i d).low ≤ℤ (get_or xs i d).high) × Ascends (get_or xs i d).low (drop (i + 1) xs)
Ascends-step low xs i d within ascends = rw (drop_more xs i d within) at ascends

-- a step of the joining: the interval and the next one are made one
pub joined-united : (list : List Interval) (a both d : Interval) (xs : List Interval) (i : ℕ) (key : ℤ) → i < length xs → is_within key both ≡ (is_within key a || is_within key (get_or xs i d)) → has_key (list ++ both ∷ drop (i + 1) xs) key ≡ has_key (list ++ a ∷ drop i xs) key
joined-united list a both d xs i key within same = rw (drop_more xs i d within) (has_key-united list a (get_or xs i d) both (drop (i + 1) xs) key same)

-- or the interval is done
pub joined-apart : (list pushed : List Interval) (a d : Interval) (xs : List Interval) (i : ℕ) (key : ℤ) → i < length xs → pushed ≡ list ++ a ∷ [] → has_key (pushed ++ get_or xs i d ∷ drop (i + 1) xs) key ≡ has_key (list ++ a ∷ drop i xs) key
joined-apart list pushed a d xs i key within same = rw (drop_more xs i d within, same, append_assoc) refl

pub RisesFrom-earlier : (low earlier : ℤ) (is : List Interval) → RisesFrom low is → earlier ≤ℤ low → RisesFrom earlier is
RisesFrom-earlier low earlier [] rises below = tt
RisesFrom-earlier low earlier (x ∷ is) rises below = (omega (arith, ints), rises.1, rises.2)

-- what is known of the next interval of a list that rises
pub RisesFrom-step : (low : ℤ) (is : List Interval) (i : ℕ) (d : Interval) → i < length is → RisesFrom low (drop i is) → (low ≤ℤ (get_or is i d).low) × ((get_or is i d).low ≤ℤ (get_or is i d).high) × RisesFrom ((get_or is i d).high +ℤ pos 2) (drop (i + 1) is)
RisesFrom-step low is i d within rises = rw (drop_more is i d within) at rises

-- no key lies before the intervals
pub has_key-before : (low : ℤ) (is : List Interval) (key : ℤ) → RisesFrom low is → key <ℤ low → has_key is key ≡ false
has_key-before low [] key rises before = refl
has_key-before low (x ∷ is) key rises before =
    let later : has_key is key ≡ false = has_key-before (x.high +ℤ pos 2) is key rises.2 (omega (arith, ints)) in
    let outside : int_le x.low key ≡ false = grind (arith, ints) in
    grind (arith, later, outside)

-- an interval of a normal list has a key
pub filled_at : (is : List Interval) (i : ℕ) (d : Interval) → IsNormal is → i < length is → (get_or is i d).low ≤ℤ (get_or is i d).high
filled_at [] i d normal within = absurd (omega arith)
filled_at (x ∷ is) i d normal within = from x.low (x ∷ is) i normal within
  where
    from : (low : ℤ) (is : List Interval) (i : ℕ) → RisesFrom low is → i < length is → (get_or is i d).low ≤ℤ (get_or is i d).high
    from low [] i rises l = absurd (omega arith)
    from low (x ∷ is) zero rises l = rises.1
    from low (x ∷ is) (suc i) rises l = from (x.high +ℤ pos 2) is i rises.2 (omega arith)
