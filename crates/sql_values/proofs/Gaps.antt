use Rattle.std.proofs.Common.{◌≡◌, ℕ, ◌+◌, ◌-◌, ◌^◌, ◌<◌, ◌≤◌, ℤ, pos, negsuc, ◌+ℤ◌, ◌-ℤ◌, ◌≤ℤ◌, ◌<ℤ◌, Bool, true, false, not, ◌||◌, ◌&&◌, List, [], ◌∷◌, ◌++◌, length, drop, get_or, refl, arith, ◌∙◌, FitsSigned}
use Rattle.std.specs.Prelude.{int_le, int_lt}
use Rattle.std.specs.Int.{w64}
use Rattle.std.proofs.lemmas.Int.{ints, by_lt_z}
use Rattle.std.proofs.lemmas.Bool.{cond-true, cond-false}
use Rattle.std.proofs.lemmas.List.{drop_more, drop_all}
use Rattle.std.proofs.lemmas.List.Folds.{list_any-append}
use Rattle.sql_values.specs.declared.places.Interval.{Interval}
use Rattle.sql_values.specs.KeySets.{has_key, is_within, RisesFrom, IsNormal}
use Rattle.sql_values.specs.Merging.{with_gap}
use Rattle.sql_values.proofs.KeyLists.{IsNormal-from, RisesTo, RisesTo-push, RisesTo-later, RisesFrom-earlier, IsNormal-of, has_key-before, no_interval}

-- the ends of a BIGINT
abbrev pub least_key : ℤ
least_key = negsuc (2 ^ 63 - 1)

abbrev pub greatest_key : ℤ
greatest_key = pos (2 ^ 63 - 1)

-- in the middle of a list: what was found lies before `low`, what is left lies behind it
pub record Gaps (is list : List Interval) (low : ℤ) (i : ℕ) : Type 0 where
  pub rises : RisesTo least_key list low
  pub normal : IsNormal (drop i is)
  pub ahead : least_key <ℤ low → RisesFrom low (drop i is)
  pub keys : (key : ℤ) → FitsSigned w64 key → (has_key list key || (int_le low key && not (has_key (drop i is) key))) ≡ not (has_key is key)

pub Gaps-none : (is list : List Interval) → list ≡ [] → IsNormal is → Gaps is list least_key 0
Gaps-none is list none normal = record {
  rises = rw none (omega (arith, ints));
  normal = normal;
  ahead = λ l. absurd (omega (arith, ints));
  keys = λ key fits. rw none (let from : int_le least_key key ≡ true = grind (arith, ints) in grind (arith, from));
}

-- the next interval begins at `low` or later
next_at : (is list : List Interval) (low : ℤ) (i : ℕ) (x : Interval) (rest : List Interval) → Gaps is list low i → drop i is ≡ x ∷ rest → least_key ≤ℤ x.low → RisesFrom low (x ∷ rest)
next_at is list low i x rest gaps more fits =
    by_lt_z least_key low
    (λ l. rw more at (gaps.ahead l))
    (λ l. let normal : IsNormal (x ∷ rest) = rw more at gaps.normal in (omega (arith, ints), normal.1, normal.2))

-- a gap and an interval, at a key
some_gap : (low a b key : ℤ) (found ahead : Bool) → low <ℤ a → a ≤ℤ b → (key <ℤ (b +ℤ pos 2) → ahead ≡ false) → ((found || ((int_le low key && int_le key (a -ℤ pos 1)) || false)) || (int_le (b +ℤ pos 1) key && not ahead)) ≡ (found || (int_le low key && not ((int_le a key && int_le key b) || ahead)))
some_gap low a b key found ahead before filled later = grind (arith, ints)

no_gap : (low a b key : ℤ) (found ahead : Bool) → low ≡ a → a ≤ℤ b → (key <ℤ (b +ℤ pos 2) → ahead ≡ false) → (found || (int_le (b +ℤ pos 1) key && not ahead)) ≡ (found || (int_le low key && not ((int_le a key && int_le key b) || ahead)))
no_gap low a b key found ahead before filled later = grind (arith, ints)

-- the gap before an interval, with the keys behind it that are left out
gap_keys : (list : List Interval) (low : ℤ) (x : Interval) (rest : List Interval) (key : ℤ) → RisesFrom low (x ∷ rest) → (has_key (with_gap list low x.low) key || (int_le (x.high +ℤ pos 1) key && not (has_key rest key))) ≡ (has_key list key || (int_le low key && not (has_key (x ∷ rest) key)))
gap_keys list low x rest key rises =
    let later : key <ℤ (x.high +ℤ pos 2) → has_key rest key ≡ false = has_key-before (x.high +ℤ pos 2) rest key rises.2 in
    by_lt_z low x.low
    (λ before.
    let test : int_lt low x.low ≡ true = grind (arith, ints) in
    let gap : Interval = record { low = low; high = x.low -ℤ pos 1 } in
    let is_more : with_gap list low x.low ≡ list ++ gap ∷ [] = cond-true (int_lt low x.low) _ _ test in
    rw (is_more, list_any-append (is_within key) list (gap ∷ [])) (some_gap low x.low x.high key (has_key list key) (has_key rest key) before rises.1 later))
    (λ none.
    let test : int_lt low x.low ≡ false = grind (arith, ints) in
    let is_same : with_gap list low x.low ≡ list = cond-false (int_lt low x.low) _ _ test in
    let equal : low ≡ x.low = omega (arith, ints) in
    rw is_same (no_gap low x.low x.high key (has_key list key) (has_key rest key) equal rises.1 later))

gap_rises : (list : List Interval) (low end top : ℤ) → RisesTo least_key list low → low ≤ℤ end → end <ℤ top → RisesTo least_key (with_gap list low end) top
gap_rises list low end top rises below above =
    by_lt_z low end
    (λ before.
    let test : int_lt low end ≡ true = grind (arith, ints) in
    let gap : Interval = record { low = low; high = end -ℤ pos 1 } in
    let is_more : with_gap list low end ≡ list ++ gap ∷ [] = cond-true (int_lt low end) _ _ test in
    let more : RisesTo least_key (list ++ gap ∷ []) (gap.high +ℤ pos 2) = RisesTo-push least_key list low gap rises (omega (arith, ints)) (omega (arith, ints)) in
    rw is_more (RisesTo-later least_key (list ++ gap ∷ []) (gap.high +ℤ pos 2) top more (omega (arith, ints))))
    (λ none.
    let test : int_lt low end ≡ false = grind (arith, ints) in
    let is_same : with_gap list low end ≡ list = cond-false (int_lt low end) _ _ test in
    rw is_same (RisesTo-later least_key list low top rises (omega (arith, ints))))

-- what is known at the next interval
record Ahead (is list pushed : List Interval) (low next : ℤ) (i : ℕ) (x : Interval) : Type 0 where
  pub rises : RisesTo least_key pushed next
  pub rest : RisesFrom (x.high +ℤ pos 2) (drop (i + 1) is)
  pub keys : (key : ℤ) → FitsSigned w64 key → (has_key pushed key || (int_le next key && not (has_key (drop (i + 1) is) key))) ≡ not (has_key is key)

ahead_of : (is list pushed : List Interval) (low next : ℤ) (i : ℕ) (x : Interval) → Gaps is list low i → i < length is → x ≡ get_or is i no_interval → FitsSigned w64 x.low → pushed ≡ with_gap list low x.low → next ≡ x.high +ℤ pos 1 → Ahead is list pushed low next i x
ahead_of is list pushed low next i x gaps within is_x fits is_pushed is_next =
    let more : drop i is ≡ x ∷ drop (i + 1) is = rw is_x (drop_more is i no_interval within) in
    let rises : RisesFrom low (x ∷ drop (i + 1) is) = next_at is list low i x (drop (i + 1) is) gaps more (omega (arith, ints)) in
    record {
      rises = rw (is_pushed, is_next) (gap_rises list low x.low (x.high +ℤ pos 1) gaps.rises rises.0 (omega (arith, ints)));
      rest = rises.2;
      keys = λ key fit. rw (is_pushed, is_next) (gap_keys list low x (drop (i + 1) is) key rises ∙ rw more at (gaps.keys key fit));
    }

pub Gaps-more : (is list pushed : List Interval) (low next : ℤ) (i : ℕ) (x : Interval) → Gaps is list low i → i < length is → x ≡ get_or is i no_interval → FitsSigned w64 x.low → pushed ≡ with_gap list low x.low → next ≡ x.high +ℤ pos 1 → Gaps is pushed next (i + 1)
Gaps-more is list pushed low next i x gaps within is_x fits is_pushed is_next =
    let ahead = ahead_of is list pushed low next i x gaps within is_x fits is_pushed is_next in
    record {
      rises = ahead.rises;
      normal = IsNormal-from (x.high +ℤ pos 2) (drop (i + 1) is) ahead.rest;
      ahead = λ l. RisesFrom-earlier (x.high +ℤ pos 2) next (drop (i + 1) is) ahead.rest (omega (arith, ints));
      keys = ahead.keys;
    }

-- the gaps of a list
pub record AreGaps (is list : List Interval) : Type 0 where
  pub normal : IsNormal list
  pub keys : (key : ℤ) → FitsSigned w64 key → has_key list key ≡ not (has_key is key)

none_above : (key : ℤ) (found : Bool) (top : ℤ) (ahead all : Bool) → FitsSigned w64 key → top ≡ greatest_key → (found || (int_le (top +ℤ pos 1) key && ahead)) ≡ all → found ≡ all
none_above key found top ahead all fits is_top same =
    let test : int_le (top +ℤ pos 1) key ≡ false = grind (arith, ints) in
    grind (arith, test, same)

-- where an interval ends at the greatest key, all gaps are found
pub AreGaps-at_top : (is list pushed : List Interval) (low : ℤ) (i : ℕ) (x : Interval) → Gaps is list low i → i < length is → x ≡ get_or is i no_interval → FitsSigned w64 x.low → pushed ≡ with_gap list low x.low → x.high ≡ greatest_key → AreGaps is pushed
AreGaps-at_top is list pushed low i x gaps within is_x fits is_pushed is_top =
    let ahead = ahead_of is list pushed low (x.high +ℤ pos 1) i x gaps within is_x fits is_pushed refl in
    record {
      normal = IsNormal-of least_key pushed (x.high +ℤ pos 1) ahead.rises;
      keys = λ key fit. none_above key (has_key pushed key) x.high (not (has_key (drop (i + 1) is) key)) (not (has_key is key)) fit is_top (ahead.keys key fit);
    }

last_keys : (list : List Interval) (last : Interval) (key : ℤ) → FitsSigned w64 key → last.high ≡ greatest_key → has_key (list ++ last ∷ []) key ≡ (has_key list key || (int_le last.low key && true))
last_keys list last key fits is_top =
    let test : int_le key last.high ≡ true = grind (arith, ints) in
    rw (list_any-append (is_within key) list (last ∷ [])) (grind (arith, test))

-- else a last gap reaches it
pub AreGaps-at_end : (is list pushed : List Interval) (last : Interval) (i : ℕ) → Gaps is list last.low i → length is ≤ i → last.low ≤ℤ last.high → last.high ≡ greatest_key → pushed ≡ list ++ last ∷ [] → AreGaps is pushed
AreGaps-at_end is list pushed last i gaps end filled is_top is_pushed =
    let none : drop i is ≡ [] = drop_all i is end in
    record {
      normal = rw is_pushed (IsNormal-of least_key (list ++ last ∷ []) (last.high +ℤ pos 2) (RisesTo-push least_key list last.low last gaps.rises (omega (arith, ints)) filled));
      keys = λ key fit. rw is_pushed (last_keys list last key fit is_top ∙ rw none at (gaps.keys key fit));
    }
