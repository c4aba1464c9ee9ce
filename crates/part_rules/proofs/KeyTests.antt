-- The keys of single tests, and of conditions part by part.
use Rattle.std.proofs.Common.{◌≡◌, ℕ, ◌+◌, ◌-◌, ◌^◌, ◌<◌, ◌≤◌, ℤ, pos, neg_ℤ, ◌+ℤ◌, ◌≤ℤ◌, Bool, true, false, not, ◌||◌, ◌&&◌, List, [], ◌∷◌, ◌++◌, map, length, drop, get_or, refl, arith, ◌∙◌, FitsSigned, IfOk, Result}
use Rattle.std.specs.Prelude.{int_le}
use Rattle.std.specs.Int.{w64}
use Rattle.std.specs.declared.alloc.AllocError.{AllocError}
use Rattle.std.specs.List.{list_all, list_any}
use Rattle.std.specs.Ordering.{int_cmp, is_le, is_lt, is_gt, is_eq}
use Rattle.std.proofs.lemmas.Int.{ints, by_lt_z}
use Rattle.std.proofs.lemmas.Result.{IfOk-weaker}
use Rattle.std.proofs.lemmas.List.{drop_more, drop_all}
use Rattle.std.proofs.lemmas.List.Folds.{list_any-append}
use Rattle.sql_values.specs.declared.literal.Literal.{Literal}
use Rattle.sql_values.specs.declared.literal.Literal.TheVariants as literal
use Rattle.sql_values.specs.declared.places.Interval.{Interval}
use Rattle.sql_values.specs.declared.tree.Comparison.TheVariants.{Equal}
use Rattle.sql_values.specs.declared.tree.Cond.{Cond}
use Rattle.sql_values.specs.Conditions.{compares}
use Rattle.sql_values.specs.KeySets.{AreKeys, has_key, is_within}
use Rattle.part_rules.specs.Keeps.{is_listed, is_between}

-- tests of order by comparing
pub le_cmp : (a b : ℤ) → is_le (int_cmp a b) ≡ int_le a b
le_cmp a b = grind (arith, ints)

pub eq_cmp : (a b : ℤ) → is_eq (int_cmp a b) ≡ (int_le b a && int_le a b)
eq_cmp a b = grind (arith, ints)

pub lt_cmp : (a b : ℤ) → is_lt (int_cmp a b) ≡ not (int_le b a)
lt_cmp a b = grind (arith, ints)

pub gt_cmp : (a b : ℤ) → is_gt (int_cmp a b) ≡ not (int_le a b)
gt_cmp a b = grind (arith, ints)

pub from_least : (key : ℤ) → FitsSigned w64 key → int_le (neg_ℤ (pos (2 ^ 63))) key ≡ true
from_least key fits = grind (arith, ints)

pub to_greatest : (key : ℤ) → FitsSigned w64 key → int_le key (pos (2 ^ 63 - 1)) ≡ true
to_greatest key fits = grind (arith, ints)

-- the number is greater than all keys, or less
pub none_from : (low high key : ℤ) → FitsSigned w64 key → pos (2 ^ 63) ≤ℤ low → false ≡ (int_le low key && int_le key high)
none_from low high key fits above = let no_key : int_le low key ≡ false = grind (arith, ints) in rw no_key refl

pub none_up_to : (low high key : ℤ) → FitsSigned w64 key → (high +ℤ pos 1) ≤ℤ neg_ℤ (pos (2 ^ 63)) → false ≡ (int_le low key && int_le key high)
none_up_to low high key fits below = let no_key : int_le key high ≡ false = grind (arith, ints) in rw no_key (and_false (int_le low key))
  where
    and_false : (b : Bool) → false ≡ (b && false)
    and_false true = refl
    and_false false = refl

-- BETWEEN two numbers
pub between_numbers : (l h key : ℤ) → (int_le l key && int_le key h) ≡ is_between key (literal.Number l) (literal.Number h)
between_numbers l h key = rw (le_cmp l key, le_cmp key h) refl

-- a list of literals, one by one
pub listed-other : (list : List Interval) (x : Literal) (rest : List Literal) (key : ℤ) (all : Bool) → compares Equal (literal.Number key) x ≡ false → (has_key list key || is_listed key (x ∷ rest)) ≡ all → (has_key list key || is_listed key rest) ≡ all
listed-other list x rest key all other so_far = rw other at so_far

pub listed-number : (list new : List Interval) (n sent key : ℤ) (rest : List Literal) (all : Bool) → sent ≡ n → new ≡ list ++ record { low = sent; high = sent } ∷ [] → (has_key list key || is_listed key (literal.Number n ∷ rest)) ≡ all → (has_key new key || is_listed key rest) ≡ all
listed-number list new n sent key rest all same is_new so_far =
    rw (is_new, list_any-append (is_within key) list (record { low = sent; high = sent } ∷ []), same)
    (joined (has_key list key) (int_le n key && int_le key n) (is_listed key rest) ∙ (rw (eq_cmp key n) at so_far))
  where
    joined : (a b c : Bool) → ((a || (b || false)) || c) ≡ (a || (b || c))
    joined true b c = refl
    joined false true c = refl
    joined false false c = refl

pub number_outside : (n key : ℤ) → FitsSigned w64 key → (FitsSigned w64 n → ⊥) → compares Equal (literal.Number key) (literal.Number n) ≡ false
number_outside n key fits outside =
    rw (eq_cmp key n) (by_lt_z key n (λ l. grind (arith, ints)) (λ l. by_lt_z n key (λ k. grind (arith, ints)) (λ k. absurd (outside (rw (same key n l k) at fits)))))
  where
    same : (key n : ℤ) → n ≤ℤ key → key ≤ℤ n → key ≡ n
    same key n l k = omega (arith, ints)

-- AND, part by part: what no part has left out, of what the other parts keep
pub all_more : (left gaps new : List Interval) (f : Cond → Bool) (parts : List Cond) (i : ℕ) (d : Cond) (key : ℤ) (all : Bool) → i < length parts → new ≡ left ++ gaps → has_key gaps key ≡ not (f (get_or parts i d)) → (not (has_key left key) && list_all (λ b. b) (map f (drop i parts))) ≡ all → (not (has_key new key) && list_all (λ b. b) (map f (drop (i + 1) parts))) ≡ all
all_more left gaps new f parts i d key all within is_new gone so_far =
    let before : (not (has_key left key) && (f (get_or parts i d) && list_all (λ b. b) (map f (drop (i + 1) parts)))) ≡ all = rw (drop_more parts i d within) at so_far in
    rw (is_new, list_any-append (is_within key) left gaps, gone)
    (apart (has_key left key) (f (get_or parts i d)) (list_all (λ b. b) (map f (drop (i + 1) parts))) ∙ before)
  where
    apart : (a k r : Bool) → (not (a || not k) && r) ≡ (not a && (k && r))
    apart true k r = refl
    apart false true r = refl
    apart false false r = refl

-- OR, part by part
pub any_more : (found more new : List Interval) (f : Cond → Bool) (parts : List Cond) (i : ℕ) (d : Cond) (key : ℤ) (all : Bool) → i < length parts → new ≡ found ++ more → has_key more key ≡ f (get_or parts i d) → (has_key found key || list_any (λ b. b) (map f (drop i parts))) ≡ all → (has_key new key || list_any (λ b. b) (map f (drop (i + 1) parts))) ≡ all
any_more found more new f parts i d key all within is_new kept so_far =
    let before : (has_key found key || (f (get_or parts i d) || list_any (λ b. b) (map f (drop (i + 1) parts)))) ≡ all = rw (drop_more parts i d within) at so_far in
    rw (is_new, list_any-append (is_within key) found more, kept)
    (apart (has_key found key) (f (get_or parts i d)) (list_any (λ b. b) (map f (drop (i + 1) parts))) ∙ before)
  where
    apart : (a k r : Bool) → ((a || k) || r) ≡ (a || (k || r))
    apart true k r = refl
    apart false k r = refl

-- a set of keys by another test that answers alike
pub keys_alike : (r : Result (List Interval) AllocError) (f g : ℤ → Bool) → ((key : ℤ) → FitsSigned w64 key → f key ≡ g key) → IfOk r (λ keys. AreKeys keys f) → IfOk r (λ keys. AreKeys keys g)
keys_alike r f g alike are = IfOk-weaker r (λ keys. AreKeys keys f) (λ keys. AreKeys keys g) (λ keys same key fits. same key fits ∙ alike key fits) are

-- the same where the test is one of the keys that another set has, BIGINT or not
pub keys_same : (r : Result (List Interval) AllocError) (list : List Interval) (g : ℤ → Bool) → AreKeys list g → IfOk r (λ keys. (key : ℤ) → has_key keys key ≡ has_key list key) → IfOk r (λ keys. AreKeys keys g)
keys_same r list g alike are = IfOk-weaker r (λ keys. (key : ℤ) → has_key keys key ≡ has_key list key) (λ keys. AreKeys keys g) (λ keys same key fits. same key ∙ alike key fits) are

pub less_than : (n key greatest : ℤ) → FitsSigned w64 key → greatest ≡ pos (2 ^ 63 - 1) → not (int_le n key && int_le key greatest) ≡ is_lt (int_cmp key n)
less_than n key greatest fits is_greatest =
    let within : int_le key greatest ≡ true = rw is_greatest (to_greatest key fits) in
    rw (within, lt_cmp key n) (and_true (int_le n key))
  where
    and_true : (b : Bool) → not (b && true) ≡ not b
    and_true true = refl
    and_true false = refl

pub listed_all : (list : List Interval) (literals : List Literal) (i : ℕ) (key : ℤ) (all : Bool) → length literals ≤ i → (has_key list key || is_listed key (drop i literals)) ≡ all → has_key list key ≡ all
listed_all list literals i key all end so_far =
    let read : (has_key list key || false) ≡ all = rw (drop_all i literals end) at so_far in or_none (has_key list key) all read
  where
    or_none : (a all : Bool) → (a || false) ≡ all → a ≡ all
    or_none true all e = e
    or_none false all e = e

pub all_done : (left : List Interval) (f : Cond → Bool) (parts : List Cond) (i : ℕ) (key : ℤ) (all : Bool) → length parts ≤ i → (not (has_key left key) && list_all (λ b. b) (map f (drop i parts))) ≡ all → not (has_key left key) ≡ all
all_done left f parts i key all end so_far =
    let read : (not (has_key left key) && true) ≡ all = rw (drop_all i parts end) at so_far in and_all (not (has_key left key)) all read
  where
    and_all : (a all : Bool) → (a && true) ≡ all → a ≡ all
    and_all true all e = e
    and_all false all e = e

pub any_done : (found : List Interval) (f : Cond → Bool) (parts : List Cond) (i : ℕ) (key : ℤ) (all : Bool) → length parts ≤ i → (has_key found key || list_any (λ b. b) (map f (drop i parts))) ≡ all → has_key found key ≡ all
any_done found f parts i key all end so_far =
    let read : (has_key found key || false) ≡ all = rw (drop_all i parts end) at so_far in or_none (has_key found key) all read
  where
    or_none : (a all : Bool) → (a || false) ≡ all → a ≡ all
    or_none true all e = e
    or_none false all e = e
