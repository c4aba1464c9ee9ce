-- Aggregates over parts, put together, are those over all rows.
use Rattle.std.proofs.Common.{◌≡◌, ℕ, pos, ◌+ℤ◌, Bool, true, false, cond, List, [], ◌∷◌, ◌++◌, length, map, refl, sym, ◌∙◌, ap, arith, inl, inr}
use Rattle.std.specs.Cmp.{IsTotalOrder, IsStrictWeakOrder}
use Rattle.std.specs.List.{flat_map}
use Rattle.std.specs.Ordering.{is_lt}
use Rattle.std.specs.declared.cmp.Ordering.{Ordering}
use Rattle.std.proofs.Math.IntN.{+ℤ_assoc}
use Rattle.std.proofs.lemmas.Bool.{cases_Bool, false≢true}
use Rattle.std.proofs.lemmas.Cmp.{back_total}
use Rattle.std.proofs.lemmas.Int.{ints}
use Rattle.std.proofs.lemmas.List.{length-append, map-append}
use Rattle.std.proofs.lemmas.List.Sorted.{ranks_by}
use Rattle.sql_values.specs.declared.literal.Literal.{Literal}
use Rattle.sql_values.specs.declared.literal.Literal.TheVariants.{Null, Number, Text}
use Rattle.sql_values.specs.declared.value.Value.{Value}
use Rattle.front_rows.specs.declared.aggregate.AggFun.{AggFun}
use Rattle.front_rows.specs.declared.aggregate.AggFun.TheVariants.{Count, Sum, Min, Max}
use Rattle.front_rows.specs.declared.aggregate.Aggregate.{Aggregate}
use Rattle.front_rows.specs.Aggregates.{all_of, both, greater, is_null, lesser, number_in, over, plus, result, together}
use Rattle.front_rows.specs.Comparing.{cell, cell_cmp}
use Rattle.front_rows.proofs.Orders.{cell_total}

-- FUNCTIONS OF TWO RESULTS

-- a function that may be taken of results in any grouping, and gives no NULL of what is none
pub record Groups (f : Literal → Literal → Literal) : Type 0 where
  pub grouped : (a b c : Literal) → is_null a ≡ false → is_null b ≡ false → is_null c ≡ false → f (f a b) c ≡ f a (f b c)
  pub there : (a b : Literal) → is_null a ≡ false → is_null b ≡ false → is_null (f a b) ≡ false

module _ (f : Literal → Literal → Literal) (g : Groups f) where
  pub null_last : (a : Literal) → both f a Null ≡ a
  null_last Null = refl
  null_last (Number n) = refl
  null_last (Text t) = refl

  of_both : (a b : Literal) → is_null a ≡ false → is_null b ≡ false → both f a b ≡ f a b
  of_both Null b one two = absurd (false≢true (sym one))
  of_both (Number m) Null one two = absurd (false≢true (sym two))
  of_both (Number m) (Number n) one two = refl
  of_both (Number m) (Text t) one two = refl
  of_both (Text s) Null one two = absurd (false≢true (sym two))
  of_both (Text s) (Number n) one two = refl
  of_both (Text s) (Text t) one two = refl

  all_there : (a b c : Literal) → is_null a ≡ false → is_null b ≡ false → is_null c ≡ false → both f (both f a b) c ≡ both f a (both f b c)
  all_there a b c one two three =
      ap (λ x. both f x c) (of_both a b one two)
      ∙ of_both (f a b) c (g.there a b one two) three
      ∙ g.grouped a b c one two three
      ∙ sym (of_both a (f b c) one (g.there b c two three))
      ∙ ap (both f a) (sym (of_both b c two three))

  by_last : (a b c : Literal) → is_null a ≡ false → is_null b ≡ false → both f (both f a b) c ≡ both f a (both f b c)
  by_last a b Null one two = null_last (both f a b) ∙ ap (both f a) (sym (null_last b))
  by_last a b (Number n) one two = all_there a b (Number n) one two refl
  by_last a b (Text t) one two = all_there a b (Text t) one two refl

  by_middle : (a b c : Literal) → is_null a ≡ false → both f (both f a b) c ≡ both f a (both f b c)
  by_middle a Null c one = ap (λ x. both f x c) (null_last a)
  by_middle a (Number n) c one = by_last a (Number n) c one refl
  by_middle a (Text t) c one = by_last a (Text t) c one refl

  pub both_groups : (a b c : Literal) → both f (both f a b) c ≡ both f a (both f b c)
  both_groups Null b c = refl
  both_groups (Number n) b c = by_middle (Number n) b c refl
  both_groups (Text t) b c = by_middle (Text t) b c refl

  pub all_of-append : (xs ys : List Literal) → all_of f (xs ++ ys) ≡ both f (all_of f xs) (all_of f ys)
  unfolding all_of
  all_of-append [] ys = refl
  all_of-append (x ∷ xs) ys = ap (both f x) (all_of-append xs ys) ∙ sym (both_groups x (all_of f xs) (all_of f ys))

  -- one after the other, from the first on
  pub next_of : (found x : Literal) (xs : List Literal) → both f (both f found x) (all_of f xs) ≡ both f found (all_of f (x ∷ xs))
  unfolding all_of
  next_of found x xs = both_groups found x (all_of f xs)

  pub last_of : (found : Literal) (rest : List Literal) → length rest ≡ 0 → both f found (all_of f rest) ≡ found
  unfolding all_of
  last_of found [] none = null_last found
  last_of found (x ∷ xs) none = let never : ⊥ = omega arith in absurd never

  pub all_of_parts : (parts : List (List Literal)) → all_of f (flat_map (λ part. part) parts) ≡ all_of f (map (all_of f) parts)
  unfolding all_of
  all_of_parts [] = refl
  all_of_parts (part ∷ parts) = all_of-append part (flat_map (λ p. p) parts) ∙ ap (both f (all_of f part)) (all_of_parts parts)

-- SUMS

pub plus_groups : Groups plus
plus_groups = record {
  grouped = λ a b c one two three. ap Number (+ℤ_assoc (number_in a) (number_in b) (number_in c));
  there = λ a b one two. refl;
}

pub number_added : (left right : Literal) → number_in (both plus left right) ≡ number_in left +ℤ number_in right
number_added Null right = omega (arith, ints)
number_added (Number m) Null = omega (arith, ints)
number_added (Number m) (Number n) = refl
number_added (Number m) (Text t) = refl
number_added (Text s) Null = refl
number_added (Text s) (Number n) = refl
number_added (Text s) (Text t) = refl

-- THE LEAST AND THE GREATEST

-- of two the second where it comes before the first
abbrev pub first_of_two : (Literal → Literal → Ordering) → Literal → Literal → Literal
first_of_two order left right = cond (is_lt (order right left)) right left

module _ (order : Literal → Literal → Ordering) (total : IsTotalOrder order) where
  abbrev lt : Literal → Literal → Bool
  lt a b = is_lt (order a b)

  ranks : IsStrictWeakOrder lt
  ranks = ranks_by total (λ (l : Literal). l)

  before_both : (a b c : Literal) → lt c b ≡ true → lt b a ≡ true → lt c a ≡ true
  before_both a b c first second = elim (cases_Bool (lt c a)) [
    | inl before ↦ before
    | inr not_before ↦ absurd (false≢true (sym (ranks.chain c a b not_before (ranks.one_way b a second)) ∙ first))
  ]

  least_grouped : (a b c : Literal) → first_of_two order (first_of_two order a b) c ≡ first_of_two order a (first_of_two order b c)
  least_grouped a b c = elim (cases_Bool (lt b a)) [
    | inl p ↦ elim (cases_Bool (lt c b)) [
      | inl q ↦ let r : lt c a ≡ true = before_both a b c q p in rw (p, q, r) refl
      | inr q ↦ rw (p, q, p) refl
    ]
    | inr p ↦ elim (cases_Bool (lt c b)) [
      | inl q ↦ rw (p, q) refl
      | inr q ↦ let r : lt c a ≡ false = ranks.chain c b a q p in rw (p, q, r, p) refl
    ]
  ]

  least_there : (a b : Literal) → is_null a ≡ false → is_null b ≡ false → is_null (first_of_two order a b) ≡ false
  least_there a b one two = elim (cases_Bool (lt b a)) [
    | inl second ↦ rw second two
    | inr first ↦ rw first one
  ]

  pub least_groups : Groups (first_of_two order)
  least_groups = record { grouped = λ a b c one two three. least_grouped a b c; there = least_there }

pub lesser_groups : Groups lesser
lesser_groups = least_groups cell_cmp cell_total

pub greater_groups : Groups greater
greater_groups = least_groups (λ a b. cell_cmp b a) (back_total cell_total)

pub extreme_groups : (least : Bool) → Groups (cond least lesser greater)
extreme_groups true = lesser_groups
extreme_groups false = greater_groups

-- COUNTS

abbrev counted : List Literal → Literal
counted part = Number (pos (length part))

counts : (parts : List (List Literal)) → both plus (Number (pos 0)) (all_of plus (map counted parts)) ≡ Number (pos (length (flat_map (λ part. part) parts)))
unfolding all_of
counts [] = refl
counts (part ∷ parts) =
    let rest = all_of plus (map counted parts) in
    let swap : both plus (Number (pos 0)) (counted part) ≡ both plus (counted part) (Number (pos 0)) = ap Number (omega (arith, ints)) in
    sym (both_groups plus plus_groups (Number (pos 0)) (counted part) rest)
    ∙ ap (λ c. both plus c rest) swap
    ∙ both_groups plus plus_groups (counted part) (Number (pos 0)) rest
    ∙ ap (both plus (counted part)) (counts parts)
    ∙ ap (λ n. Number (pos n)) (sym (length-append part (flat_map (λ p. p) parts)))

-- ROWS

-- what a function gives of the values of all parts is what it gives of what it gives of each
pub result_merges : (fun : AggFun) (parts : List (List Literal)) → result fun (flat_map (λ part. part) parts) ≡ together fun (map (result fun) parts)
unfolding all_of
result_merges Count parts = sym (counts parts)
result_merges Sum parts = all_of_parts plus plus_groups parts
result_merges Min parts = all_of_parts lesser lesser_groups parts
result_merges Max parts = all_of_parts greater greater_groups parts

cells_of_parts : (column : ℕ) (parts : List (List (List Value))) → map (cell column) (flat_map (λ rows. rows) parts) ≡ flat_map (λ part. part) (map (map (cell column)) parts)
cells_of_parts column [] = refl
cells_of_parts column (rows ∷ parts) = map-append (cell column) rows (flat_map (λ r. r) parts) ∙ ap (λ l. map (cell column) rows ++ l) (cells_of_parts column parts)

pub map-map : {X Y Z : Type 0} (f : X → Y) (g : Y → Z) (xs : List X) → map g (map f xs) ≡ map (λ x. g (f x)) xs
map-map f g [] = refl
map-map f g (x ∷ xs) = ap (λ l. g (f x) ∷ l) (map-map f g xs)

pub over_merges : (a : Aggregate) (parts : List (List (List Value))) → over (flat_map (λ rows. rows) parts) a ≡ together a.fun (map (λ rows. over rows a) parts)
over_merges a parts =
    ap (result a.fun) (cells_of_parts a.column parts) ∙ result_merges a.fun (map (map (cell a.column)) parts) ∙ ap (together a.fun) (map-map (map (cell a.column)) (result a.fun) parts)
