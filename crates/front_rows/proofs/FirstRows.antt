-- The first rows of all are among the first rows of each part.
use Rattle.std.proofs.Common.{◌≡◌, ℕ, suc, zero, ◌+◌, ◌≤◌, Bool, false, List, [], ◌∷◌, ◌++◌, length, map, take, drop, refl, sym, ◌∙◌, ap, subst, arith, inl, inr, ◌⊎◌}
use Rattle.std.specs.Cmp.{IsStrictWeakOrder}
use Rattle.std.specs.List.{AllByRecursion, flat_map}
use Rattle.std.specs.List.Sorted.{IsSortedBy}
use Rattle.std.proofs.lemmas.Bool.{cases_Bool}
use Rattle.std.proofs.lemmas.List.{take-append-drop, take-append-le}
use Rattle.std.proofs.lemmas.List.Folds.{flat_map-map}
use Rattle.sql_text.specs.declared.link.LinkAnswer.TheVariants.{Rows}
use Rattle.sql_values.specs.declared.value.Value.{Value}
use Rattle.front_rows.specs.Comparing.{before}
use Rattle.front_rows.specs.Gathering.{all_rows, answer_rows}
use Rattle.front_rows.specs.Laws.{FirstRowsMerge, first_of_each, rows_answers}
use Rattle.front_rows.specs.Sorting.{insert_by, sorted_by}
use Rattle.front_rows.proofs.OneList.{sorted_tail}
use Rattle.front_rows.proofs.Orders.{before_ranks}

-- FIRST ELEMENTS

taken : {X : Type 0} (m n : ℕ) (xs : List X) → m ≤ n → take m (take n xs) ≡ take m xs
taken zero n xs few = refl
taken (suc m) zero xs few = let no : ⊥ = omega arith in absurd no
taken (suc m) (suc n) [] few = refl
taken (suc m) (suc n) (x ∷ xs) few = ap (λ l. x ∷ l) (taken m n xs (omega arith))

-- what is skipped and what is given are among so many first elements
cut_taken : {X : Type 0} (skip most n : ℕ) (xs : List X) → skip + most ≤ n → take most (drop skip (take n xs)) ≡ take most (drop skip xs)
cut_taken zero most n xs few = taken most n xs (omega arith)
cut_taken (suc skip) most zero xs few = let no : ⊥ = omega arith in absurd no
cut_taken (suc skip) most (suc n) [] few = refl
cut_taken (suc skip) most (suc n) (x ∷ xs) few = cut_taken skip most n xs (omega arith)

same_first : {X : Type 0} (k : ℕ) (xs ys zs : List X) → k ≤ length xs → take k (xs ++ ys) ≡ take k (xs ++ zs)
same_first k xs ys zs few = take-append-le k xs ys few ∙ sym (take-append-le k xs zs few)

module _ {X : Type 0} (lt : X → X → Bool) (o : IsStrictWeakOrder lt) where
  -- INSERTING

  inserted : List X → List X → List X
  inserted [] l = l
  inserted (t ∷ ts) l = insert_by lt t (inserted ts l)

  sorted-append : (xs ys : List X) → sorted_by lt (xs ++ ys) ≡ inserted xs (sorted_by lt ys)
  unfolding sorted_by inserted
  sorted-append [] ys = refl
  sorted-append (x ∷ xs) ys = ap (insert_by lt x) (sorted-append xs ys)

  inserted-append : (xs ys l : List X) → inserted (xs ++ ys) l ≡ inserted xs (inserted ys l)
  unfolding inserted
  inserted-append [] ys l = refl
  inserted-append (x ∷ xs) ys l = ap (insert_by lt x) (inserted-append xs ys l)

  -- the first elements go by the first elements of what is inserted into
  behind : (n : ℕ) (y : X) (ys : List X) → take n (y ∷ ys) ≡ take n (y ∷ take n ys)
  behind zero y ys = refl
  behind (suc n) y ys = ap (λ l. y ∷ l) (sym (taken n (suc n) ys (omega arith)))

  insert_taken : (n : ℕ) (t : X) (l : List X) → take n (insert_by lt t l) ≡ take n (insert_by lt t (take n l))
  insert_taken zero t l = refl
  insert_taken (suc n) t [] = refl
  insert_taken (suc n) t (y ∷ ys) = elim (cases_Bool (lt y t)) [
    | inl first ↦ rw first (ap (λ l. y ∷ l) (insert_taken n t ys))
    | inr not_first ↦ rw not_first (ap (λ l. t ∷ l) (behind n y ys))
  ]

  insert_alike : (n : ℕ) (t : X) (l m : List X) → take n l ≡ take n m → take n (insert_by lt t l) ≡ take n (insert_by lt t m)
  insert_alike n t l m same = insert_taken n t l ∙ ap (λ k. take n (insert_by lt t k)) same ∙ sym (insert_taken n t m)

  inserted_alike : (n : ℕ) (ts l m : List X) → take n l ≡ take n m → take n (inserted ts l) ≡ take n (inserted ts m)
  unfolding inserted
  inserted_alike n [] l m same = same
  inserted_alike n (t ∷ ts) l m same = insert_alike n t (inserted ts l) (inserted ts m) (inserted_alike n ts l m same)

  -- AN ELEMENT THAT STANDS BEHIND OTHERS

  -- the first of these elements, where there is one, doesn't come before d
  pub Follows : X → List X → Type 0
  Follows d [] = Unit {0}
  Follows d (b ∷ bs) = lt b d ≡ false

  -- the one list is the other with d put in behind so many elements
  pub record Late (d : X) (count : ℕ) (with_it without : List X) : Type 0 where
    pub front : List X
    pub back : List X
    pub with_is : with_it ≡ front ++ d ∷ back
    pub without_is : without ≡ front ++ back
    pub follows : Follows d back
    pub far : count ≤ length front

  -- an element in front of what follows it
  in_front : (t d : X) (back : List X) → lt d t ≡ false → Follows d back → insert_by lt t back ≡ t ∷ back
  unfolding Follows
  in_front t d [] above follows = refl
  in_front t d (b ∷ bs) above follows = let first : lt b t ≡ false = o.chain b d t follows above in rw first refl

  insert_late : (t d : X) (front back : List X) → lt d t ≡ false → Follows d back → Late d (suc (length front)) (insert_by lt t (front ++ d ∷ back)) (insert_by lt t (front ++ back))
  insert_late t d [] back above follows = record {
    front = t ∷ [];
    back = back;
    with_is = rw above refl;
    without_is = in_front t d back above follows;
    follows = follows;
    far = omega arith;
  }
  insert_late t d (a ∷ front) back above follows = elim (cases_Bool (lt a t)) [
    | inl first ↦
        let rest = insert_late t d front back above follows in
        record {
          front = a ∷ rest.front;
          back = rest.back;
          with_is = rw first (ap (λ l. a ∷ l) rest.with_is);
          without_is = rw first (ap (λ l. a ∷ l) rest.without_is);
          follows = rest.follows;
          far = let far : suc (length front) ≤ length rest.front = rest.far in omega (arith, far);
        }
    | inr not_first ↦ record {
      front = t ∷ a ∷ front;
      back = back;
      with_is = rw not_first refl;
      without_is = rw not_first refl;
      follows = follows;
      far = omega arith;
    }
  ]

  begin_late : (d : X) (l : List X) → Late d 0 (insert_by lt d l) l
  unfolding Follows
  begin_late d [] = record { front = []; back = []; with_is = refl; without_is = refl; follows = tt; far = omega arith }
  begin_late d (y ∷ ys) = elim (cases_Bool (lt y d)) [
    | inl first ↦
        let rest = begin_late d ys in
        record {
          front = y ∷ rest.front;
          back = rest.back;
          with_is = rw first (ap (λ l. y ∷ l) rest.with_is);
          without_is = ap (λ l. y ∷ l) rest.without_is;
          follows = rest.follows;
          far = omega arith;
        }
    | inr not_first ↦ record { front = []; back = y ∷ ys; with_is = rw not_first refl; without_is = refl; follows = not_first; far = omega arith }
  ]

  inserted_late : (ts : List X) (d : X) (l : List X) → AllByRecursion (λ t. lt d t ≡ false) ts → Late d (length ts) (inserted ts (insert_by lt d l)) (inserted ts l)
  unfolding inserted
  inserted_late [] d l above = begin_late d l
  inserted_late (t ∷ ts) d l above =
      let rest = inserted_late ts d l above.1 in
      let next = insert_late t d rest.front rest.back above.0 rest.follows in
      record {
        front = next.front;
        back = next.back;
        with_is = ap (insert_by lt t) rest.with_is ∙ next.with_is;
        without_is = ap (insert_by lt t) rest.without_is ∙ next.without_is;
        follows = next.follows;
        far = let one : length ts ≤ length rest.front = rest.far in let more : suc (length rest.front) ≤ length next.front = next.far in omega (arith, one, more);
      }

  -- it is none of the first elements
  one_late : (ts : List X) (d : X) (l : List X) → AllByRecursion (λ t. lt d t ≡ false) ts → take (length ts) (inserted ts (insert_by lt d l)) ≡ take (length ts) (inserted ts l)
  one_late ts d l above =
      let late = inserted_late ts d l above in
      ap (take (length ts)) late.with_is ∙ same_first (length ts) late.front (d ∷ late.back) late.back late.far ∙ ap (take (length ts)) (sym late.without_is)

  -- ELEMENTS OF WHICH NONE COMES BEFORE ONE OF OTHERS

  Apart : List X → List X → Type 0
  Apart ts ds = AllByRecursion (λ t. AllByRecursion (λ d. lt d t ≡ false) ds) ts

  first_apart : (ts : List X) (d : X) (ds : List X) → Apart ts (d ∷ ds) → AllByRecursion (λ t. lt d t ≡ false) ts × Apart ts ds
  unfolding Apart
  first_apart [] d ds apart = (tt, tt)
  first_apart (t ∷ ts) d ds apart = let rest = first_apart ts d ds apart.1 in ((apart.0.0, rest.0), (apart.0.1, rest.1))

  all_late : (ts ds l : List X) → Apart ts ds → take (length ts) (inserted ts (inserted ds l)) ≡ take (length ts) (inserted ts l)
  unfolding inserted
  all_late ts [] l apart = refl
  all_late ts (d ∷ ds) l apart = let parts = first_apart ts d ds apart in one_late ts d (inserted ds l) parts.0 ∙ all_late ts ds l parts.1

  lower : (t d : X) (es : List X) → lt d t ≡ false → AllByRecursion (λ e. lt e d ≡ false) es → AllByRecursion (λ e. lt e t ≡ false) es
  lower t d [] above all = tt
  lower t d (e ∷ es) above all = (o.chain e d t all.0 above, lower t d es above all.1)

  above_first : (t : X) (ds : List X) → IsSortedBy lt (t ∷ ds) → AllByRecursion (λ d. lt d t ≡ false) ds
  above_first t [] up = tt
  above_first t (d ∷ ds) up =
      let next : lt d t ≡ false = up 0 t (omega arith) (omega arith) in
      (next, lower t d ds next (above_first d ds (sorted_tail lt t (d ∷ ds) up)))

  all_above : (t : X) (ts ds : List X) → IsSortedBy lt (t ∷ (ts ++ ds)) → AllByRecursion (λ d. lt d t ≡ false) ds
  all_above t [] ds up = above_first t ds up
  all_above t (s ∷ ts) ds up =
      let next : lt s t ≡ false = up 0 t (omega arith) (omega arith) in
      lower t s ds next (all_above s ts ds (sorted_tail lt t (s ∷ (ts ++ ds)) up))

  sorted_apart : (ts ds : List X) → IsSortedBy lt (ts ++ ds) → Apart ts ds
  unfolding Apart
  sorted_apart [] ds up = tt
  sorted_apart (t ∷ ts) ds up = (all_above t ts ds up, sorted_apart ts ds (sorted_tail lt t (ts ++ ds) up))

  -- PARTS

  full : (n : ℕ) (xs : List X) → (take n xs ≡ xs) ⊎ (length (take n xs) ≡ n)
  full zero xs = inr refl
  full (suc n) [] = inl refl
  full (suc n) (x ∷ xs) = elim (full n xs) [
    | inl all ↦ inl (ap (λ l. x ∷ l) all)
    | inr some ↦ inr (ap suc some)
  ]

  first_inserted : (n : ℕ) (xs l : List X) → IsSortedBy lt xs → take n (inserted (take n xs) l) ≡ take n (inserted xs l)
  first_inserted n xs l up = elim (full n xs) [
    | inl all ↦ ap (λ ts. take n (inserted ts l)) all
    | inr some ↦
        let whole : take n xs ++ drop n xs ≡ xs = take-append-drop n xs in
        let apart : Apart (take n xs) (drop n xs) = sorted_apart (take n xs) (drop n xs) (subst (IsSortedBy lt) (sym whole) up) in
        let late : take n (inserted (take n xs) (inserted (drop n xs) l)) ≡ take n (inserted (take n xs) l) =
        subst (λ k. take k (inserted (take n xs) (inserted (drop n xs) l)) ≡ take k (inserted (take n xs) l)) some (all_late (take n xs) (drop n xs) l apart) in
        sym late ∙ ap (take n) (sym (inserted-append (take n xs) (drop n xs) l)) ∙ ap (λ ts. take n (inserted ts l)) whole
  ]

  pub first_of_parts : (n : ℕ) (parts : List (List X)) → AllByRecursion (IsSortedBy lt) parts →
      take n (sorted_by lt (flat_map (λ part. part) (map (take n) parts))) ≡ take n (sorted_by lt (flat_map (λ part. part) parts))
  first_of_parts n [] up = refl
  first_of_parts n (part ∷ parts) up =
      ap (take n) (sorted-append (take n part) (flat_map (λ p. p) (map (take n) parts)))
      ∙ inserted_alike n (take n part) (sorted_by lt (flat_map (λ p. p) (map (take n) parts))) (sorted_by lt (flat_map (λ p. p) parts)) (first_of_parts n parts up.1)
      ∙ first_inserted n part (sorted_by lt (flat_map (λ p. p) parts)) up.0
      ∙ ap (take n) (sym (sorted-append part (flat_map (λ p. p) parts)))

rows_of_answers : (parts : List (List (List Value))) → all_rows (rows_answers parts) ≡ flat_map (λ rows. rows) parts
rows_of_answers parts = flat_map-map answer_rows Rows parts

pub first_rows_merge : FirstRowsMerge
first_rows_merge order count skip most parts few up =
    let lt = before order in
    let cut_parts = first_of_each count parts in
    ap (λ rows. take most (drop skip (sorted_by lt rows))) (rows_of_answers cut_parts)
    ∙ sym (cut_taken skip most count (sorted_by lt (flat_map (λ rows. rows) cut_parts)) few)
    ∙ ap (λ rows. take most (drop skip rows)) (first_of_parts lt (before_ranks order) count parts up)
    ∙ cut_taken skip most count (sorted_by lt (flat_map (λ rows. rows) parts)) few
    ∙ ap (λ rows. take most (drop skip (sorted_by lt rows))) (sym (rows_of_answers parts))
