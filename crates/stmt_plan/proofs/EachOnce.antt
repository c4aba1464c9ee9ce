-- A list with as many names as a table has columns, and each of them, has each once.
use Rattle.std.proofs.Common.{◌≡◌, ℕ, suc, zero, ◌+◌, ◌<◌, ◌≤◌, Bool, true, false, cond, List, [], ◌∷◌, ◌++◌, length, get_or, find, sum_by, count_by, option_to_list, Option, Some, None, refl, arith, sym, ap, ◌∙◌, inl, inr, subst, eqb, zero-add}
use Rattle.std.specs.Prelude.{◌==◌}
use Rattle.std.specs.List.{Contains, position, list_all}
use Rattle.std.specs.Option.{is_none, is_some}
use Rattle.std.specs.Cmp.Lexicographic.{pointwise, bytes_decides, nat_list_eq_equiv}
use Rattle.std.proofs.lemmas.Bool.{cases_Bool, both_ways, and_parts}
use Rattle.std.proofs.lemmas.Bool.Decides.{nat_tests}
use Rattle.std.proofs.lemmas.List.Quantifiers.{position-Some}
use Rattle.std.proofs.lemmas.List.Sums.{sum_by-cons}
use Rattle.sql_values.specs.declared.table.ColumnDef.{ColumnDef}
use Rattle.stmt_plan.specs.Apart.{are_apart}
use Rattle.stmt_plan.specs.Inserts.{is_named, targets, slots}
use Rattle.stmt_plan.specs.Laws.{ListsHaveEachOnce}
use Rattle.stmt_plan.proofs.Apart.{apart_of_table}

count_cons : {X : Type 0} (p : X → Bool) (x : X) (xs : List X) → count_by p (x ∷ xs) ≡ cond (p x) 1 0 + count_by p xs
count_cons p x xs = sum_by-cons (λ y. cond (p y) 1 0) x xs

none_count : {X : Type 0} (p : X → Bool) (xs : List X) → is_none (find p xs) ≡ true → count_by p xs ≡ 0
none_count p [] none = refl
none_count p (x ∷ xs) none =
    elim (cases_Bool (p x)) [
      | inl here ↦ absurd (both_ways (is_none (find p (x ∷ xs))) (rw here refl) none)
      | inr other ↦ rw (count_cons p x xs, other) (zero-add (count_by p xs) ∙ none_count p xs (rw other at none))
    ]

-- of columns with different names one has a name that is known
one_count : (name : List ℕ) (columns : List ColumnDef) → are_apart columns ≡ true → is_none (find (is_named name) columns) ≡ false →
    count_by (is_named name) columns ≡ 1
one_count name [] apart known = absurd (both_ways true known refl)
one_count name (c ∷ columns) apart known =
    let both = and_parts (is_none (find (is_named c.name) columns)) (are_apart columns) apart in
    elim (cases_Bool (is_named name c)) [
      | inl here ↦
          let same : c.name ≡ name = (bytes_decides c.name name).0 here in
          let none : count_by (is_named name) columns ≡ 0 = none_count (is_named name) columns (subst (λ (n : List ℕ). is_none (find (is_named n) columns) ≡ true) same both.0) in
          rw (count_cons (is_named name) c columns, here, none) refl
      | inr other ↦ rw (count_cons (is_named name) c columns, other) (zero-add (count_by (is_named name) columns) ∙ one_count name columns both.1 (rw other at known))
    ]

-- how often a column stands in a list of names
abbrev times : List (List ℕ) → ColumnDef → ℕ
times names column = count_by (λ name. is_named name column) names

-- a name is known, and so are the others
known_first : (name : List ℕ) (b : Bool) (rest : Option (List ℕ)) → cond b (Some name) rest ≡ None → (b ≡ false) × (rest ≡ None)
known_first name true rest none = absurd (let no : Some name ≡ None = none in cc)
known_first name false rest none = (refl, none)

abbrev AreKnown : List ColumnDef → List (List ℕ) → Type 0
AreKnown columns names = find (λ name. is_none (find (is_named name) columns)) names ≡ None

ones : (columns : List ColumnDef) (names : List (List ℕ)) → are_apart columns ≡ true → AreKnown columns names →
    sum_by (λ name. count_by (is_named name) columns) names ≡ length names
ones columns [] apart known = refl
ones columns (name ∷ names) apart known =
    let both = known_first name (is_none (find (is_named name) columns)) _ known in
    let one : count_by (is_named name) columns ≡ 1 = one_count name columns apart both.0 in
    let rest : sum_by (λ n. count_by (is_named n) columns) names ≡ length names = ones columns names apart both.1 in
    rw (sum_by-cons (λ n. count_by (is_named n) columns) name names) (omega (arith, one, rest))

-- counted by name and by column
row_added : (c : ColumnDef) (columns : List ColumnDef) (names : List (List ℕ)) →
    sum_by (λ name. count_by (is_named name) (c ∷ columns)) names ≡ times names c + sum_by (λ name. count_by (is_named name) columns) names
row_added c columns [] = refl
row_added c columns (name ∷ names) =
    let rest : sum_by (λ n. count_by (is_named n) (c ∷ columns)) names ≡ times names c + sum_by (λ n. count_by (is_named n) columns) names = row_added c columns names in
    let left : sum_by (λ n. count_by (is_named n) (c ∷ columns)) (name ∷ names) ≡ count_by (is_named name) (c ∷ columns) + sum_by (λ n. count_by (is_named n) (c ∷ columns)) names = sum_by-cons (λ n. count_by (is_named n) (c ∷ columns)) name names in
    let right : sum_by (λ n. count_by (is_named n) columns) (name ∷ names) ≡ count_by (is_named name) columns + sum_by (λ n. count_by (is_named n) columns) names = sum_by-cons (λ n. count_by (is_named n) columns) name names in
    let here : count_by (is_named name) (c ∷ columns) ≡ cond (is_named name c) 1 0 + count_by (is_named name) columns = count_cons (is_named name) c columns in
    let once : times (name ∷ names) c ≡ cond (is_named name c) 1 0 + times names c = count_cons (λ n. is_named n c) name names in
    omega (arith, rest, left, right, here, once)

nothing : (names : List (List ℕ)) → sum_by (λ (name : List ℕ). count_by (is_named name) []) names ≡ 0
nothing [] = refl
nothing (name ∷ names) = rw (sum_by-cons (λ n. count_by (is_named n) []) name names) (zero-add (sum_by (λ (n : List ℕ). count_by (is_named n) []) names) ∙ nothing names)

both_counts : (columns : List ColumnDef) (names : List (List ℕ)) →
    sum_by (times names) columns ≡ sum_by (λ name. count_by (is_named name) columns) names
both_counts [] names = sym (nothing names)
both_counts (c ∷ columns) names =
    rw (sum_by-cons (times names) c columns, row_added c columns names, both_counts columns names) refl

-- of the columns that a list names, as many as it has names, and each as often
found_column : (name : List ℕ) (columns : List ColumnDef) → is_none (find (is_named name) columns) ≡ false →
    (t : ColumnDef) × (find (is_named name) columns ≡ Some t) × (t.name ≡ name)
found_column name [] known = absurd (both_ways true known refl)
found_column name (c ∷ columns) known =
    elim (cases_Bool (is_named name c)) [
      | inl here ↦ (c, rw here refl, (bytes_decides c.name name).0 here)
      | inr other ↦
          let later = found_column name columns (rw other at known) in
          (later.0, rw other later.1, later.2)
    ]

targets_counted : (columns : List ColumnDef) (names : List (List ℕ)) (c : ColumnDef) → AreKnown columns names →
    (length (targets columns (Some names)) ≡ length names) × (count_by (is_named c.name) (targets columns (Some names)) ≡ times names c)
targets_counted columns [] c known = (refl, refl)
targets_counted columns (name ∷ names) c known =
    let both = known_first name (is_none (find (is_named name) columns)) _ known in
    let found = found_column name columns both.0 in
    let rest = targets_counted columns names c both.1 in
    let alike : is_named c.name found.0 ≡ is_named name c = ap (λ (n : List ℕ). pointwise eqb n c.name) found.2 ∙ nat_list_eq_equiv.symm name c.name in
    let here : count_by (is_named c.name) (found.0 ∷ targets columns (Some names)) ≡ cond (is_named c.name found.0) 1 0 + count_by (is_named c.name) (targets columns (Some names)) = count_cons (is_named c.name) found.0 (targets columns (Some names)) in
    let once : times (name ∷ names) c ≡ cond (is_named name c) 1 0 + times names c = count_cons (λ n. is_named n c) name names in
    let list : targets columns (Some (name ∷ names)) ≡ found.0 ∷ targets columns (Some names) = ap (λ (o : Option ColumnDef). option_to_list o ++ targets columns (Some names)) found.1 in
    (rw list (ap (λ (n : ℕ). suc n) rest.0), rw list (here ∙ rw (alike, rest.1) (sym once)))

count_at : {X : Type 0} (p : X → Bool) (xs : List X) (i : ℕ) (d : X) → i < length xs → p (get_or xs i d) ≡ true → 1 ≤ count_by p xs
count_at p [] i d within pass = absurd (omega arith)
count_at p (x ∷ xs) zero d within pass = rw (count_cons p x xs, pass) (omega arith)
count_at p (x ∷ xs) (suc i) d within pass =
    let later : 1 ≤ count_by p xs = count_at p xs i d (omega arith) pass in
    let all : count_by p (x ∷ xs) ≡ cond (p x) 1 0 + count_by p xs = count_cons p x xs in
    omega (arith, later, all)

placed_count : {X : Type 0} (p : X → Bool) (xs : List X) (d : X) (place : Option ℕ) → position p xs ≡ place → is_some place ≡ true → 1 ≤ count_by p xs
placed_count p xs d None found there = absurd (both_ways false refl there)
placed_count p xs d (Some i) found there = let at = position-Some p xs i d found in count_at p xs i d at.0 at.1

all_placed : (columns among : List ColumnDef) → list_all (λ (slot : ColumnDef × Option ℕ). is_some slot.1) (slots columns among) ≡ true →
    (c : ColumnDef) → Contains columns c → is_some (position (is_named c.name) among) ≡ true
all_placed [] among all c there = absurd (omega (arith, there.1))
all_placed (x ∷ columns) among all c (zero, within, is) =
    subst (λ (d : ColumnDef). is_some (position (is_named d.name) among) ≡ true) is (and_parts (is_some (position (is_named x.name) among)) _ all).0
all_placed (x ∷ columns) among all c (suc k, within, is) =
    all_placed columns among (and_parts (is_some (position (is_named x.name) among)) _ all).1 c (k, omega arith, is)

-- numbers of which none is 0, and which add up to how many they are, are 1
at_least : {X : Type 0} (f : X → ℕ) (xs : List X) → ((x : X) → Contains xs x → 1 ≤ f x) → length xs ≤ sum_by f xs
at_least f [] some = omega arith
at_least f (x ∷ xs) some =
    let first : 1 ≤ f x = some x (0, omega arith, refl) in
    let rest : length xs ≤ sum_by f xs = at_least f xs (λ y there. some y (suc there.0, omega (arith, there.1), there.2)) in
    let all : sum_by f (x ∷ xs) ≡ f x + sum_by f xs = sum_by-cons f x xs in
    omega (arith, first, rest, all)

all_one : {X : Type 0} (f : X → ℕ) (xs : List X) → ((x : X) → Contains xs x → 1 ≤ f x) → sum_by f xs ≡ length xs → (y : X) → Contains xs y → f y ≡ 1
all_one f [] some total y there = absurd (omega (arith, there.1))
all_one f (x ∷ xs) some total y (place, within, is) =
    let first : 1 ≤ f x = some x (0, omega arith, refl) in
    let later : (z : _) → Contains xs z → 1 ≤ f z = λ z there. some z (suc there.0, omega (arith, there.1), there.2) in
    let rest : length xs ≤ sum_by f xs = at_least f xs later in
    let all : sum_by f (x ∷ xs) ≡ f x + sum_by f xs = sum_by-cons f x xs in
    at_place f x xs y place within is (omega (arith, first, rest, all, total)) (λ k inside same. all_one f xs later (omega (arith, first, rest, all, total)) y (k, inside, same))
  where
    at_place : {X : Type 0} (f : X → ℕ) (x : X) (xs : List X) (y : X) (place : ℕ) → place < length (x ∷ xs) → get_or (x ∷ xs) place y ≡ y → f x ≡ 1 → ((k : ℕ) → k < length xs → get_or xs k y ≡ y → f y ≡ 1) → f y ≡ 1
    at_place f x xs y zero within is one later = sym (ap f is) ∙ one
    at_place f x xs y (suc k) within is one later = later k (omega arith) is

pub lists_have_each_once : ListsHaveEachOnce
lists_have_each_once table names column is known each there =
    let both = and_parts (length (targets table.columns (Some names)) == length table.columns) _ each in
    let lengths : length (targets table.columns (Some names)) ≡ length table.columns = (let test : (length (targets table.columns (Some names)) == length table.columns) ≡ true = both.0 in grind (arith, nat_tests, test)) in
    let counts = targets_counted table.columns names column known in
    let total : sum_by (times names) table.columns ≡ length table.columns = both_counts table.columns names ∙ ones table.columns names (apart_of_table table is) known ∙ sym counts.0 ∙ lengths in
    all_one (times names) table.columns
    (λ c inside. subst (λ (n : ℕ). 1 ≤ n) (targets_counted table.columns names c known).1
    (placed_count (is_named c.name) (targets table.columns (Some names)) c _ refl (all_placed table.columns (targets table.columns (Some names)) both.1 c inside)))
    total column there
