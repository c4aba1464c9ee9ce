-- What aggregates give of rows of a table: its cells fit, are read again, and their sums stay within 128 bits.
use Rattle.std.proofs.Common.{◌≡◌, ℕ, suc, zero, ◌+◌, ◌*◌, ◌^◌, ◌<◌, ◌≤◌, ℤ, pos, negsuc, neg_ℤ, ◌+ℤ◌, ◌≤ℤ◌, Bool, true, false, ◌&&◌, cond, List, [], ◌∷◌, length, map, slice_get, nat_le, nat_lt, Option, Some, None, refl, sym, ◌∙◌, ap, subst, arith}
use Rattle.std.specs.List.{AllByRecursion, list_all}
use Rattle.std.specs.Option.{option_map_or}
use Rattle.std.specs.Fmt.{signed_decimal}
use Rattle.std.specs.Ordering.{is_lt}
use Rattle.std.proofs.lemmas.Bool.{and_parts, false≢true}
use Rattle.std.proofs.lemmas.Bool.Decides.{nat_tests}
use Rattle.std.proofs.lemmas.Int.{ints}
use Rattle.std.proofs.lemmas.List.{length-map}
use Rattle.sql_values.specs.declared.literal.Literal.{Literal}
use Rattle.sql_values.specs.declared.literal.Literal.TheVariants.{Null, Number, Text}
use Rattle.sql_values.specs.declared.table.Kind.{Kind}
use Rattle.sql_values.specs.declared.table.Kind.TheVariants.{BigInt, VarChar}
use Rattle.sql_values.specs.declared.value.Value.{Value}
use Rattle.sql_values.specs.declared.value.Value.TheVariants as value
use Rattle.sql_values.specs.Conditions.{literal_of}
use Rattle.sql_values.specs.Expressions.{is_big_int}
use Rattle.sql_values.specs.Laws.{is_of}
use Rattle.front_rows.specs.declared.aggregate.AggFun.{AggFun}
use Rattle.front_rows.specs.declared.aggregate.AggFun.TheVariants.{Count, Sum, Min, Max}
use Rattle.front_rows.specs.declared.aggregate.Aggregate.{Aggregate}
use Rattle.front_rows.specs.Aggregates.{all_of, both, greater, is_count, is_number, is_result, lesser, may_be_null, number_in, over, plus, result}
use Rattle.front_rows.specs.Cells.{cell_text, is_wide, read_cell, wide_number}
use Rattle.front_rows.specs.Comparing.{cell, cell_cmp}
use Rattle.front_rows.specs.Laws.{CanStand, can_stand, suits}
use Rattle.front_rows.proofs.Aggregated.{number_added}
use Rattle.front_rows.proofs.Numbers.{few_digits, reads_back}

-- SUMS OF SO MANY NUMBERS OF 64 BITS

pub record Between (n : ℕ) (z : ℤ) : Type 0 where
  pub low : neg_ℤ (pos (n * 2 ^ 63)) ≤ℤ z
  pub high : z ≤ℤ pos (n * 9223372036854775807)

pub none_between : Between 0 (pos 0)
none_between = record { low = omega (arith, ints); high = omega (arith, ints) }

pub sum_between : (m n : ℕ) (y z : ℤ) → Between m y → Between n z → Between (m + n) (y +ℤ z)
sum_between m n y z one two = record {
  low = omega (arith, ints, one.low, two.low);
  high = omega (arith, ints, one.high, two.high);
}

-- so many numbers stay within 128 bits
pub between_wide : (n : ℕ) (z : ℤ) → Between n z → n ≤ 2 ^ 64 → is_wide z ≡ true
between_wide n (pos m) is few = narrow m (omega (arith, ints, is.high))
  where
    narrow : (m : ℕ) → m < 2 ^ 127 → nat_lt m (2 ^ 127) ≡ true
    narrow m small = grind (arith, nat_tests)
between_wide n (negsuc m) is few = narrow m (omega (arith, ints, is.low))
  where
    narrow : (m : ℕ) → m < 2 ^ 127 → nat_lt m (2 ^ 127) ≡ true
    narrow m small = grind (arith, nat_tests)

pub big_int_between : (z : ℤ) → is_big_int z ≡ true → Between 1 z
big_int_between (pos n) is =
    let small : n < 2 ^ 63 = grind (arith, nat_tests) in
    record { low = omega (arith, ints); high = omega (arith, ints) }
big_int_between (negsuc n) is =
    let small : n < 2 ^ 63 = grind (arith, nat_tests) in
    record { low = omega (arith, ints); high = omega (arith, ints) }

pub count_between : (n : ℕ) → Between n (pos n)
count_between n = record { low = omega (arith, ints); high = omega (arith, ints) }

-- WHAT AGGREGATES GIVE

-- a value of the kind, or none
pub held : Kind → Literal → Bool
held kind Null = true
held BigInt (Number n) = is_big_int n
held BigInt (Text t) = false
held (VarChar most) (Number n) = false
held (VarChar most) (Text t) = nat_le (length t) 1024

-- what a function gives of values of the kind
pub given : AggFun → Kind → Literal → Bool
given Count BigInt (Number n) = is_wide n && is_count n
given Count kind l = false
given Sum BigInt Null = true
given Sum BigInt (Number n) = is_wide n
given Sum kind l = false
given Min kind l = held kind l
given Max kind l = held kind l

big_int_wide : (z : ℤ) → is_big_int z ≡ true → is_wide z ≡ true
big_int_wide z is = between_wide 1 z (big_int_between z is) (omega arith)

-- THEIR CELLS

wide_cell : (z : ℤ) → is_wide z ≡ true → read_cell BigInt (cell_text (Number z)) ≡ Number z
wide_cell z wide = ap (λ o. option_map_or Number o Null) (reads_back z wide)

wide_text : (test : ℤ → Bool) (z : ℤ) → is_wide z ≡ true → test z ≡ true → is_number test (signed_decimal z) ≡ true
wide_text test z wide passes =
    let short : nat_le (length (signed_decimal z)) 1024 ≡ true = short_text (length (signed_decimal z)) (few_digits z wide) in
    let number : option_map_or test (wide_number (signed_decimal z)) false ≡ true = ap (λ o. option_map_or test o false) (reads_back z wide) ∙ passes in
    rw (short, number) refl
  where
    short_text : (n : ℕ) → n ≤ 65 → nat_le n 1024 ≡ true
    short_text n few = grind (arith, nat_tests)

held_read : (kind : Kind) (l : Literal) → held kind l ≡ true → read_cell kind (cell_text l) ≡ l
unfolding held
held_read kind Null is = refl
held_read BigInt (Number n) is = wide_cell n (big_int_wide n is)
held_read BigInt (Text t) is = absurd (false≢true is)
held_read (VarChar most) (Number n) is = absurd (false≢true is)
held_read (VarChar most) (Text t) is = refl

-- what stands in the cell is read again
pub given_read : (fun : AggFun) (kind : Kind) (l : Literal) → given fun kind l ≡ true → read_cell kind (cell_text l) ≡ l
unfolding given
given_read Count BigInt Null is = absurd (false≢true is)
given_read Count BigInt (Number n) is = wide_cell n (and_parts (is_wide n) (is_count n) is).0
given_read Count BigInt (Text t) is = absurd (false≢true is)
given_read Count (VarChar most) l is = absurd (false≢true is)
given_read Sum BigInt Null is = refl
given_read Sum BigInt (Number n) is = wide_cell n is
given_read Sum BigInt (Text t) is = absurd (false≢true is)
given_read Sum (VarChar most) l is = absurd (false≢true is)
given_read Min kind l is = held_read kind l is
given_read Max kind l is = held_read kind l is

held_cell : (fun : AggFun) (kind : Kind) (l : Literal) → ((text : List ℕ) → is_result fun kind text ≡ is_result Min kind text) → may_be_null fun ≡ true → held kind l ≡ true → option_map_or (is_result fun kind) (cell_text l) (may_be_null fun) ≡ true
unfolding held
held_cell fun kind Null alike null is = null
held_cell fun BigInt (Number n) alike null is = alike (signed_decimal n) ∙ wide_text is_big_int n (big_int_wide n is) is
held_cell fun BigInt (Text t) alike null is = absurd (false≢true is)
held_cell fun (VarChar most) (Number n) alike null is = absurd (false≢true is)
held_cell fun (VarChar most) (Text t) alike null is = alike t ∙ is

-- and is one that the function may give
pub given_cell : (fun : AggFun) (kind : Kind) (l : Literal) → given fun kind l ≡ true → option_map_or (is_result fun kind) (cell_text l) (may_be_null fun) ≡ true
unfolding given
given_cell Count BigInt Null is = absurd (false≢true is)
given_cell Count BigInt (Number n) is = let both = and_parts (is_wide n) (is_count n) is in wide_text is_count n both.0 both.1
given_cell Count BigInt (Text t) is = absurd (false≢true is)
given_cell Count (VarChar most) l is = absurd (false≢true is)
given_cell Sum BigInt Null is = refl
given_cell Sum BigInt (Number n) is = wide_text (λ m. true) n is refl
given_cell Sum BigInt (Text t) is = absurd (false≢true is)
given_cell Sum (VarChar most) l is = absurd (false≢true is)
given_cell Min kind l is = held_cell Min kind l (λ text. refl) refl is
given_cell Max kind l is = held_cell Max kind l (λ text. refl) refl is

-- OVER ROWS

-- the first or the second of two, and so what both are
either_held : (kind : Kind) (b : Bool) (l r : Literal) → held kind l ≡ true → held kind r ≡ true → held kind (cond b r l) ≡ true
either_held kind true l r one two = two
either_held kind false l r one two = one

-- a function that gives one of two
Chooses : (Literal → Literal → Literal) → Type 0
Chooses f = (kind : Kind) (l r : Literal) → held kind l ≡ true → held kind r ≡ true → held kind (f l r) ≡ true

both_held : (f : Literal → Literal → Literal) → Chooses f → (kind : Kind) (l r : Literal) → held kind l ≡ true → held kind r ≡ true → held kind (both f l r) ≡ true
unfolding Chooses
both_held f chooses kind Null r one two = two
both_held f chooses kind (Number m) Null one two = one
both_held f chooses kind (Number m) (Number n) one two = chooses kind (Number m) (Number n) one two
both_held f chooses kind (Number m) (Text t) one two = chooses kind (Number m) (Text t) one two
both_held f chooses kind (Text s) Null one two = one
both_held f chooses kind (Text s) (Number n) one two = chooses kind (Text s) (Number n) one two
both_held f chooses kind (Text s) (Text t) one two = chooses kind (Text s) (Text t) one two

all_held : (f : Literal → Literal → Literal) → Chooses f → (kind : Kind) (values : List Literal) → list_all (held kind) values ≡ true → held kind (all_of f values) ≡ true
unfolding all_of held
all_held f chooses kind [] each = refl
all_held f chooses kind (l ∷ ls) each = let parts = and_parts (held kind l) (list_all (held kind) ls) each in both_held f chooses kind l (all_of f ls) parts.0 (all_held f chooses kind ls parts.1)

lesser_chooses : Chooses lesser
unfolding Chooses
lesser_chooses kind l r one two = either_held kind (is_lt (cell_cmp r l)) l r one two

greater_chooses : Chooses greater
unfolding Chooses
greater_chooses kind l r one two = either_held kind (is_lt (cell_cmp l r)) l r one two

value_held : (kind : Kind) (v : Value) → is_of kind v ≡ true → can_stand v ≡ true → held kind (literal_of v) ≡ true
unfolding held
value_held BigInt (value.Number n) is stands = stands
value_held BigInt (value.Text t) is stands = absurd (false≢true is)
value_held (VarChar most) (value.Number n) is stands = absurd (false≢true is)
value_held (VarChar most) (value.Text t) is stands = stands

stands_at : (row : List Value) (column : ℕ) → CanStand row → option_map_or can_stand (slice_get row column) true ≡ true
stands_at [] column stand = refl
stands_at (v ∷ row) zero stand = (and_parts (can_stand v) (list_all can_stand row) stand).0
stands_at (v ∷ row) (suc column) stand = stands_at row column (and_parts (can_stand v) (list_all can_stand row) stand).1

there_held : (kind : Kind) (o : Option Value) → option_map_or (is_of kind) o false ≡ true → option_map_or can_stand o true ≡ true → held kind (option_map_or literal_of o Null) ≡ true
there_held kind None is stands = absurd (false≢true is)
there_held kind (Some v) is stands = value_held kind v is stands

-- the values of a column of the kind
pub column_held : (kind : Kind) (column : ℕ) (rows : List (List Value)) → list_all (λ (row : List Value). option_map_or (is_of kind) (slice_get row column) false) rows ≡ true → AllByRecursion CanStand rows
    → list_all (held kind) (map (cell column) rows) ≡ true
column_held kind column [] each stand = refl
column_held kind column (row ∷ rows) each stand =
    let parts = and_parts (option_map_or (is_of kind) (slice_get row column) false) _ each in
    rw (there_held kind (slice_get row column) parts.0 (stands_at row column stand.0)) (column_held kind column rows parts.1 stand.1)

-- the number that a sum is
pub sum_is : (l : Literal) (values : List Literal) → number_in (all_of plus (l ∷ values)) ≡ number_in l +ℤ number_in (all_of plus values)
unfolding all_of
sum_is l values = number_added l (all_of plus values)

held_between : (l : Literal) → held BigInt l ≡ true → Between 1 (number_in l)
unfolding held
held_between Null is = record { low = omega (arith, ints); high = omega (arith, ints) }
held_between (Number n) is = big_int_between n is
held_between (Text t) is = absurd (false≢true is)

pub sums_between : (values : List Literal) → list_all (held BigInt) values ≡ true → Between (length values) (number_in (all_of plus values))
unfolding all_of
sums_between [] each = none_between
sums_between (l ∷ values) each =
    let parts = and_parts (held BigInt l) (list_all (held BigInt) values) each in
    let two = sum_between 1 (length values) (number_in l) (number_in (all_of plus values)) (held_between l parts.0) (sums_between values parts.1) in
    let more : 1 + length values ≡ suc (length values) = omega arith in
    subst (λ n. Between n (number_in (all_of plus (l ∷ values)))) more (subst (Between (1 + length values)) (sym (sum_is l values)) two)

-- a sum is a number, or NULL
is_sum : Literal → Bool
is_sum Null = true
is_sum (Number n) = true
is_sum (Text t) = false

held_sum : (l : Literal) → held BigInt l ≡ true → is_sum l ≡ true
unfolding held is_sum
held_sum Null is = refl
held_sum (Number n) is = refl
held_sum (Text t) is = absurd (false≢true is)

both_sum : (l r : Literal) → is_sum l ≡ true → is_sum r ≡ true → is_sum (both plus l r) ≡ true
unfolding is_sum
both_sum Null r one two = two
both_sum (Number m) Null one two = refl
both_sum (Number m) (Number n) one two = refl
both_sum (Number m) (Text t) one two = refl
both_sum (Text s) r one two = absurd (false≢true one)

all_sum : (values : List Literal) → list_all (held BigInt) values ≡ true → is_sum (all_of plus values) ≡ true
unfolding all_of is_sum
all_sum [] each = refl
all_sum (l ∷ values) each = let parts = and_parts (held BigInt l) (list_all (held BigInt) values) each in both_sum l (all_of plus values) (held_sum l parts.0) (all_sum values parts.1)

sum_given : (l : Literal) → is_sum l ≡ true → is_wide (number_in l) ≡ true → given Sum BigInt l ≡ true
unfolding given is_sum
sum_given Null is wide = refl
sum_given (Number n) is wide = wide
sum_given (Text t) is wide = absurd (false≢true is)

-- a count of rows, and a sum of a column's values, are within so many numbers
pub count_over : (kind : Kind) (column : ℕ) (rows : List (List Value)) → Between (length rows) (number_in (result Count (map (cell column) rows)))
count_over kind column rows = subst (λ n. Between (length rows) (pos n)) (sym (length-map rows (cell column))) (count_between (length rows))

pub sum_over : (kind : Kind) (column : ℕ) (rows : List (List Value)) → suits rows (record { fun = Sum; column = column; kind = kind }) ≡ true → AllByRecursion CanStand rows → Between (length rows) (number_in (result Sum (map (cell column) rows)))
sum_over BigInt column rows suited stand =
    let values = map (cell column) rows in
    subst (λ n. Between n (number_in (all_of plus values))) (length-map rows (cell column)) (sums_between values (column_held BigInt column rows suited stand))
sum_over (VarChar most) column rows suited stand = absurd (false≢true suited)

-- what a function gives of the values of a column
values_given : (fun : AggFun) (kind : Kind) (column : ℕ) (rows : List (List Value)) → suits rows (record { fun = fun; column = column; kind = kind }) ≡ true → AllByRecursion CanStand rows → length rows ≤ 2 ^ 64
    → given fun kind (result fun (map (cell column) rows)) ≡ true
unfolding given
values_given Count BigInt column rows suited stand few = rw (between_wide (length rows) (pos (length (map (cell column) rows))) (count_over BigInt column rows) few) refl
values_given Count (VarChar most) column rows suited stand few = absurd (false≢true suited)
values_given Sum BigInt column rows suited stand few =
    let values = map (cell column) rows in
    sum_given (all_of plus values) (all_sum values (column_held BigInt column rows suited stand)) (between_wide (length rows) (number_in (all_of plus values)) (sum_over BigInt column rows suited stand) few)
values_given Sum (VarChar most) column rows suited stand few = absurd (false≢true suited)
values_given Min kind column rows suited stand few = all_held lesser lesser_chooses kind (map (cell column) rows) (column_held kind column rows suited stand)
values_given Max kind column rows suited stand few = all_held greater greater_chooses kind (map (cell column) rows) (column_held kind column rows suited stand)

pub over_given : (a : Aggregate) (rows : List (List Value)) → suits rows a ≡ true → AllByRecursion CanStand rows → length rows ≤ 2 ^ 64 → given a.fun a.kind (over rows a) ≡ true
over_given a rows suited stand few = values_given a.fun a.kind a.column rows suited stand few
