-- Rows are in a total order, in which different rows may be equal.
use Rattle.std.proofs.Common.{◌≡◌, ℕ, ℤ, pos, Bool, true, false, cond, List, [], ◌∷◌, refl, sym, ◌∙◌, ap}
use Rattle.std.specs.Cmp.{IsTotalOrder, IsStrictWeakOrder}
use Rattle.std.specs.Cmp.Lexicographic.{slice_cmp}
use Rattle.std.specs.Ordering.{nat_cmp, int_cmp, on, then_cmp, ordering_then, ordering_reverse}
use Rattle.std.specs.declared.cmp.Ordering.{Ordering}
use Rattle.std.specs.declared.cmp.Ordering.TheVariants.{Less, Equal, Greater}
use Rattle.std.proofs.lemmas.Cmp.{nat_cmp_total, int_cmp_total, nat_list_cmp_total, on_total, then_total, back_total}
use Rattle.std.proofs.lemmas.List.Sorted.{ranks_by}
use Rattle.sql_values.specs.declared.literal.Literal.{Literal}
use Rattle.sql_values.specs.declared.literal.Literal.TheVariants as literal
use Rattle.sql_values.specs.declared.value.Value.{Value}
use Rattle.front_rows.specs.declared.order.Sort.{Sort}
use Rattle.front_rows.specs.Comparing.{rank, cell_cmp, cell, sort_cmp, rows_cmp, before}

number_in : Literal → ℤ
number_in literal.Null = pos 0
number_in (literal.Number n) = n
number_in (literal.Text t) = pos 0

text_in : Literal → List ℕ
text_in literal.Null = []
text_in (literal.Number n) = []
text_in (literal.Text t) = t

-- the same order, as one by kind, then by number, then by text
abbrev by_parts : Literal → Literal → Ordering
by_parts = then_cmp (on rank nat_cmp) (then_cmp (on number_in int_cmp) (on text_in (slice_cmp nat_cmp)))

then_equal : (o : Ordering) → o ≡ ordering_then o Equal
then_equal Less = refl
then_equal Equal = refl
then_equal Greater = refl

cell_parts : (left right : Literal) → cell_cmp left right ≡ by_parts left right
unfolding number_in text_in
cell_parts literal.Null literal.Null = refl
cell_parts literal.Null (literal.Number n) = refl
cell_parts literal.Null (literal.Text t) = refl
cell_parts (literal.Number m) literal.Null = refl
cell_parts (literal.Number m) (literal.Number n) = then_equal (int_cmp m n)
cell_parts (literal.Number m) (literal.Text t) = refl
cell_parts (literal.Text s) literal.Null = refl
cell_parts (literal.Text s) (literal.Number n) = refl
cell_parts (literal.Text s) (literal.Text t) = refl

parts_total : IsTotalOrder by_parts
parts_total = then_total (on_total rank nat_cmp_total) (then_total (on_total number_in int_cmp_total) (on_total text_in nat_list_cmp_total))

-- what computes the same is as total
same_total : {K : Type 0} (R S : K → K → Ordering) → ((x y : K) → R x y ≡ S x y) → IsTotalOrder S → IsTotalOrder R
same_total R S same total = record {
  antisymm = λ x y. same x y ∙ total.antisymm x y ∙ ap ordering_reverse (sym (same y x));
  trans = λ x y z below above. same x z ∙ total.trans x y z (sym (same x y) ∙ below) (sym (same y z) ∙ above);
  congr = λ x y z tied. same x z ∙ total.congr x y z (sym (same x y) ∙ tied) ∙ sym (same y z);
}

pub cell_total : IsTotalOrder cell_cmp
cell_total = same_total cell_cmp by_parts cell_parts parts_total

sort_total : (sort : Sort) → IsTotalOrder (sort_cmp sort)
sort_total sort = by_direction sort.rising
  where
    by_direction : (rising : Bool) → IsTotalOrder (λ left right. cond rising (cell_cmp (cell sort.column left) (cell sort.column right)) (cell_cmp (cell sort.column right) (cell sort.column left)))
    by_direction true = on_total (cell sort.column) cell_total
    by_direction false = back_total (on_total (cell sort.column) cell_total)

equal_total : IsTotalOrder (λ (left right : List Value). Equal)
equal_total = record {
  antisymm = λ x y. refl;
  trans = λ x y z below above. below;
  congr = λ x y z tied. refl;
}

pub rows_total : (order : List Sort) → IsTotalOrder (rows_cmp order)
rows_total [] = equal_total
rows_total (sort ∷ order) = then_total (sort_total sort) (rows_total order)

pub before_ranks : (order : List Sort) → IsStrictWeakOrder (before order)
before_ranks order = ranks_by (rows_total order) (λ (row : List Value). row)
