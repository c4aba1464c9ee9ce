-- What orders and aggregates are for.
use Rattle.std.specs.Prelude.{◌≡◌, ℕ, ◌+◌, ◌^◌, ◌≤◌, ℤ, ◌<ℤ◌, Bool, true, false, ◌&&◌, List, [], ◌∷◌, Option, Some, length, map, nat_le, slice_get, take}
use Rattle.std.specs.List.{AllByRecursion, flat_map, list_all}
use Rattle.std.specs.List.Sorted.{IsPermutation, IsSortedBy}
use Rattle.std.specs.Option.{option_map_or}
use Rattle.sql_values.specs.declared.value.Value.{Value}
use Rattle.sql_values.specs.declared.value.Value.TheVariants.{Number, Text}
use Rattle.sql_values.specs.declared.table.Kind.{Kind}
use Rattle.sql_values.specs.Laws.{is_of}
use Rattle.sql_values.specs.Conditions.{literal_of, order_of}
use Rattle.sql_values.specs.Expressions.{is_big_int}
use Rattle.sql_values.specs.declared.table.Kind.TheVariants.{BigInt, VarChar}
use Rattle.sql_text.specs.declared.link.LinkAnswer.{LinkAnswer}
use Rattle.sql_text.specs.declared.link.LinkAnswer.TheVariants.{Rows, Cells}
use Rattle.front_rows.specs.declared.aggregate.AggFun.TheVariants.{Count, Sum, Min, Max}
use Rattle.front_rows.specs.declared.aggregate.AggFun.{AggFun}
use Rattle.front_rows.specs.declared.aggregate.Aggregate.{Aggregate}
use Rattle.front_rows.specs.declared.order.Sort.{Sort}
use Rattle.front_rows.specs.Aggregates.{can_merge, cells_over, is_part, merged_results, over}
use Rattle.front_rows.specs.Comparing.{before, cell_cmp}
use Rattle.front_rows.specs.Merging.{IsInOrder, IsMerged, merged_rows}

-- rows have one order
abbrev pub OneOrder : Type 0
OneOrder = (order : List Sort) (rows first second : List (List Value)) → IsInOrder order rows first → IsInOrder order rows second → first ≡ second

-- values of one kind are in the order of conditions
abbrev pub ValuesHaveTheirOrder : Type 0
ValuesHaveTheirOrder = (kind : Kind) (left right : Value) → is_of kind left ≡ true → is_of kind right ≡ true →
    order_of (literal_of left) (literal_of right) ≡ Some (cell_cmp (literal_of left) (literal_of right))

-- each row has a number in the column, and each number is above that of the row before it
abbrev pub RisesFrom : ℕ → ℤ → List (List Value) → Type 0
RisesFrom column low [] = Unit {0}
RisesFrom column low (row ∷ rows) = (key : ℤ) × (slice_get row column ≡ Some (Number key)) × (low <ℤ key) × RisesFrom column key rows

abbrev pub Rises : ℕ → List (List Value) → Type 0
Rises column [] = Unit {0}
Rises column (row ∷ rows) = (key : ℤ) × (slice_get row column ≡ Some (Number key)) × RisesFrom column key rows

-- rows of which no two have one key merge to the one list with these rows that rises by key
abbrev pub KeysMerge : Type 0
KeysMerge = (column : ℕ) (rows sorted rising : List (List Value)) → IsInOrder (record { column = column; rising = true } ∷ []) rows sorted →
    IsPermutation rows rising → Rises column rising → sorted ≡ rising

-- what is merged is the rows of all parts, sorted and cut
abbrev pub MergedRowsAreSorted : Type 0
MergedRowsAreSorted =
    (parts : List LinkAnswer) (order : List Sort) (skip : ℕ) (most : Option ℕ) (rows : List (List Value)) → IsMerged parts order skip most rows → rows ≡ merged_rows order skip most parts

-- FIRST ROWS

abbrev pub rows_answers : List (List (List Value)) → List LinkAnswer
rows_answers parts = map Rows parts

-- so many of the first rows of each part
abbrev pub first_of_each : ℕ → List (List (List Value)) → List (List (List Value))
first_of_each count parts = map (take count) parts

-- where each part is in the order, its first rows are enough for the first rows of all
abbrev pub FirstRowsMerge : Type 0
FirstRowsMerge =
    (order : List Sort) (count skip most : ℕ) (parts : List (List (List Value))) → skip + most ≤ count → AllByRecursion (IsSortedBy (before order)) parts →
    merged_rows order skip (Some most) (rows_answers (first_of_each count parts)) ≡ merged_rows order skip (Some most) (rows_answers parts)

-- AGGREGATES

abbrev pub is_number_kind : Kind → Bool
is_number_kind BigInt = true
is_number_kind (VarChar most) = false

-- counts and sums are numbers
abbrev pub gives_kind : AggFun → Kind → Bool
gives_kind Count kind = is_number_kind kind
gives_kind Sum kind = is_number_kind kind
gives_kind Min kind = true
gives_kind Max kind = true

-- but for COUNT, which looks at none, the row has a value of the kind in the column
abbrev pub looks_at : AggFun → Kind → Option Value → Bool
looks_at Count kind value = true
looks_at Sum kind value = option_map_or (is_of kind) value false
looks_at Min kind value = option_map_or (is_of kind) value false
looks_at Max kind value = option_map_or (is_of kind) value false

abbrev pub suits : List (List Value) → Aggregate → Bool
suits rows a = gives_kind a.fun a.kind && list_all (λ (row : List Value). looks_at a.fun a.kind (slice_get row a.column)) rows

-- each aggregate may be counted over the rows
abbrev pub AreSuited : List Aggregate → List (List Value) → Type 0
AreSuited aggregates rows = list_all (suits rows) aggregates ≡ true

-- what the parts answer
abbrev pub cells_answers : List Aggregate → List (List (List Value)) → List LinkAnswer
cells_answers aggregates parts = map (λ rows. Cells (cells_over aggregates rows ∷ [])) parts

-- a column can hold the value: a number of 64 bits, or a text of at most 1,024 bytes
abbrev pub can_stand : Value → Bool
can_stand (Number n) = is_big_int n
can_stand (Text t) = nat_le (length t) 1024

abbrev pub CanStand : List Value → Type 0
CanStand row = list_all can_stand row ≡ true

-- aggregates over parts that together have no more rows than there are keys, put together, are those over all rows
abbrev pub AggregatesMerge : Type 0
AggregatesMerge =
    (aggregates : List Aggregate) (parts : List (List (List Value))) → AllByRecursion (AreSuited aggregates) parts → AllByRecursion (AllByRecursion CanStand) parts →
    length (flat_map (λ rows. rows) parts) ≤ 2 ^ 64 → merged_results aggregates (cells_answers aggregates parts) ≡ map (over (flat_map (λ rows. rows) parts)) aggregates

-- a part with no more rows than there are keys answers cells that these aggregates may give
abbrev pub AggregatesFit : Type 0
AggregatesFit =
    (aggregates : List Aggregate) (rows : List (List Value)) → AreSuited aggregates rows → AllByRecursion CanStand rows → length rows ≤ 2 ^ 64 →
    is_part aggregates (Cells (cells_over aggregates rows ∷ [])) ≡ true

-- those of such parts can be merged
abbrev pub AggregatesCanMerge : Type 0
AggregatesCanMerge =
    (aggregates : List Aggregate) (parts : List (List (List Value))) → AllByRecursion (AreSuited aggregates) parts → AllByRecursion (AllByRecursion CanStand) parts →
    length (flat_map (λ rows. rows) parts) ≤ 2 ^ 64 → can_merge aggregates (cells_answers aggregates parts) ≡ true

-- they are the same whatever the order of the rows
abbrev pub OrderDoesNotMatter : Type 0
OrderDoesNotMatter = (rows others : List (List Value)) (a : Aggregate) → IsPermutation rows others → over rows a ≡ over others a
