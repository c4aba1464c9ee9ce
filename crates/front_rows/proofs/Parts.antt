-- Aggregates of parts: each answer fits, all can be merged, and they merge to the aggregates over all rows.
use Rattle.std.proofs.Common.{◌≡◌, ℕ, ◌+◌, ◌^◌, ◌≤◌, ℤ, pos, ◌+ℤ◌, true, List, [], ◌∷◌, ◌++◌, length, map, get_or, None, refl, sym, ◌∙◌, ap, subst, arith}
use Rattle.std.specs.Cmp.Lexicographic.{pointwise}
use Rattle.std.specs.List.{AllByRecursion, flat_map, list_all}
use Rattle.std.proofs.lemmas.Bool.{and_parts}
use Rattle.std.proofs.lemmas.List.{append_assoc, length-append}
use Rattle.sql_values.specs.declared.table.Kind.{Kind}
use Rattle.sql_values.specs.declared.value.Value.{Value}
use Rattle.front_rows.specs.declared.aggregate.AggFun.{AggFun}
use Rattle.front_rows.specs.declared.aggregate.AggFun.TheVariants.{Count, Sum, Min, Max}
use Rattle.front_rows.specs.declared.aggregate.Aggregate.{Aggregate}
use Rattle.front_rows.specs.Aggregates.{cells_over, fits_from, fits_sums, is_cell, number_in, over, results_at, results_from, sums_fit, together}
use Rattle.front_rows.specs.Cells.{cell_text, read_cell}
use Rattle.front_rows.specs.Gathering.{all_cells}
use Rattle.front_rows.specs.Laws.{AggregatesCanMerge, AggregatesFit, AggregatesMerge, AreSuited, CanStand, cells_answers, suits}
use Rattle.front_rows.proofs.Aggregated.{over_merges}
use Rattle.front_rows.proofs.Bounds.{Between, between_wide, count_over, given_cell, given_read, none_between, over_given, sum_between, sum_over}

abbrev Rows : Type 0
Rows = List (List Value)

abbrev flat : List Rows → Rows
flat parts = flat_map (λ rows. rows) parts

-- ONE PART

fits : (aggregates : List Aggregate) (rows : Rows) → AreSuited aggregates rows → AllByRecursion CanStand rows → length rows ≤ 2 ^ 64 → pointwise is_cell aggregates (cells_over aggregates rows) ≡ true
fits [] rows suited stand few = refl
fits (a ∷ aggregates) rows suited stand few =
    let parts = and_parts (suits rows a) (list_all (suits rows) aggregates) suited in
    rw (given_cell a.fun a.kind (over rows a) (over_given a rows parts.0 stand few)) (fits aggregates rows parts.1 stand few)

pub aggregates_fit : AggregatesFit
aggregates_fit aggregates rows suited stand few = fits aggregates rows suited stand few

-- ALL PARTS

-- the parts' rows are those of a table
pub record AreParts (parts : List Rows) : Type 0 where
  pub stand : AllByRecursion (AllByRecursion CanStand) parts
  pub few : length (flat parts) ≤ 2 ^ 64

pub first_few : (rows : Rows) (parts : List Rows) → length (flat (rows ∷ parts)) ≤ 2 ^ 64 → (length rows ≤ 2 ^ 64) × (length (flat parts) ≤ 2 ^ 64)
first_few rows parts few = let both = length-append rows (flat parts) in (omega arith, omega arith)

-- each part suits the first aggregate, and the others
first_suits : (a : Aggregate) (aggregates : List Aggregate) (parts : List Rows) → AllByRecursion (AreSuited (a ∷ aggregates)) parts → AllByRecursion (λ rows. suits rows a ≡ true) parts
first_suits a aggregates [] suited = tt
first_suits a aggregates (rows ∷ parts) suited = ((and_parts (suits rows a) (list_all (suits rows) aggregates) suited.0).0, first_suits a aggregates parts suited.1)

others_suit : (a : Aggregate) (aggregates : List Aggregate) (parts : List Rows) → AllByRecursion (AreSuited (a ∷ aggregates)) parts → AllByRecursion (AreSuited aggregates) parts
others_suit a aggregates [] suited = tt
others_suit a aggregates (rows ∷ parts) suited = ((and_parts (suits rows a) (list_all (suits rows) aggregates) suited.0).1, others_suit a aggregates parts suited.1)

-- their rows of cells
gathered : (aggregates : List Aggregate) (parts : List Rows) → all_cells (cells_answers aggregates parts) ≡ map (cells_over aggregates) parts
gathered aggregates [] = refl
gathered aggregates (rows ∷ parts) = ap (λ l. cells_over aggregates rows ∷ l) (gathered aggregates parts)

-- the cell of the aggregate that stands behind these
cell_at : (front : List Aggregate) (a : Aggregate) (behind : List Aggregate) (rows : Rows) → get_or (cells_over (front ++ a ∷ behind) rows) (length front) None ≡ cell_text (over rows a)
cell_at [] a behind rows = refl
cell_at (b ∷ front) a behind rows = cell_at front a behind rows

-- what the parts say of it
results_there : (front : List Aggregate) (a : Aggregate) (behind : List Aggregate) (parts : List Rows) → AllByRecursion (λ rows. suits rows a ≡ true) parts → AreParts parts
    → results_at a.kind (length front) (map (cells_over (front ++ a ∷ behind)) parts) ≡ map (λ rows. over rows a) parts
results_there front a behind [] suited table = refl
results_there front a behind (rows ∷ parts) suited table =
    let few = first_few rows parts table.few in
    let read = ap (read_cell a.kind) (cell_at front a behind rows) ∙ given_read a.fun a.kind (over rows a) (over_given a rows suited.0 table.stand.0 few.0) in
    let rest = results_there front a behind parts suited.1 (record { stand = table.stand.1; few = few.1 }) in
    rw (read, rest) refl

-- the next place
next_place : (P : ℕ → List Aggregate → Type 0) (front : List Aggregate) (a : Aggregate) (behind : List Aggregate) → P (length (front ++ a ∷ [])) ((front ++ a ∷ []) ++ behind) → P (length front + 1) (front ++ a ∷ behind)
next_place P front a behind there =
    subst (λ n. P n (front ++ a ∷ behind)) (length-append front (a ∷ [])) (subst (P (length (front ++ a ∷ []))) (append_assoc front (a ∷ []) behind) there)

merged_from : (front behind : List Aggregate) (parts : List Rows) → AllByRecursion (AreSuited behind) parts → AreParts parts
    → results_from (length front) behind (map (cells_over (front ++ behind)) parts) ≡ map (over (flat parts)) behind
merged_from front [] parts suited table = refl
merged_from front (a ∷ behind) parts suited table =
    let first = ap (together a.fun) (results_there front a behind parts (first_suits a behind parts suited) table) ∙ sym (over_merges a parts) in
    let rest = next_place (λ place all. results_from place behind (map (cells_over all) parts) ≡ map (over (flat parts)) behind) front a behind (merged_from (front ++ a ∷ []) behind parts (others_suit a behind parts suited) table) in
    rw (first, rest) refl

pub aggregates_merge : AggregatesMerge
aggregates_merge aggregates parts suited stand few =
    ap (results_from 0 aggregates) (gathered aggregates parts) ∙ merged_from [] aggregates parts suited (record { stand = stand; few = few })

-- SUMS

-- sums of the parts' numbers, one after the other
numbers_fit : (a : Aggregate) (n : ℕ) (total : ℤ) (parts : List Rows) → Between n total → AllByRecursion (λ rows. Between (length rows) (number_in (over rows a))) parts → n + length (flat parts) ≤ 2 ^ 64
    → sums_fit total (map number_in (map (λ rows. over rows a) parts)) ≡ true
numbers_fit a n total [] is each few = refl
numbers_fit a n total (rows ∷ parts) is each few =
    let both = length-append rows (flat parts) in
    let next = sum_between n (length rows) total (number_in (over rows a)) is each.0 in
    let wide = between_wide (n + length rows) (total +ℤ number_in (over rows a)) next (omega arith) in
    rw wide (numbers_fit a (n + length rows) (total +ℤ number_in (over rows a)) parts next each.1 (omega arith))

counts_within : (kind : Kind) (column : ℕ) (parts : List Rows) → AllByRecursion (λ rows. Between (length rows) (number_in (over rows (record { fun = Count; column = column; kind = kind })))) parts
counts_within kind column [] = tt
counts_within kind column (rows ∷ parts) = (count_over kind column rows, counts_within kind column parts)

sums_within : (kind : Kind) (column : ℕ) (parts : List Rows) → AllByRecursion (λ rows. suits rows (record { fun = Sum; column = column; kind = kind }) ≡ true) parts → AllByRecursion (AllByRecursion CanStand) parts
    → AllByRecursion (λ rows. Between (length rows) (number_in (over rows (record { fun = Sum; column = column; kind = kind })))) parts
sums_within kind column [] suited stand = tt
sums_within kind column (rows ∷ parts) suited stand = (sum_over kind column rows suited.0 stand.0, sums_within kind column parts suited.1 stand.1)

one_fits : (fun : AggFun) (kind : Kind) (column : ℕ) (parts : List Rows) → AllByRecursion (λ rows. suits rows (record { fun = fun; column = column; kind = kind }) ≡ true) parts → AreParts parts
    → fits_sums fun (map (λ rows. over rows (record { fun = fun; column = column; kind = kind })) parts) ≡ true
one_fits Count kind column parts suited table = numbers_fit (record { fun = Count; column = column; kind = kind }) 0 (pos 0) parts none_between (counts_within kind column parts) (omega (arith, table.few))
one_fits Sum kind column parts suited table = numbers_fit (record { fun = Sum; column = column; kind = kind }) 0 (pos 0) parts none_between (sums_within kind column parts suited table.stand) (omega (arith, table.few))
one_fits Min kind column parts suited table = refl
one_fits Max kind column parts suited table = refl

all_fit : (front behind : List Aggregate) (parts : List Rows) → AllByRecursion (AreSuited behind) parts → AreParts parts → fits_from (length front) behind (map (cells_over (front ++ behind)) parts) ≡ true
all_fit front [] parts suited table = refl
all_fit front (a ∷ behind) parts suited table =
    let suits_first = first_suits a behind parts suited in
    let first = ap (fits_sums a.fun) (results_there front a behind parts suits_first table) ∙ one_fits a.fun a.kind a.column parts suits_first table in
    let rest = next_place (λ place all. fits_from place behind (map (cells_over all) parts) ≡ true) front a behind (all_fit (front ++ a ∷ []) behind parts (others_suit a behind parts suited) table) in
    rw (first, rest) refl

pub aggregates_can_merge : AggregatesCanMerge
aggregates_can_merge aggregates parts suited stand few =
    ap (fits_from 0 aggregates) (gathered aggregates parts) ∙ all_fit [] aggregates parts suited (record { stand = stand; few = few })
