-- Rows of an UPDATE, column by column and row by row.
use Rattle.std.proofs.Common.{◌≡◌, ◌<◌, ◌≤◌, ◌+◌, ℕ, Bool, true, false, not, cond, List, [], ◌∷◌, ◌++◌, map, drop, get_or, length, Option, Some, refl, sym, ◌∙◌, ap, append_assoc}
use Rattle.std.specs.Prelude.{Result, Ok, Err, slice_get}
use Rattle.std.specs.List.{filter, zip}
use Rattle.std.specs.Option.{option_map_or}
use Rattle.std.proofs.lemmas.List.{at_drop_more, at_drop_all, append-nil}
use Rattle.sql_values.specs.declared.literal.Literal.{Literal}
use Rattle.sql_values.specs.declared.storage.StoreFault.{StoreFault}
use Rattle.sql_values.specs.declared.table.ColumnDef.{ColumnDef}
use Rattle.sql_values.specs.declared.table.TableDef.{TableDef}
use Rattle.sql_values.specs.declared.value.Value.{Value}
use Rattle.sql_values.specs.Storing.{stored}
use Rattle.stmt_plan.specs.declared.fault.RowFault.{RowFault}
use Rattle.stmt_plan.specs.declared.planned.SetColumn.{SetColumn}
use Rattle.plain_tables.specs.Updates.{map_ok, map_err, and_then, fault_in_row, set_to, held_in, with_value, set_one, set_all, set_rows, is_same_row, changed}
use Rattle.txn_phases.specs.declared.changing.ChangeFault.{ChangeFault}
use Rattle.txn_phases.specs.declared.changing.ChangeFault.TheVariants as change
use Rattle.txn_phases.specs.declared.changing.Changing.{Changing}
use Rattle.txn_phases.specs.declared.deed.PlacedRow.{PlacedRow}
use Rattle.txn_phases.specs.Changes.{told, change_of}
use Rattle.txn_phases.specs.Deeds.{Row, placed, changes_from, changes_of}
use Rattle.txn_phases.proofs.Told.{told_then, told_mapped}

-- A COLUMN

pub literal_held : (column : ColumnDef) (number : ℕ) (l : Literal) (value : Value) → stored l column.kind ≡ Ok value → held_in column number (Some l) ≡ Ok value
literal_held column number l value is = ap (λ r. map_err (fault_in_row column.name number) r) is

pub literal_told : (column : ColumnDef) (number : ℕ) (l : Literal) (fault : StoreFault) → stored l column.kind ≡ Err fault → told (held_in column number (Some l)) ≡ Err (change.Refused (fault_in_row column.name number fault))
literal_told column number l fault is = ap (λ r. told (map_err (fault_in_row column.name number) r)) is

at_column : (def : TableDef) (number : ℕ) (s : SetColumn) (row : Row) (column : ColumnDef) → slice_get def.columns s.column ≡ Some column → set_one def number s row ≡ map_ok (with_value row s.column) (held_in column number (set_to def row s.value))
at_column def number s row column at = ap (λ o. option_map_or (λ (c : ColumnDef). map_ok (with_value row s.column) (held_in c number (set_to def row s.value))) o (Ok row)) at

pub column_set : (def : TableDef) (number : ℕ) (s : SetColumn) (row : Row) (column : ColumnDef) (value : Value) → slice_get def.columns s.column ≡ Some column → held_in column number (set_to def row s.value) ≡ Ok value
    → set_one def number s row ≡ Ok (with_value row s.column value)
column_set def number s row column value at is = at_column def number s row column at ∙ ap (λ r. map_ok (with_value row s.column) r) is

pub column_told : (def : TableDef) (number : ℕ) (s : SetColumn) (row : Row) (column : ColumnDef) (fault : ChangeFault) → slice_get def.columns s.column ≡ Some column
    → told (held_in column number (set_to def row s.value)) ≡ Err fault → told (set_one def number s row) ≡ Err fault
column_told def number s row column fault at is = ap (λ r. told r) (at_column def number s row column at) ∙ told_mapped (with_value row s.column) (held_in column number (set_to def row s.value)) fault is

-- ALL COLUMNS OF A ROW

set_more : (def : TableDef) (number : ℕ) (sets : List SetColumn) (i : ℕ) (s : SetColumn) (row : Row) → s ≡ get_or sets i s → i < length sets
    → set_all def number (drop i sets) row ≡ and_then (set_one def number s row) (set_all def number (drop (i + 1) sets))
unfolding set_all
set_more def number sets i s row is inside =
    at_drop_more (λ l. set_all def number l row) sets i s inside ∙ ap (λ (y : SetColumn). set_all def number (y ∷ drop (i + 1) sets) row) (sym is)

pub row_next : (def : TableDef) (number : ℕ) (sets : List SetColumn) (i : ℕ) (s : SetColumn) (row new : Row) (all : Result Row RowFault) → s ≡ get_or sets i s → i < length sets
    → set_one def number s row ≡ Ok new → set_all def number (drop i sets) row ≡ all → set_all def number (drop (i + 1) sets) new ≡ all
row_next def number sets i s row new all is inside done so_far =
    sym (set_more def number sets i s row is inside ∙ ap (λ r. and_then r (set_all def number (drop (i + 1) sets))) done) ∙ so_far

pub row_told : (def : TableDef) (number : ℕ) (sets : List SetColumn) (i : ℕ) (s : SetColumn) (row : Row) (all : Result Row RowFault) (fault : ChangeFault) → s ≡ get_or sets i s → i < length sets
    → told (set_one def number s row) ≡ Err fault → set_all def number (drop i sets) row ≡ all → told all ≡ Err fault
row_told def number sets i s row all fault is inside refused so_far =
    ap (λ r. told r) (sym so_far ∙ set_more def number sets i s row is inside) ∙ told_then (set_one def number s row) (set_all def number (drop (i + 1) sets)) fault refused

pub row_done : (def : TableDef) (number : ℕ) (sets : List SetColumn) (i : ℕ) (new : Row) (all : Result Row RowFault) → length sets ≤ i → set_all def number (drop i sets) new ≡ all → all ≡ Ok new
unfolding set_all
row_done def number sets i new all past so_far = sym so_far ∙ at_drop_all (λ l. set_all def number l new) sets i past

-- ALL ROWS

one_row : (c : Changing) (old new : Row) (pairs : List (Row × Row)) (same : Bool)
    → map (placed c.table c.rule) (map (λ (p : Row × Row). p.1) (cond (not same) ((old, new) ∷ pairs) pairs))
    ≡ cond same [] (placed c.table c.rule new ∷ []) ++ map (placed c.table c.rule) (map (λ (p : Row × Row). p.1) pairs)
one_row c old new pairs true = refl
one_row c old new pairs false = refl

by_rest : (c : Changing) (old new : Row) (rows : List Row) (rest : Result (List Row) RowFault)
    → map_ok (λ news. map (placed c.table c.rule) (changed (old ∷ rows) news)) (map_ok (λ news. new ∷ news) rest)
    ≡ map_ok (λ more. change_of c old new ++ more) (map_ok (λ news. map (placed c.table c.rule) (changed rows news)) rest)
by_rest c old new rows (Ok news) = ap Ok (one_row c old new (filter (λ (p : Row × Row). not (is_same_row p.0 p.1)) (zip rows news)) (is_same_row old new))
by_rest c old new rows (Err fault) = refl

row_first : (c : Changing) (number : ℕ) (old : Row) (rows : List Row)
    → changes_from c number (old ∷ rows)
    ≡ map_ok (λ news. map (placed c.table c.rule) (changed (old ∷ rows) news)) (and_then (set_all c.table number c.sets old) (λ new. map_ok (λ news. new ∷ news) (set_rows c.table c.sets (number + 1) rows)))
unfolding set_rows
row_first c number old rows = refl

row_more : (c : Changing) (number : ℕ) (rows : List Row) (i : ℕ) (old : Row) → old ≡ get_or rows i old → i < length rows → changes_from c number (drop i rows) ≡ changes_from c number (old ∷ drop (i + 1) rows)
row_more c number rows i old is inside = at_drop_more (λ l. changes_from c number l) rows i old inside ∙ ap (λ y. changes_from c number (y ∷ drop (i + 1) rows)) (sym is)

set_first : (c : Changing) (number : ℕ) (old new : Row) (rows : List Row) → set_all c.table number c.sets old ≡ Ok new
    → changes_from c number (old ∷ rows) ≡ map_ok (λ more. change_of c old new ++ more) (changes_from c (number + 1) rows)
set_first c number old new rows done =
    row_first c number old rows
    ∙ ap (λ r. map_ok (λ news. map (placed c.table c.rule) (changed (old ∷ rows) news)) (and_then r (λ n. map_ok (λ news. n ∷ news) (set_rows c.table c.sets (number + 1) rows)))) done
    ∙ by_rest c old new rows (set_rows c.table c.sets (number + 1) rows)

told_first : (c : Changing) (number : ℕ) (old : Row) (rows : List Row) (fault : ChangeFault) → told (set_all c.table number c.sets old) ≡ Err fault → told (changes_from c number (old ∷ rows)) ≡ Err fault
told_first c number old rows fault refused =
    ap (λ r. told r) (row_first c number old rows)
    ∙ told_mapped (λ news. map (placed c.table c.rule) (changed (old ∷ rows) news)) (and_then (set_all c.table number c.sets old) (λ new. map_ok (λ news. new ∷ news) (set_rows c.table c.sets (number + 1) rows))) fault
    (told_then (set_all c.table number c.sets old) (λ new. map_ok (λ news. new ∷ news) (set_rows c.table c.sets (number + 1) rows)) fault refused)

joined : (a b : List PlacedRow) (r : Result (List PlacedRow) RowFault) → map_ok (λ l. a ++ l) (map_ok (λ l. b ++ l) r) ≡ map_ok (λ l. (a ++ b) ++ l) r
joined a b (Ok l) = ap Ok (sym (append_assoc a b l))
joined a b (Err fault) = refl

-- what was found so far, and what the rest gives, are what all rows give
pub record Going (c : Changing) (rows : List Row) (changes : List PlacedRow) (i : ℕ) : Type 0 where
  pub left : map_ok (λ l. changes ++ l) (changes_from c (i + 1) (drop i rows)) ≡ changes_of c rows

alone : (r : Result (List PlacedRow) RowFault) → map_ok (λ l. [] ++ l) r ≡ r
alone (Ok l) = refl
alone (Err fault) = refl

pub changes_start : (c : Changing) (rows : List Row) (changes : List PlacedRow) → changes ≡ [] → Going c rows changes 0
changes_start c rows changes is = record { left = ap (λ g. map_ok (λ l. g ++ l) (changes_of c rows)) is ∙ alone (changes_of c rows) }

pub changes_next : (c : Changing) (rows : List Row) (i : ℕ) (old new : Row) (changes more : List PlacedRow) → old ≡ get_or rows i old → i < length rows → set_all c.table (i + 1) c.sets old ≡ Ok new
    → more ≡ changes ++ change_of c old new → Going c rows changes i → Going c rows more (i + 1)
changes_next c rows i old new changes more is inside done grown so_far =
    let rest = changes_from c (i + 1 + 1) (drop (i + 1) rows) in
    let here = row_more c (i + 1) rows i old is inside ∙ set_first c (i + 1) old new (drop (i + 1) rows) done in
    record {
      left = ap (λ g. map_ok (λ l. g ++ l) rest) grown ∙ (sym (ap (λ r. map_ok (λ l. changes ++ l) r) here ∙ joined changes (change_of c old new) rest) ∙ so_far.left);
    }

pub changes_told : (c : Changing) (rows : List Row) (i : ℕ) (old : Row) (changes : List PlacedRow) (fault : ChangeFault) → old ≡ get_or rows i old → i < length rows
    → told (set_all c.table (i + 1) c.sets old) ≡ Err fault → Going c rows changes i → told (changes_of c rows) ≡ Err fault
changes_told c rows i old changes fault is inside refused so_far =
    ap (λ r. told r) (sym so_far.left)
    ∙ told_mapped (λ l. changes ++ l) (changes_from c (i + 1) (drop i rows)) fault
    (ap (λ r. told r) (row_more c (i + 1) rows i old is inside) ∙ told_first c (i + 1) old (drop (i + 1) rows) fault refused)

none_left : (c : Changing) (number : ℕ) → changes_from c number [] ≡ Ok []
unfolding set_rows
none_left c number = refl

pub changes_done : (c : Changing) (rows : List Row) (i : ℕ) (changes : List PlacedRow) → length rows ≤ i → Going c rows changes i → changes_of c rows ≡ Ok changes
changes_done c rows i changes past so_far =
    sym so_far.left
    ∙ ap (λ r. map_ok (λ l. changes ++ l) r) (at_drop_all (λ l. changes_from c (i + 1) l) rows i past ∙ none_left c (i + 1))
    ∙ ap Ok (append-nil changes)
