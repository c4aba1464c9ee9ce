-- The rows of an INSERT that breaks no rule are rows of its table.
use Rattle.std.proofs.Common.{◌≡◌, ℕ, suc, zero, ◌+◌, ◌<◌, ℤ, ◌==◌, nat_lt, nat_le, Bool, true, false, List, [], ◌∷◌, map, Option, Some, None, Result, Ok, Err, refl, arith, sym, ◌∙◌, ap, subst, inl, inr, cond, find, length, get_or, option_to_list, unwrap_or}
use Rattle.std.specs.Prelude.{slice_get, IsSome}
use Rattle.std.specs.List.{AllByRecursion, Contains, list_all, zip, position}
use Rattle.std.specs.Option.{is_none, is_some, option_map}
use Rattle.std.specs.Result.{is_ok, result_err}
use Rattle.std.specs.Str.{chars}
use Rattle.std.specs.Cmp.Lexicographic.{pointwise, bytes_decides}
use Rattle.std.proofs.lemmas.Bool.{cases_Bool, false≢true, and_parts, and_from}
use Rattle.std.proofs.lemmas.Bool.Decides.{nat_tests}
use Rattle.std.proofs.lemmas.List.{length-map}
use Rattle.std.proofs.lemmas.List.Quantifiers.{position-Some}
use Rattle.std.proofs.lemmas.Option.{slice_get-get_or}
use Rattle.sql_values.specs.declared.literal.Literal.{Literal}
use Rattle.sql_values.specs.declared.literal.Literal.TheVariants as literal
use Rattle.sql_values.specs.declared.storage.StoreFault.{StoreFault}
use Rattle.sql_values.specs.declared.storage.StoreFault.TheVariants.{TooLong}
use Rattle.sql_values.specs.declared.table.ColumnDef.{ColumnDef}
use Rattle.sql_values.specs.declared.table.Kind.{Kind}
use Rattle.sql_values.specs.declared.table.Kind.TheVariants.{BigInt, VarChar}
use Rattle.sql_values.specs.declared.table.TableDef.{TableDef}
use Rattle.sql_values.specs.declared.value.Value.{Value}
use Rattle.sql_values.specs.declared.value.Value.TheVariants as value
use Rattle.sql_values.specs.Conditions.{literal_of}
use Rattle.sql_values.specs.Laws.{is_of}
use Rattle.sql_values.specs.Storing.{stored, is_within}
use Rattle.part_rules.specs.declared.rule.Rule.{Rule}
use Rattle.part_rules.specs.Placing.{part}
use Rattle.sql_text.specs.declared.statement.Insert.{Insert}
use Rattle.sql_text.specs.declared.statement.TableStatement.TheVariants as statement
use Rattle.stmt_plan.specs.declared.fault.StmtFault.{StmtFault}
use Rattle.stmt_plan.specs.declared.fault.StmtFault.TheVariants.{ColumnCount, NoPartition}
use Rattle.stmt_plan.specs.Faults.{fault_of_store}
use Rattle.stmt_plan.specs.Inserts.{is_named, targets, slots, has_each_once, miscounted, cell_fault, row_fault, rows_fault, held, slot_value, row_of, rows_of, row_key}
use Rattle.stmt_plan.specs.Plans.{IsTable}
use Rattle.stmt_plan.specs.Refusals.{refusal}
use Rattle.plain_tables.specs.Inserts.{AreRows}
use Rattle.plain_tables.specs.Rows.{Row, key_of, HasKey, FitsColumns, can_hold}
use Rattle.plain_tables.proofs.Fitting.{stored_again}
use Rattle.plain_tables.proofs.Members.{at_front, behind, either, nothing, in_lists, all_of, all_by}
use Rattle.branch_store.specs.Opening.{is_definition}
use Rattle.branch_store.proofs.Keys.{rows_have_keys}
use Rattle.txn_phases.specs.Phases.{is_short, is_shaped}
use Rattle.front_core.specs.Jobs.{kinds_of}
use Rattle.plain_tables.proofs.Scanned.{both_none, unmapped}
use Rattle.phase_law.proofs.Fits.{passes}
use Rattle.phase_law.proofs.Lists.{is_same, is_itself, at_place, place_of, slice_get_there}

-- VALUES

cell_stored : (r : Result Value StoreFault) (c : ColumnDef) (row : ℕ) → option_map (fault_of_store c.name row) (result_err r) ≡ None → (v : Value) × (r ≡ Ok v) × (held r ≡ v)
cell_stored (Ok v) c row none = (v, refl, refl)
cell_stored (Err fault) c row none = absurd (let no : Some (fault_of_store c.name row fault) ≡ None = none in cc)

-- a column can hold what it has of a literal that is stored
slot_by : (literals : List Literal) (c : ColumnDef) (i : ℕ) (l : Literal) (v : Value) → slice_get literals i ≡ Some l → stored l c.kind ≡ Ok v → held (stored l c.kind) ≡ v → can_hold (c, slot_value literals (c, Some i)) ≡ true
slot_by literals c i l v there is held_is =
    let shown : slot_value literals (c, Some i) ≡ held (stored l c.kind) = ap (λ (o : Option Literal). held (stored (unwrap_or o literal.Null) c.kind)) there in
    ap (λ x. can_hold (c, x)) (shown ∙ held_is) ∙ stored_again l c.kind v is

-- CELLS

-- a literal stands under the column of its place
cell_at : (row : ℕ) (among : List ColumnDef) (literals : List Literal) (i : ℕ) (c : ColumnDef) (l : Literal) → row_fault row (zip among literals) ≡ None → slice_get among i ≡ Some c → slice_get literals i ≡ Some l → cell_fault row (c, l) ≡ None
cell_at row [] literals i c l none at there = absurd (let no : None ≡ Some c = at in cc)
cell_at row (d ∷ among) [] i c l none at there = absurd (let no : None ≡ Some l = there in cc)
cell_at row (d ∷ among) (k ∷ literals) zero c l none at there =
    let column : d ≡ c = cc in
    let literal : k ≡ l = cc in
    rw (sym column, sym literal) (both_none (cell_fault row (d, k)) (row_fault row (zip among literals)) none).0
cell_at row (d ∷ among) (k ∷ literals) (suc i) c l none at there = cell_at row among literals i c l (both_none (cell_fault row (d, k)) (row_fault row (zip among literals)) none).1 at there

found_in : (name : List ℕ) (columns : List ColumnDef) (c : ColumnDef) → Contains (option_to_list (find (is_named name) columns)) c → Contains columns c
found_in name [] c there = nothing c there
found_in name (d ∷ columns) c there = elim (cases_Bool (is_named name d)) [
  | inl here ↦
      let only : Contains (d ∷ []) c = subst (λ b. Contains (option_to_list (cond b (Some d) (find (is_named name) columns))) c) here there in
      elim (either d c [] only) [
        | inl same ↦ subst (Contains (d ∷ columns)) same (at_front d columns)
        | inr none ↦ nothing c none
      ]
  | inr other ↦ behind d c columns (found_in name columns c (subst (λ b. Contains (option_to_list (cond b (Some d) (find (is_named name) columns))) c) other there))
]

-- the columns of a statement's list are the table's
targets_in : (columns : List ColumnDef) (names : Option (List (List ℕ))) (c : ColumnDef) → Contains (targets columns names) c → Contains columns c
targets_in columns None c there = there
targets_in columns (Some names) c there =
    let at = in_lists (λ name. option_to_list (find (is_named name) columns)) names c there in found_in at.0 columns c at.2

-- columns of a table with one name are one
one_column : (def : TableDef) (c d : ColumnDef) → IsTable def → Contains def.columns c → Contains def.columns d → c.name ≡ d.name → c ≡ d
one_column def c d is there here same =
    let at = place_of def.columns c there in
    let other = place_of def.columns d here in
    let place : at.0 ≡ other.0 = is.apart at.0 other.0 c d at.1 other.1 same in
    let twice : Some c ≡ Some d = sym at.1 ∙ (ap (slice_get def.columns) place ∙ other.1) in
    cc

module _ (def : TableDef) (is : IsTable def) (among : List ColumnDef) (within : (c : ColumnDef) → Contains among c → Contains def.columns c) (row : ℕ) (literals : List Literal)
    (long : length literals ≡ length among) (none : row_fault row (zip among literals) ≡ None) where
  -- the value of a column that has a place
  slot_fits : (c : ColumnDef) (place : Option ℕ) → Contains def.columns c → position (is_named c.name) among ≡ place → is_some place ≡ true → can_hold (c, slot_value literals (c, place)) ≡ true
  slot_fits c None there at some = absurd (false≢true some)
  slot_fits c (Some i) there at some =
      let stands = position-Some (is_named c.name) among i c at in
      let inside : i < length literals = omega (arith, stands.0, long) in
      let target : ColumnDef = get_or among i c in
      let is_target : slice_get among i ≡ Some target = slice_get-get_or among i c stands.0 in
      let literal_there = slice_get_there literals i inside in
      let same : target ≡ c = one_column def target c is (within target (at_place among i target is_target)) there ((bytes_decides target.name c.name).0 stands.1) in
      let fault : cell_fault row (c, literal_there.0) ≡ None = subst (λ (d : ColumnDef). cell_fault row (d, literal_there.0) ≡ None) same (cell_at row among literals i target literal_there.0 none is_target literal_there.1) in
      let stored_there = cell_stored (stored literal_there.0 c.kind) c row fault in
      slot_by literals c i literal_there.0 stored_there.0 literal_there.1 stored_there.1 stored_there.2

  slots_fit : (columns : List ColumnDef) → ((c : ColumnDef) → Contains columns c → Contains def.columns c) → list_all (λ (slot : ColumnDef × Option ℕ). is_some slot.1) (slots columns among) ≡ true
      → list_all can_hold (zip columns (row_of (slots columns among) literals)) ≡ true
  slots_fit [] part_of all = refl
  slots_fit (c ∷ columns) part_of all =
      let both = and_parts (is_some (position (is_named c.name) among)) (list_all (λ (slot : ColumnDef × Option ℕ). is_some slot.1) (slots columns among)) all in
      and_from _ _ (slot_fits c (position (is_named c.name) among) (part_of c (at_front c columns)) refl both.0) (slots_fit columns (λ d at. part_of d (behind c d columns at)) both.1)

  row_fits : list_all (λ (slot : ColumnDef × Option ℕ). is_some slot.1) (slots def.columns among) ≡ true → FitsColumns def (row_of (slots def.columns among) literals)
  row_fits all =
      let count : length (row_of (slots def.columns among) literals) ≡ length def.columns = length-map (slots def.columns among) (slot_value literals) ∙ length-map def.columns (λ (column : ColumnDef). (column, position (is_named column.name) among)) in
      let test : (length (row_of (slots def.columns among) literals) == length def.columns) ≡ true = ap (λ k. k == length def.columns) count ∙ is_itself (length def.columns) in
      and_from _ _ test (slots_fit def.columns (λ c at. at) all)

-- ROWS

counted_first : (b : Bool) (rest : Option StmtFault) (row : ℕ) → cond b rest (Some (ColumnCount row)) ≡ None → (b ≡ true) × (rest ≡ None)
counted_first true rest row none = (refl, none)
counted_first false rest row none = absurd (let no : Some (ColumnCount row) ≡ None = none in cc)

rows_fit : (def : TableDef) (among : List ColumnDef) (row : ℕ) (rows : List (List Literal)) → IsTable def → ((c : ColumnDef) → Contains among c → Contains def.columns c) → length among ≡ length def.columns
    → list_all (λ (slot : ColumnDef × Option ℕ). is_some slot.1) (slots def.columns among) ≡ true → miscounted (length def.columns) row rows ≡ None → rows_fault among row rows ≡ None
    → AllByRecursion (FitsColumns def) (map (row_of (slots def.columns among)) rows)
rows_fit def among row [] is within long all counted none = tt
rows_fit def among row (literals ∷ rows) is within long all counted none =
    let count = counted_first (length literals == length def.columns) (miscounted (length def.columns) (row + 1) rows) row counted in
    let values = both_none (row_fault row (zip among literals)) (rows_fault among (row + 1) rows) none in (
      row_fits def is among within row literals (is_same (length literals) (length def.columns) count.0 ∙ sym long) values.0 all,
      rows_fit def among (row + 1) rows is within long all count.1 values.1,
    )

-- each new row has a value for each column
pub new_rows_fit : (def : TableDef) (rule : Rule) (insert : Insert) → IsTable def → refusal def rule (statement.Insert insert) ≡ None → AllByRecursion (FitsColumns def) (rows_of def insert.columns insert.rows)
new_rows_fit def rule insert is none =
    let pass = passes def rule (statement.Insert insert) none in
    let among : List ColumnDef = targets def.columns insert.columns in
    let count = counted_first (has_each_once def.columns among) (miscounted (length def.columns) 1 insert.rows) 1 pass.counted in
    let each = and_parts (length among == length def.columns) (list_all (λ (slot : ColumnDef × Option ℕ). is_some slot.1) (slots def.columns among)) count.0 in
    rows_fit def among 1 insert.rows is (λ c there. targets_in def.columns insert.columns c there) (is_same (length among) (length def.columns) each.0) each.1 count.1 pass.stored

-- KEYS

some_part : (o : Option ℕ) (k : ℤ) (rest : Option ℤ) → cond (is_none o) (Some k) rest ≡ None → IsSome o × (rest ≡ None)
some_part None k rest none = absurd (let no : Some k ≡ None = none in cc)
some_part (Some p) k rest none = (refl, none)

rows_placed : (def : TableDef) (rule : Rule) (rows : List Row) → find (λ k. is_none (part rule k)) (map (row_key def.key) rows) ≡ None → AllByRecursion (λ row. IsSome (part rule (key_of def row))) rows
rows_placed def rule [] none = tt
rows_placed def rule (row ∷ rows) none =
    let first = some_part (part rule (row_key def.key row)) (row_key def.key row) (find (λ k. is_none (part rule k)) (map (row_key def.key) rows)) none in
    (first.0, rows_placed def rule rows first.1)

-- and a key that lies in a partition
pub new_rows_may_be : (def : TableDef) (rule : Rule) (insert : Insert) → IsTable def → is_definition def ≡ true → refusal def rule (statement.Insert insert) ≡ None → AreRows def rule (rows_of def insert.columns insert.rows)
new_rows_may_be def rule insert is small none =
    let news : List Row = rows_of def insert.columns insert.rows in
    let fit = new_rows_fit def rule insert is none in
    record {
      keyed = all_by (HasKey def) news (λ row c. rows_have_keys def row small (all_of (FitsColumns def) news row fit c));
      placed = rows_placed def rule news (unmapped NoPartition _ (passes def rule (statement.Insert insert) none).placed);
    }

-- SHAPES

short_by : (t : List ℕ) (most : ℕ) → is_within most t ≡ true → nat_lt (length t) 1025 ≡ true
short_by t most within = let few : nat_le (length t) 1024 ≡ true = (and_parts (nat_le (length t) 1024) (nat_le (length (chars t)) most) within).0 in grind (arith, nat_tests)

ok_within : (b : Bool) (v : Value) (fault : StoreFault) → is_ok (cond {A = Result Value StoreFault} b (Ok v) (Err fault)) ≡ true → b ≡ true
ok_within true v fault ok = refl
ok_within false v fault ok = absurd (false≢true ok)

value_shaped : (kind : Kind) (v : Value) → is_ok (stored (literal_of v) kind) ≡ true → (is_of kind v ≡ true) × (is_short v ≡ true)
value_shaped BigInt (value.Number n) ok = (refl, refl)
value_shaped BigInt (value.Text t) ok = absurd (false≢true ok)
value_shaped (VarChar most) (value.Number n) ok = absurd (false≢true ok)
value_shaped (VarChar most) (value.Text t) ok =
    let within : is_within most t ≡ true = ok_within (is_within most t) (value.Text t) TooLong ok in (refl, short_by t most within)

values_shaped : (columns : List ColumnDef) (row : Row) → length row ≡ length columns → list_all can_hold (zip columns row) ≡ true
    → (pointwise is_of (map (λ (c : ColumnDef). c.kind) columns) row ≡ true) × (list_all is_short row ≡ true)
values_shaped [] [] long fit = (refl, refl)
values_shaped [] (v ∷ row) long fit = absurd (omega arith)
values_shaped (c ∷ columns) [] long fit = absurd (omega arith)
values_shaped (c ∷ columns) (v ∷ row) long fit =
    let both = and_parts (can_hold (c, v)) (list_all can_hold (zip columns row)) fit in
    let here = value_shaped c.kind v both.0 in
    let rest = values_shaped columns row (omega arith) both.1 in
    (and_from _ _ here.0 rest.0, and_from _ _ here.1 rest.1)

-- a row of a table has a value of each of its kinds
pub row_is_shaped : (def : TableDef) (row : Row) → FitsColumns def row → is_shaped (kinds_of def) row ≡ true
row_is_shaped def row fit =
    let both = and_parts (length row == length def.columns) (list_all can_hold (zip def.columns row)) fit in
    let each = values_shaped def.columns row (is_same (length row) (length def.columns) both.0) both.1 in
    and_from _ _ each.0 each.1

pub rows_are_shaped : (def : TableDef) (rows : List Row) → AllByRecursion (FitsColumns def) rows → list_all (is_shaped (kinds_of def)) rows ≡ true
rows_are_shaped def [] fit = refl
rows_are_shaped def (row ∷ rows) fit = and_from _ _ (row_is_shaped def row fit.0) (rows_are_shaped def rows fit.1)
